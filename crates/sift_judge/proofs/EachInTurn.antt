-- Each unit of a list in turn: what holds of all of them, and how many pass a test.
use Rattle.std.proofs.Common.{◌≡◌, ℕ, ◌+◌, ◌<◌, ◌≤◌, List, [], ◌∷◌, length, get_or, take, Bool, true, false, cond, refl, sym, ap, ◌∙◌, subst, arith}
use Rattle.std.proofs.Common.{length-append}
use Rattle.std.specs.Prelude.{◌↔◌}
use Rattle.std.specs.List.{All, AllWithin, filter}
use Rattle.std.proofs.lemmas.List.{length-take-le}
use Rattle.std.proofs.lemmas.List.Elements.{AllWithin-more, at_read, filter_more}
use Rattle.sift_exec.specs.laws.Counted.{filter-≤}

module _ (P : ℕ → Type 0) (us : List ℕ) (i : ℕ) where
  module _ (u : ℕ) (inside : i < length us) (is : u ≡ get_or us i u) where
    -- one unit more of which it holds
    pub one_more : AllWithin P us 0 i → P u → AllWithin P us 0 (i + 1)
    one_more before here = AllWithin-more P us 0 i before (at_read us P i u inside is here)

    -- where it doesn't hold of one, it doesn't of all
    pub not_all : (P u → ⊥) → (false ≡ true) ↔ All P us
    not_all not_here = ((λ t. absurd cc), (λ all. absurd (not_here (subst P (sym is) (all i u inside)))))

  -- where no unit is left, it holds of all
  pub all_are : length us ≤ i → AllWithin P us 0 i → (true ≡ true) ↔ All P us
  all_are seen before = ((λ t k d low. before k d (omega arith) (omega (arith, low, seen))), (λ all. refl))

module _ (passes : ℕ → Bool) (us : List ℕ) (i : ℕ) where
  -- of so many units no more pass
  pub few_pass : i ≤ length us → length (filter passes (take i us)) ≤ i
  few_pass inside = omega (arith, filter-≤ passes (take i us), length-take-le i us inside)

  module _ (u : ℕ) (inside : i < length us) (is : u ≡ get_or us i u) (n : ℕ) (so_far : n ≡ length (filter passes (take i us))) where
    more : length (filter passes (take (i + 1) us)) ≡ n + length (cond (passes u) (u ∷ []) [])
    more =
        ap length (filter_more passes us i u inside)
        ∙ length-append (filter passes (take i us)) (cond (passes (get_or us i u)) (get_or us i u ∷ []) [])
        ∙ ap (λ m. m + length (cond (passes (get_or us i u)) (get_or us i u ∷ []) [])) (sym so_far)
        ∙ ap (λ v. n + length (cond (passes v) (v ∷ []) [])) (sym is)

    -- one that passes is one more
    pub count_more : passes u ≡ true → n + 1 ≡ length (filter passes (take (i + 1) us))
    count_more t = sym (more ∙ ap (λ b. n + length (cond b (u ∷ []) [])) t)

    -- and one that doesn't isn't
    pub count_same : passes u ≡ false → n ≡ length (filter passes (take (i + 1) us))
    count_same f = let same = more ∙ ap (λ b. n + length (cond b (u ∷ []) [])) f in omega (arith, same)
