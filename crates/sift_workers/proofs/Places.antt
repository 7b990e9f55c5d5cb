-- Lists of which something comes at each place.
use Rattle.std.proofs.Common.{◌≡◌, ℕ, ◌+◌, ◌<◌, List, ◌++◌, All, length, take, drop, slice_index_or, slice_set, length-set, refl, sym, ap, ◌∙◌, subst, arith}
use Rattle.std.specs.List.{AllZip}
use Rattle.std.proofs.Math.Seq.{take-append_seam}
use Rattle.std.proofs.lemmas.List.{get_or-set_same, get_or-set_other, get_or_default}
use mathlib.Core.Logic.{dite}
use native.Mathlib.Decide.{ℕ_discrete}
use Rattle.sift_workers.specs.Going.{AtEachPlace}
use Rattle.sift_workers.proofs.Dealt.{home_zip}

module _ {X : Type 0} (R : X → X → Type 0) where
  -- each place came of itself
  pub each_itself : ((x : X) → R x x) → (xs : List X) → AtEachPlace R xs xs
  each_itself itself xs = record { long = refl; at = λ i d low. itself (slice_index_or xs i d) }

  module _ (on : (x y z : X) → R x y → R y z → R x z) where
    -- what came of each place, and then further
    pub each_further : (xs ys zs : List X) → AtEachPlace R xs ys → AtEachPlace R ys zs → AtEachPlace R xs zs
    each_further xs ys zs first then = record {
      long = then.long ∙ first.long;
      at = λ i d low. on _ _ _ (first.at i d low) (then.at i d (let long = first.long in omega arith));
    }

    -- what came of each place, and then of one place further
    pub each_set : (xs ys : List X) (i : ℕ) (d z : X) → AtEachPlace R xs ys → i < length ys → R (slice_index_or ys i d) z → AtEachPlace R xs (slice_set ys i z)
    each_set xs ys i d z first low step = record {
      long = length-set ys i z ∙ first.long;
      at = λ k e under. dite (ℕ_discrete k i)
          (λ same. subst (λ (n : ℕ). R (slice_index_or xs n e) (slice_index_or (slice_set ys i z) n e)) (sym same)
          (subst (λ (y : X). R (slice_index_or xs i e) y) (sym (get_or-set_same ys i z e low))
          (on _ _ _ (first.at i e (let long = first.long in omega arith)) (subst (λ (y : X). R y z) (get_or_default ys i d e low) step))))
          (λ other. subst (λ (y : X). R (slice_index_or xs k e) y) (sym (get_or-set_other ys i k z e other)) (first.at k e under));
    }

-- what holds of the first items, and of the next one as it was set, holds of one item more
pub set_below : {X : Type 0} (P : X → Type 0) (xs : List X) (i : ℕ) (z : X) → ((k : ℕ) (d : X) → k < i → P (slice_index_or xs k d)) → i < length xs → P z →
    (k : ℕ) (d : X) → k < i + 1 → P (slice_index_or (slice_set xs i z) k d)
set_below P xs i z before low here k d under = dite (ℕ_discrete k i)
    (λ same. subst (λ (n : ℕ). P (slice_index_or (slice_set xs i z) n d)) (sym same) (subst P (sym (get_or-set_same xs i z d low)) here))
    (λ other. subst P (sym (get_or-set_other xs i k z d other)) (before k d (omega arith)))

-- what was written over all items of a list stands there place by place
pub written_over : {X : Type 0} (R : X → X → Type 0) (Q : X → Type 0) (xs now ys : List X) (n : ℕ) → now ≡ xs → n ≡ length xs → AtEachPlace R now ys →
    All Q ys → AllZip (λ x y. R x y × Q y) xs (take n (ys ++ drop (length ys) xs))
written_over {X} R Q xs now ys n same size came all =
    let each = subst (λ (zs : List X). AtEachPlace R zs ys) same came in
    let long : n ≡ length ys = size ∙ sym each.long in
    subst (λ (zs : List X). AllZip (λ x y. R x y × Q y) xs zs)
    (sym (ap (λ (k : ℕ). take k (ys ++ drop (length ys) xs)) long ∙ take-append_seam ys (drop (length ys) xs))) (home_zip R Q xs ys each all)
