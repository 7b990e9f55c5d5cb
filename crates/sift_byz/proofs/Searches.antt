-- Searches of lists one element after another, and lists that are written anew.
use Rattle.std.proofs.Common.{◌≡◌, ◌<◌, ◌≤◌, ◌+◌, ℕ, List, [], ◌∷◌, ◌++◌, length, get_or, take, drop, map, Bool, true, false, ◌&&◌, ap, refl, sym, ◌∙◌, Option, Some, None, arith}
use Rattle.std.specs.List.{list_any}
use Rattle.std.specs.Str.{bytes_eq}
use Rattle.std.proofs.lemmas.List.{at_drop_all, at_drop_more}
use Rattle.sift_base.specs.Units.{has}
use Rattle.sift_byz.specs.declared.reading.Lie.{Lie}
use Rattle.sift_byz.specs.Plan.{first_lie, lie_of, stands_last, tells_some}

-- ---- whether one of some elements passes a test

module _ {X : Type 0} (p : X → Bool) (xs : List X) (i : ℕ) where
  module _ (d x : X) (low : i < length xs) (is : x ≡ get_or xs i d) where
    -- this one does
    pub any_here : list_any p (drop i xs) ≡ list_any p xs → p x ≡ true → true ≡ list_any p xs
    any_here left passes = (rw (sym is, passes) at (sym (at_drop_more (list_any p) xs i d low))) ∙ left

    -- this one doesn't, and so it is up to the others
    pub any_more : list_any p (drop i xs) ≡ list_any p xs → p x ≡ false → list_any p (drop (i + 1) xs) ≡ list_any p xs
    any_more left fails = (rw (sym is, fails) at (sym (at_drop_more (list_any p) xs i d low))) ∙ left

  -- none is left
  pub any_end : list_any p (drop i xs) ≡ list_any p xs → length xs ≤ i → false ≡ list_any p xs
  any_end left end = sym (at_drop_all (list_any p) xs i end) ∙ left

-- ---- whether a unit tells one of some lies

module _ (lies : List Lie) (u i : ℕ) where
  module _ (lie : Lie) (low : i < length lies) (is : lie ≡ get_or lies i lie) where
    -- it tells this one
    pub tells_here :
        tells_some (map lie_of (drop i lies)) u ≡ tells_some (map lie_of lies) u → stands_last u lie.path.items ≡ true
        → true ≡ tells_some (map lie_of lies) u
    tells_here left tells = (rw (sym is, tells) at (sym (at_drop_more (λ ls. tells_some (map lie_of ls) u) lies i lie low))) ∙ left

    -- it doesn't
    pub tells_more :
        tells_some (map lie_of (drop i lies)) u ≡ tells_some (map lie_of lies) u → stands_last u lie.path.items ≡ false
        → tells_some (map lie_of (drop (i + 1) lies)) u ≡ tells_some (map lie_of lies) u
    tells_more left not = (rw (sym is, not) at (sym (at_drop_more (λ ls. tells_some (map lie_of ls) u) lies i lie low))) ∙ left

  -- none is left
  pub tells_none : tells_some (map lie_of (drop i lies)) u ≡ tells_some (map lie_of lies) u → length lies ≤ i → false ≡ tells_some (map lie_of lies) u
  tells_none left end = sym (at_drop_all (λ ls. tells_some (map lie_of ls) u) lies i end) ∙ left

-- ---- the first lie that tells a unit something by a path

module _ (lies : List Lie) (written : List ℕ) (to i : ℕ) where
  -- what the first lie tells, from one on
  abbrev pub first_from : ℕ → Option (Option ℕ)
  first_from k = first_lie (map lie_of (drop k lies)) written to

  module _ (lie : Lie) (low : i < length lies) (is : lie ≡ get_or lies i lie) where
    -- this one tells it
    pub first_here :
        first_from i ≡ first_lie (map lie_of lies) written to → bytes_eq lie.path.items written ≡ true → has lie.to.items to ≡ true
        → Some lie.value ≡ first_lie (map lie_of lies) written to
    first_here left path receiver =
        (rw (sym is, path, receiver) at (sym (at_drop_more (λ ls. first_lie (map lie_of ls) written to) lies i lie low))) ∙ left

    -- this one doesn't
    pub first_more :
        first_from i ≡ first_lie (map lie_of lies) written to → (bytes_eq lie.path.items written && has lie.to.items to) ≡ false
        → first_from (i + 1) ≡ first_lie (map lie_of lies) written to
    first_more left none = (rw (sym is, none) at (sym (at_drop_more (λ ls. first_lie (map lie_of ls) written to) lies i lie low))) ∙ left

  -- none does
  pub first_end : first_from i ≡ first_lie (map lie_of lies) written to → length lies ≤ i → None ≡ first_lie (map lie_of lies) written to
  first_end left end = sym (at_drop_all (λ ls. first_lie (map lie_of ls) written to) lies i end) ∙ left

-- ---- lists that are written anew

-- a list into which as many elements are written has these
pub refilled : {X : Type 0} (xs ws : List X) → length ws ≡ length xs → take (length xs) (ws ++ drop (length ws) xs) ≡ ws
refilled [] [] same = refl
refilled [] (w ∷ ws) same = absurd (omega arith)
refilled (x ∷ xs) [] same = absurd (omega arith)
refilled (x ∷ xs) (w ∷ ws) same = ap (λ l. w ∷ l) (refilled xs ws (omega arith))
