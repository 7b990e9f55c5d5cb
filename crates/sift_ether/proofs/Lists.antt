-- Lists of tokens, and lists read by index.
use Rattle.std.proofs.Common.{◌≡◌, ℕ, zero, suc, ◌+◌, ◌<◌, List, [], ◌∷◌, ◌++◌, length, map, slice_index_or, length-append, sym, ap, ◌∙◌, subst, arith}
use Rattle.std.specs.List.{All}
use Rattle.std.proofs.lemmas.List.{get_or_append_left}
use Rattle.std.proofs.Math.Seq.{get_or-append_seam}
use mathlib.Core.Logic.{dite}
use native.Mathlib.Decide.{ℕ_discrete}
use Rattle.atomic_table.specs.Seated.{TableId}
use Rattle.sift_base.specs.declared.slots.Layout.{Layout}
use Rattle.sift_ether.specs.declared.seat.Token.{Token}
use Rattle.sift_ether.specs.Tokens.{IsNewAt, AreNewAt}

-- what holds of each element holds with one more
at_push : {A : Type 0} (P : ℕ → A → Type 0) (xs : List A) (x : A) (n : ℕ) → length xs ≡ n →
    ((u : ℕ) (d : A) → u < n → P u (slice_index_or xs u d)) → P n x → (u : ℕ) (d : A) → u < n + 1 → P u (slice_index_or (xs ++ x ∷ []) u d)
at_push {A} P xs x n count each here u d low = dite (ℕ_discrete u n)
    (λ e. subst (λ (z : A). P u z) (sym (ap (λ (i : ℕ). slice_index_or (xs ++ x ∷ []) i d) (e ∙ sym count) ∙ get_or-append_seam xs x [] d))
    (subst (λ (i : ℕ). P i x) (sym e) here))
    (λ ne. subst (λ (z : A). P u z) (sym (get_or_append_left xs (x ∷ []) d u (omega arith))) (each u d (omega arith)))

-- a list of one
pub all_one : {A : Type 0} (P : A → Type 0) (x : A) → P x → All P (x ∷ [])
all_one P x p zero d low = p
all_one P x p (suc k) d low = absurd (omega arith)

-- one new token more
pub new_push : (table : TableId) (layout : Layout) (frames n : ℕ) (ts : List Token) (t : Token) → AreNewAt table layout frames n ts →
    IsNewAt table layout frames n t → AreNewAt table layout frames (n + 1) (ts ++ t ∷ [])
new_push table layout frames n ts t are new = record {
  count = length-append ts (t ∷ []) ∙ ap (λ (i : ℕ). i + 1) are.count;
  each = at_push (IsNewAt table layout frames) ts t n are.count are.each new;
}

-- what holds of each element holds of one in the middle
pub at_seam : {A : Type 0} (P : A → Type 0) (all xs : List A) (x : A) (ys : List A) → xs ++ x ∷ ys ≡ all →
    ((u : ℕ) (d : A) → u < length all → P (slice_index_or all u d)) → P x
at_seam {A} P all xs x ys e each = subst P (ap (λ (l : List A). slice_index_or l (length xs) x) (sym e) ∙ get_or-append_seam xs x ys x)
    (each (length xs) x (subst (λ (l : List A). length xs < length l) e (let n = length-append xs (x ∷ ys) in omega arith)))

-- what holds of what is made of each element holds of the mapped list
pub each_mapped : {A B : Type 0} (f : A → B) (P : ℕ → B → Type 0) (xs : List A) → ((u : ℕ) (d : A) → u < length xs → P u (f (slice_index_or xs u d))) →
    (u : ℕ) (d : B) → u < length xs → P u (slice_index_or (map f xs) u d)
each_mapped f P [] each u d low = absurd (omega arith)
each_mapped f P (x ∷ xs) each zero d low = each zero x low
each_mapped f P (x ∷ xs) each (suc u) d low = each_mapped f (λ v. P (suc v)) xs (λ v d' l. each (suc v) d' (omega arith)) u d (omega arith)
