-- Differing places, unit by unit.
use Rattle.std.proofs.Common.{◌≡◌, ℕ, zero, suc, ◌<◌, Bool, true, false, ◌&&◌, ◌||◌, nat_eq, Option, List, [], ◌∷◌, length, take, get_or, add-one, ◌+◌, arith, ap, ◌∙◌, refl, sym, inl, inr}
use Rattle.std.specs.FinSet as set
use Rattle.std.proofs.lemmas.Bool.{cases_eq, eq-eqb, ne_eqb}
use Rattle.sift_base.specs.Units.{Units, holds}
use Rattle.sift_base.specs.laws.ReadBack.{true_last, false_last, or_false, or_assoc}
use Rattle.sift_base.specs.laws.Sets.{holds-insert}
use Rattle.sift_vote.specs.Majority.{differs, has_differing}

-- the first units with one more have what they had, and that one's place
pub differing_front : (us : List ℕ) (places : List (Option ℕ)) (vote : Option ℕ) (u i d : ℕ) (absent : Option ℕ) → i < length us → length places ≡ length us →
    has_differing (take (suc i) us) (take (suc i) places) vote u ≡ (has_differing (take i us) (take i places) vote u || (nat_eq (get_or us i d) u && differs (get_or places i absent) vote))
differing_front [] places vote u i d absent within same = absurd (omega arith)
differing_front (v ∷ us) [] vote u i d absent within same = absurd (omega arith)
differing_front (v ∷ us) (place ∷ places) vote u zero d absent within same = or_false (nat_eq v u && differs place vote)
differing_front (v ∷ us) (place ∷ places) vote u (suc i) d absent within same =
    ap (λ b. (nat_eq v u && differs place vote) || b) (differing_front us places vote u i d absent (omega arith) (omega arith)) ∙ or_assoc (nat_eq v u && differs place vote) _ _

-- a set with one unit more has what it had, and that unit
pub joins : (caught : Units) (t u : ℕ) (seen : Bool) → holds caught u ≡ seen → holds (set.insert caught t) u ≡ (seen || nat_eq t u)
joins caught t u seen is = holds-insert caught t u ∙ elim (cases_eq t u) [
  | inl same ↦ rw (eq-eqb t u same, eq-eqb u t (sym same)) (sym (or_true seen))
  | inr other ↦ rw (ne_eqb t u other, ne_eqb u t (λ e. other (sym e)), is) (sym (or_false seen))
]
  where
    or_true : (b : Bool) → (b || true) ≡ true
    or_true true = refl
    or_true false = refl

-- one unit more and its place, where the units so far are those with a place that differs
module _ (us : List ℕ) (places : List (Option ℕ)) (vote : Option ℕ) (caught : Units) (i t : ℕ) (place : Option ℕ)
    (within : i < length us) (same : length places ≡ length us) (unit_is : t ≡ get_or us i t) (place_is : place ≡ get_or places i place)
    (are : (u : ℕ) → holds caught u ≡ has_differing (take i us) (take i places) vote u) where
  front : (u : ℕ) → has_differing (take (i + 1) us) (take (i + 1) places) vote u ≡ (has_differing (take i us) (take i places) vote u || (nat_eq t u && differs place vote))
  front u = rw (add-one i) (differing_front us places vote u i t place within same
      ∙ (λ j. has_differing (take i us) (take i places) vote u || (nat_eq (sym unit_is j) u && differs (sym place_is j) vote)))

  -- whose place differs joins them
  pub differing_joins : differs place vote ≡ true → (u : ℕ) → holds (set.insert caught t) u ≡ has_differing (take (i + 1) us) (take (i + 1) places) vote u
  differing_joins differ u = joins caught t u (has_differing (take i us) (take i places) vote u) (are u)
      ∙ sym (front u ∙ ap (λ b. has_differing (take i us) (take i places) vote u || (nat_eq t u && b)) differ
      ∙ ap (λ b. has_differing (take i us) (take i places) vote u || b) (true_last (nat_eq t u)))

  -- whose place doesn't differ doesn't
  pub same_stays_out : differs place vote ≡ false → (u : ℕ) → holds caught u ≡ has_differing (take (i + 1) us) (take (i + 1) places) vote u
  same_stays_out agree u = are u
      ∙ sym (front u ∙ ap (λ b. has_differing (take i us) (take i places) vote u || (nat_eq t u && b)) agree
      ∙ ap (λ b. has_differing (take i us) (take i places) vote u || b) (false_last (nat_eq t u))
      ∙ or_false (has_differing (take i us) (take i places) vote u))
