-- Sets within a mission's units, and the units in their places.
use Rattle.std.proofs.Common.{◌≡◌, ℕ, zero, suc, ◌+◌, ◌<◌, List, [], ◌∷◌, Bool, true, false, not, ◌&&◌, Some, inl, inr, refl, sym, ap, ◌∙◌, arith}
use Rattle.std.specs.Prelude.{slice_get}
use Rattle.std.specs.List.{filter, range_with_len}
use Rattle.std.specs.FinSet as set
use Rattle.std.specs.FinSet.{nat_cmp-IsAntisymmetric}
use Rattle.std.specs.Ordering.{nat_cmp}
use Rattle.std.proofs.lemmas.Bool.{cases_Bool, cases_lt}
use Rattle.std.proofs.lemmas.Cmp.{nat_cmp_total}
use Rattle.std.proofs.lemmas.List.Elements.{filter_agree}
use Rattle.sift_base.specs.Units.{Units, AreUnits, MembersAreTheSet, has, holds, members, unit_limit, unit_numbers}
use Rattle.sift_base.specs.laws.Ranges.{has-range, range-low}

module _ (units all : Units) (n : ℕ) (first : (w : ℕ) → holds all w ≡ has (range_with_len 0 n) w) where
  left : (w : ℕ) → holds (set.difference units all) w ≡ (holds units w && not (has (range_with_len 0 n) w))
  left w = set.contains-difference nat_cmp_total units all w ∙ ap (λ b. holds units w && not b) (first w)

  -- where nothing is left of a set without the first units, each of its members is one of them
  pub none_left : set.len (set.difference units all) ≡ 0 → (w : ℕ) → holds units w ≡ true → w < n
  none_left zero_left w there = elim (cases_Bool (has (range_with_len 0 n) w)) [
    | inl t ↦ let x = range-low 0 n w t in omega (arith, x)
    | inr f ↦
        let empty : holds (set.difference units all) w ≡ false = ap (λ s. holds s w) (set.empty_of_len (set.difference units all) zero_left) ∙ set.contains-empty nat_cmp w in
        let full : holds (set.difference units all) w ≡ true = left w ∙ rw (there, f) refl in
        absurd cc
  ]

  -- and the other way round
  pub all_inside : ((w : ℕ) → holds units w ≡ true → w < n) → set.len (set.difference units all) ≡ 0
  all_inside inside =
      let same : set.difference units all ≡ set.empty = set.same_set nat_cmp_total nat_cmp-IsAntisymmetric (set.difference units all) set.empty (λ w.
      left w ∙ (elim (cases_Bool (holds units w)) [
        | inl t ↦ (let x = has-range 0 n w (omega arith) (let low = inside w t in omega (arith, low)) in rw (t, x) (sym (set.contains-empty nat_cmp w)))
        | inr f ↦ rw f (sym (set.contains-empty nat_cmp w))
      ])) in
      ap set.len same ∙ set.len-empty nat_cmp

-- the unit at a place of the first ones is the one of that number
pub place_first : (a n i u : ℕ) → slice_get (range_with_len a n) i ≡ Some u → (u ≡ a + i) × (i < n)
place_first a zero zero u e = absurd cc
place_first a zero (suc i) u e = absurd cc
place_first a (suc n) zero u e = (let same : a ≡ u = (cc) in (omega (arith, same), omega arith))
place_first a (suc n) (suc i) u e = let rest = place_first (a + 1) n i u e in (omega (arith, rest.0), omega (arith, rest.1))

-- ---- lists of members

-- where two sets of units have the same members, in a list, they are one set
pub one_set : (a b : Units) → AreUnits a → AreUnits b → MembersAreTheSet → members a ≡ members b → a ≡ b
one_set a b inside inside' law same = set.same_set nat_cmp_total nat_cmp-IsAntisymmetric a b (λ w. elim (cases_lt w unit_limit) [
  | inl low ↦ sym ((law a).1 w low) ∙ ap (λ us. has us w) same ∙ (law b).1 w low
  | inr high ↦ elim (cases_Bool (holds a w)) [
    | inl t ↦ let x = inside w t in absurd (omega (arith, x, high))
    | inr f ↦ elim (cases_Bool (holds b w)) [
      | inl t ↦ let x = inside' w t in absurd (omega (arith, x, high))
      | inr g ↦ f ∙ sym g
    ]
  ]
])

-- the members that aren't in another set are those of the list that don't pass its test
pub filter_both : (p q : ℕ → Bool) (us : List ℕ) → filter (λ u. p u && q u) us ≡ filter q (filter p us)
filter_both p q [] = refl
filter_both p q (u ∷ us) = elim (cases_Bool (p u)) [
  | inl t ↦ rw t (elim (cases_Bool (q u)) [ inl s ↦ rw (s, filter_both p q us) refl | inr s ↦ rw (s, filter_both p q us) refl ])
  | inr f ↦ rw (f, filter_both p q us) refl
]

-- the members of one set without another are those members of the first that the second doesn't have
pub members_left : (a b : Units) → members (set.difference a b) ≡ filter (λ w. not (holds b w)) (members a)
unfolding members
members_left a b =
    filter_agree (holds (set.difference a b)) (λ w. holds a w && not (holds b w)) (λ w. set.contains-difference nat_cmp_total a b w) unit_numbers
    ∙ filter_both (holds a) (λ w. not (holds b w)) unit_numbers
