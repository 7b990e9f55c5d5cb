-- Lists of units: the first ones, those that remain, and the members of a set in turn.
use Rattle.std.proofs.Common.{◌≡◌, ℕ, zero, suc, ◌+◌, ◌-◌, ◌/◌, ◌^◌, ◌<◌, ◌≤◌, Bool, true, false, not, ◌&&◌, ◌||◌, cond, nat_eq, List, [], ◌∷◌, length, take, drop, get_or, filter, slice_get, Some, arith, add-one, drop-cons, unwrap_or, ap, ◌∙◌, sym, refl, inl, inr}
use Rattle.std.specs.List.{range_with_len}
use Rattle.std.specs.Cmp.{nat_cmp_total}
use Rattle.std.specs.FinSet as set
use Rattle.std.proofs.lemmas.Bool.{cases_Bool, cases_eq, and_parts}
use Rattle.std.proofs.lemmas.List.FromFn.{length-range_with_len}
use Rattle.sift_base.specs.Units.{Units, AreUnits, unit_numbers, holds, has, has_bit, members, units_of}
use Rattle.sift_base.specs.laws.ReadBack.{has-filter, has_low, both, holds-units_of, or_assoc}
use Rattle.sift_base.specs.laws.Sets.{members_without, members_are, passing_ascend}
use Rattle.sift_base.specs.laws.Ranges.{range-low, range-ascends}
use Rattle.sift_base.specs.laws.Counts.{filter_same}
use Rattle.sift_config.specs.Config.{IsConfig, first_units, remaining}

-- ---- the first units

-- what a set of bits has below 8 are the numbers that have one
members_of_bits : (bits : ℕ) → members (units_of bits) ≡ filter (has_bit bits) unit_numbers
unfolding members
members_of_bits bits = filter_same (holds (units_of bits)) (has_bit bits) unit_numbers (λ u there. holds-units_of bits u there)

-- the lowest bits are those of the first units
pub first_bits : (n : ℕ) → 4 ≤ n → n ≤ 8 → members (units_of (255 / 2 ^ (8 - n))) ≡ first_units n
first_bits n enough few = elim (cases_eq n 4) [
  | inl e ↦ rw e (members_of_bits 15)
  | inr ne ↦
      elim (cases_eq n 5) [
        | inl e ↦ rw e (members_of_bits 31)
        | inr nf ↦
            elim (cases_eq n 6) [
              | inl e ↦ rw e (members_of_bits 63)
              | inr ng ↦
                  elim (cases_eq n 7) [ inl e ↦ rw e (members_of_bits 127) | inr nh ↦ last (omega arith) ]
            ]
      ]
]
  where
    last : n ≡ 8 → members (units_of (255 / 2 ^ (8 - n))) ≡ first_units n
    last e = rw e (members_of_bits 255)

-- all units of a computer are a configuration
pub first_are_config : (n : ℕ) → 4 ≤ n → n ≤ 8 → IsConfig (first_units n)
first_are_config n enough few = record {
  enough = omega (arith, length-range_with_len 0 n);
  ascending = range-ascends 0 n;
  inside = λ u there. omega (arith, range-low 0 n u there);
}

-- ---- the units that remain

-- what remains of a configuration is one, where four remain
pub remaining_are_config : (us : List ℕ) (gone : Units) → IsConfig us → 4 ≤ length (remaining us gone) → IsConfig (remaining us gone)
remaining_are_config us gone is enough = record {
  enough = enough;
  ascending = passing_ascend (λ u. not (holds gone u)) us is.ascending;
  inside = λ u there. is.inside u (and_parts (not (holds gone u)) (has us u) (sym (has-filter (λ u. not (holds gone u)) us u) ∙ there)).1;
}

-- to filter twice is to filter by both tests
filter_both : (p q : ℕ → Bool) (ks : List ℕ) → filter (λ u. p u && not (q u)) ks ≡ filter (λ u. not (q u)) (filter p ks)
filter_both p q [] = refl
filter_both p q (k ∷ ks) =
    let rest = filter_both p q ks in
    elim (cases_Bool (p k)) [ inl t ↦ rw t (ap (λ us. cond (not (q k)) (k ∷ us) us) rest) | inr f ↦ rw f rest ]

-- the members of a difference are those that remain
pub members-difference : (units gone : Units) → members (set.difference units gone) ≡ remaining (members units) gone
unfolding members
members-difference units gone =
    filter_same (holds (set.difference units gone)) (λ u. holds units u && not (holds gone u)) unit_numbers (λ u there. set.contains-difference nat_cmp_total units gone u)
    ∙ filter_both (holds units) (holds gone) unit_numbers

-- they are units, as the set's members are
pub difference_are_units : (units gone : Units) → AreUnits units → AreUnits (set.difference units gone)
difference_are_units units gone are u there = are u (and_parts (holds units u) (not (holds gone u)) (sym (set.contains-difference nat_cmp_total units gone u) ∙ there)).0

-- ---- members in turn

-- the list of a set of units has just the units that the set has
pub has-members : (units : Units) (u : ℕ) → AreUnits units → has (members units) u ≡ holds units u
unfolding members
has-members units u are = has-filter (holds units) unit_numbers u ∙ both (holds units u) (has unit_numbers u) (λ there. has_low u (are u there))

-- a set without its first member, where it is what the list has from place i on
pub next_members : (units : Units) (us : List ℕ) (i t : ℕ) → i < length us → members units ≡ drop i us → slice_get (members units) 0 ≡ Some t
    → members (set.remove units t) ≡ drop (i + 1) us
next_members units us i t within is first =
    let parts : members units ≡ get_or us i t ∷ drop (i + 1) us = is ∙ rw (add-one i) (drop-cons us i t within) in
    let front : Some (get_or us i t) ≡ Some t = rw parts at first in
    let head : get_or us i t ≡ t = ap (λ o. unwrap_or o t) front in
    members_without units t (drop (i + 1) us) (parts ∙ ap (λ u. u ∷ drop (i + 1) us) head)

-- a front of a list with one more has what it had, and that one
pub has_front : (us : List ℕ) (u i t : ℕ) → slice_get (drop i us) 0 ≡ Some t → has (take (i + 1) us) u ≡ (has (take i us) u || nat_eq t u)
has_front us u i t first = rw (add-one i) (front us i first)
  where
    last : (a b : Bool) → (a || (b || false)) ≡ (a || b)
    last true b = refl
    last false true = refl
    last false false = refl

    front : (us : List ℕ) (i : ℕ) → slice_get (drop i us) 0 ≡ Some t → has (take (suc i) us) u ≡ (has (take i us) u || nat_eq t u)
    front [] zero first = absurd cc
    front [] (suc i) first = absurd cc
    front (v ∷ us) zero first = let e : v ≡ t = ap (λ o. unwrap_or o t) first in rw e (last false (nat_eq t u))
    front (v ∷ us) (suc i) first = ap (λ b. nat_eq v u || b) (front us i first) ∙ or_assoc (nat_eq v u) (has (take i us) u) (nat_eq t u)

-- the first place behind a front is the place where the front ends
pub get-drop : (us : List ℕ) (i : ℕ) → slice_get (drop i us) 0 ≡ slice_get us i
get-drop [] zero = refl
get-drop [] (suc i) = refl
get-drop (u ∷ us) zero = refl
get-drop (u ∷ us) (suc i) = get-drop us i

-- ---- a configuration by its members

-- the members of a set of units are a configuration, where they are enough
pub members_are_config : (units : Units) → AreUnits units → 4 ≤ length (members units) → IsConfig (members units)
members_are_config units are enough = record {
  enough = enough;
  ascending = (members_are units).0;
  inside = λ u there. are u (sym (has-members units u are) ∙ there);
}

-- numbers from a on in turn
pub number_at : (a n i j : ℕ) → i < n → a + i ≡ j → slice_get (range_with_len a n) i ≡ Some j
number_at a zero i j low is = absurd (omega (arith, low))
number_at a (suc n) zero j low is = ap (λ k. Some k) (omega arith)
number_at a (suc n) (suc i) j low is = number_at (a + 1) n i j (omega arith) (omega arith)
