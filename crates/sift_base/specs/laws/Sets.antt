-- Sets of units as the bits of a byte: what each operation on the byte makes of the set.
use Rattle.std.proofs.Common.{length, zero, suc, drop, get_or, slice_get, Some, ◌≡◌, ℕ, ◌+◌, ◌*◌, ◌%◌, ◌^◌, ◌<◌, ◌≤◌, ◌==◌, max, min, ◌-◌, Bool, true, false, not, ◌&&◌, ◌||◌, cond, nat_eq, nat_lt, rules, add_comm, List, [], ◌∷◌, bit_and, bit_or, count_ones, arith, ap, ◌∙◌, sym, refl, ⊎_elim, inl, inr}
use Rattle.std.specs.List.{filter, list_all, range_with_len}
use Rattle.std.specs.Int.{bit_at, trailing_zeros, bit_not, w8}
use Rattle.std.specs.Ordering.{nat_cmp}
use Rattle.std.specs.Cmp.{nat_cmp_total, unsigned_tied}
use Rattle.std.specs.FinSet as set
use Rattle.std.proofs.lemmas.List.Filters.{length-filter_both}
use Rattle.std.proofs.lemmas.Bool.{cases_lt, cases_eq, cases_Bool, eqb-true, eq-eqb, ne_eqb, agree_below_at, and_parts, ltb-true, or_cases}
use Rattle.std.proofs.lemmas.Nat.Bits.{bit_at-zero, bit_at-trailing_zeros, bit_at_and, bit_at_not, bit_at_or, bit_at_set_same, bit_at_set_other, bit_at_clear_same, bit_at_clear_other}
use lib.Count.{ones}
use Rattle.sift_base.specs.Units.{members, Units, unit_numbers, holds, has_bit, units_of, AreUnits, has, IsAscending, MembersAreTheSet}
use Rattle.sift_base.specs.laws.Counts.{IsBelowAll, filter_same}
use Rattle.sift_base.specs.laws.ReadBack as back
use Rattle.sift_base.specs.laws.ReadBack.{has-filter, has_low, set-members}

-- ---- the numbers of units

-- no number of a list that stays below n is n or more
has_none : (ks : List ℕ) (n q : ℕ) → list_all (λ k. nat_lt k n) ks ≡ true → n ≤ q → has ks q ≡ false
has_none [] n q low high = refl
has_none (k ∷ ks) n q low high =
    let parts = and_parts (nat_lt k n) (list_all (λ k. nat_lt k n) ks) low in
    let below : k < n = ltb-true k n parts.0 in
    rw (ne_eqb k q (λ e. omega arith)) (has_none ks n q parts.1 high)

-- they are those below 8
has_high : (q : ℕ) → 8 ≤ q → has unit_numbers q ≡ false
has_high q high = has_none unit_numbers 8 q refl high

-- a set made of unit numbers holds no other number
holds_high : (bits q : ℕ) → 8 ≤ q → holds (units_of bits) q ≡ false
holds_high bits q high =
    set.contains-from_list_nat (filter (has_bit bits) unit_numbers) q ∙ has-filter (has_bit bits) unit_numbers q
    ∙ rw (has_high q high) (elim (cases_Bool (has_bit bits q)) [ inl t ↦ rw t refl | inr f ↦ rw f refl ])

-- so its members are units
pub are_units : (bits : ℕ) → AreUnits (units_of bits)
are_units bits u there = ⊎_elim (λ low. low) (λ high. absurd (cc (holds_high bits u high, there))) (cases_lt u 8)

-- the set of a byte holds the units whose bits it has, below 8
pub holds_low : (bits q : ℕ) → q < 8 → holds (units_of bits) q ≡ has_bit bits q
holds_low bits q low = back.holds-units_of bits q (has_low q low)

-- two sets of bytes that hold the same units below 8 are equal
same_below : (bits : ℕ) (other : Units) → ((q : ℕ) → q < 8 → has_bit bits q ≡ holds other q) → ((q : ℕ) → 8 ≤ q → holds other q ≡ false) → units_of bits ≡ other
same_below bits other low high = set.same_set nat_cmp_total set.nat_cmp-IsAntisymmetric (units_of bits) other
    (λ q. ⊎_elim (λ l. holds_low bits q l ∙ low q l) (λ h. holds_high bits q h ∙ sym (high q h)) (cases_lt q 8))

-- sets that hold the same units are one set
pub same_units : (one other : Units) → ((u : ℕ) → holds one u ≡ holds other u) → one ≡ other
same_units one other same = set.same_set nat_cmp_total set.nat_cmp-IsAntisymmetric one other same

-- ---- one unit more, one less, both sets

-- a set with u holds q where q is u, or the set holds it
pub holds-insert : (units : Units) (u q : ℕ) → holds (set.insert units u) q ≡ (nat_eq q u || holds units q)
holds-insert units u q = set.contains-insert nat_cmp_total units u q ∙ ap (λ t. t || holds units q) (unsigned_tied q u)

-- a set without u holds q where q isn't u, and the set holds it
pub holds-remove : (units : Units) (u q : ℕ) → holds (set.remove units u) q ≡ (not (nat_eq q u) && holds units q)
holds-remove units u q = set.contains-remove nat_cmp_total units u q ∙ ap (λ t. not t && holds units q) (unsigned_tied q u)

-- a bit that is set in a byte
pub with_bit : (bits u : ℕ) → u < 8 → units_of (bit_or bits (1 * 2 ^ u % 2 ^ 8)) ≡ set.insert (units_of bits) u
with_bit bits u fits = same_below (bit_or bits (1 * 2 ^ u % 2 ^ 8)) (set.insert (units_of bits) u)
    (λ q low. elim (cases_eq q u) [
      | inl e ↦ rw e (ap (λ n. n == 1) (bit_at_set_same w8 bits u fits) ∙ sym (holds-insert (units_of bits) u u ∙ rw (eq-eqb u u refl) refl))
      | inr ne ↦ ap (λ n. n == 1) (bit_at_set_other w8 bits u fits q ne) ∙ sym (holds-insert (units_of bits) u q ∙ rw (ne_eqb q u ne) (holds_low bits q low))
    ])
    (λ q high. holds-insert (units_of bits) u q ∙ rw (ne_eqb q u (λ e. omega arith)) (holds_high bits q high))

-- a bit that is cleared
pub without_bit : (bits u : ℕ) → u < 8 → units_of (bit_and bits (bit_not w8 (1 * 2 ^ u % 2 ^ 8))) ≡ set.remove (units_of bits) u
without_bit bits u fits = same_below (bit_and bits (bit_not w8 (1 * 2 ^ u % 2 ^ 8))) (set.remove (units_of bits) u)
    (λ q low. elim (cases_eq q u) [
      | inl e ↦ rw e (ap (λ n. n == 1) (bit_at_clear_same w8 bits u fits) ∙ sym (holds-remove (units_of bits) u u ∙ rw (eq-eqb u u refl) refl))
      | inr ne ↦ ap (λ n. n == 1) (bit_at_clear_other w8 bits u fits q low ne) ∙ sym (holds-remove (units_of bits) u q ∙ rw (ne_eqb q u ne) (holds_low bits q low))
    ])
    (λ q high. holds-remove (units_of bits) u q ∙ rw (ne_eqb q u (λ e. omega arith)) (holds_high bits q high))

-- the greater of two bits is 1 where some of them is
bit_of_two : (x y : ℕ) → x < 2 → y < 2 → (max x y == 1) ≡ ((x == 1) || (y == 1))
bit_of_two x y low small = elim (cases_eq x 0) [
  | inl zero_x ↦ elim (cases_eq y 0) [ inl zero_y ↦ rw (zero_x, zero_y) refl | inr one_y ↦ let e : y ≡ 1 = omega arith in rw (zero_x, e) refl ]
  | inr one_x ↦ let f : x ≡ 1 = omega arith in elim (cases_eq y 0) [ inl zero_y ↦ rw (f, zero_y) refl | inr one_y ↦ let e : y ≡ 1 = omega arith in rw (f, e) refl ]
]

-- the bits of two bytes
pub union_bits : (bits more : ℕ) → units_of (bit_or bits more) ≡ set.union (units_of bits) (units_of more)
union_bits bits more = same_below (bit_or bits more) (set.union (units_of bits) (units_of more))
    (λ q low. ap (λ n. n == 1) (bit_at_or bits more q) ∙ bit_of_two (bit_at bits q) (bit_at more q) (omega arith) (omega arith)
    ∙ sym (set.contains-union nat_cmp_total (units_of bits) (units_of more) q ∙ (λ i. holds_low bits q low i || holds_low more q low i)))
    (λ q high. set.contains-union nat_cmp_total (units_of bits) (units_of more) q ∙ (λ i. holds_high bits q high i || holds_high more q high i))

-- the smaller of a bit and another's complement is 1 where the bit is 1 and the other isn't
bit_of_one : (x y : ℕ) → x < 2 → y < 2 → (min x (1 - y) == 1) ≡ ((x == 1) && not (y == 1))
bit_of_one x y low small = elim (cases_eq x 0) [
  | inl zero_x ↦ elim (cases_eq y 0) [ inl zero_y ↦ rw (zero_x, zero_y) refl | inr one_y ↦ let e : y ≡ 1 = omega arith in rw (zero_x, e) refl ]
  | inr one_x ↦ let f : x ≡ 1 = omega arith in elim (cases_eq y 0) [ inl zero_y ↦ rw (f, zero_y) refl | inr one_y ↦ let e : y ≡ 1 = omega arith in rw (f, e) refl ]
]

-- the bits of a byte that another hasn't
pub difference_bits : (bits less : ℕ) → less < 2 ^ 8 → units_of (bit_and bits (bit_not w8 less)) ≡ set.difference (units_of bits) (units_of less)
difference_bits bits less fits = same_below (bit_and bits (bit_not w8 less)) (set.difference (units_of bits) (units_of less))
    (λ q low. ap (λ n. n == 1) (bit_at_and bits (bit_not w8 less) q ∙ ap (λ n. min (bit_at bits q) n) (bit_at_not w8 less q fits low))
    ∙ bit_of_one (bit_at bits q) (bit_at less q) (omega arith) (omega arith)
    ∙ sym (set.contains-difference nat_cmp_total (units_of bits) (units_of less) q ∙ (λ i. holds_low bits q low i && not (holds_low less q low i))))
    (λ q high. set.contains-difference nat_cmp_total (units_of bits) (units_of less) q ∙ rw (holds_high bits q high) refl)

-- no bit is set
no_bits : units_of 0 ≡ set.empty
no_bits = same_below 0 set.empty (λ q low. bit_zero q ∙ sym (set.contains-empty nat_cmp q)) (λ q high. set.contains-empty nat_cmp q)
  where
    bit_zero : (q : ℕ) → has_bit 0 q ≡ false
    bit_zero q = ap (λ n. n == 1) (bit_at-zero q)

-- ---- how many

-- how many numbers of a list pass
abbrev passing : (ℕ → Bool) → List ℕ → ℕ
passing p [] = 0
passing p (k ∷ ks) = cond (p k) 1 0 + passing p ks

-- a number that stays below each number of a list isn't in it
below_each : (p : ℕ → Bool) (k : ℕ) (ks : List ℕ) → IsBelowAll k ks → has (filter p ks) k ≡ false
below_each p k [] low = refl
below_each p k (x ∷ ks) low = elim (cases_Bool (p x)) [ inl t ↦ rw (t, ne_eqb x k (λ e. omega (arith, low.0))) (below_each p k ks low.1) | inr f ↦ rw f (below_each p k ks low.1) ]

-- the set of what passes in an ascending list has as many members
len_of_passing : (p : ℕ → Bool) (ks : List ℕ) → IsAscending ks → set.len (set.from_list {R = nat_cmp} (filter p ks)) ≡ passing p ks
len_of_passing p [] up = set.len-empty nat_cmp
len_of_passing p (k ∷ ks) up = elim (cases_Bool (p k)) [
  | inl t ↦ rw t (set.len-insert nat_cmp_total (set.from_list (filter p ks)) k
      ∙ rw (set.contains-from_list_nat (filter p ks) k ∙ below_each p k ks up.0) (ap (λ n. n + 1) (len_of_passing p ks up.1)
      ∙ add_comm (passing p ks) 1))
  | inr f ↦ rw f (len_of_passing p ks up.1 ∙ omega arith)
]

-- each of 256 bytes has a one for each of its bits
ones_passing : (bits : ℕ) → bits < 2 ^ 8 → count_ones bits ≡ passing (has_bit bits) unit_numbers
unfolding ones
ones_passing bits fits = eqb-true _ _ (agree_below_at (λ b. count_ones b == passing (has_bit b) unit_numbers) (λ _. true) (2 ^ 8) bits refl fits)

-- the numbers of units ascend
units_ascend : IsAscending unit_numbers
units_ascend = Prim.search rules

-- a byte has as many ones as its set has members
pub ones_are_members : (bits : ℕ) → bits < 2 ^ 8 → count_ones bits ≡ set.len (units_of bits)
ones_are_members bits fits = ones_passing bits fits ∙ sym (len_of_passing (has_bit bits) unit_numbers units_ascend)

-- ---- the list of members

-- what is below a list is below what passes in it
below_passing : (p : ℕ → Bool) (k : ℕ) (ks : List ℕ) → IsBelowAll k ks → IsBelowAll k (filter p ks)
below_passing p k [] low = tt
below_passing p k (x ∷ ks) low = elim (cases_Bool (p x)) [ inl t ↦ rw t (low.0, below_passing p k ks low.1) | inr f ↦ rw f (below_passing p k ks low.1) ]

-- what passes in an ascending list ascends
pub passing_ascend : (p : ℕ → Bool) (ks : List ℕ) → IsAscending ks → IsAscending (filter p ks)
passing_ascend p [] up = tt
passing_ascend p (k ∷ ks) up = elim (cases_Bool (p k)) [ inl t ↦ rw t (below_passing p k ks up.0, passing_ascend p ks up.1) | inr f ↦ rw f (passing_ascend p ks up.1) ]

-- as many pass in a list as stand in what passes
length_of_passing : (p : ℕ → Bool) (ks : List ℕ) → length (filter p ks) ≡ passing p ks
length_of_passing p [] = refl
length_of_passing p (k ∷ ks) = elim (cases_Bool (p k)) [ inl t ↦ rw t (omega (arith, length_of_passing p ks)) | inr f ↦ rw f (omega (arith, length_of_passing p ks)) ]

-- a set has 8 members at most
pub few_members : (units : Units) → length (members units) ≤ 8
unfolding members
few_members units =
    let split = length-filter_both (holds units) (λ u. not (holds units u)) (λ u. refl) unit_numbers in
    omega (arith, split)

-- it is as long as the set has members
pub len_of_members : (units : Units) → AreUnits units → length (members units) ≡ set.len units
unfolding members
len_of_members units are = length_of_passing (holds units) unit_numbers ∙ sym (len_of_passing (holds units) unit_numbers units_ascend) ∙ ap set.len (set-members units are)

-- the list of a set's members ascends, and has the units that the set has
pub members_are : MembersAreTheSet
unfolding members
members_are units = (
  passing_ascend (holds units) unit_numbers units_ascend,
  λ u low. has-filter (holds units) unit_numbers u ∙ rw (has_low u low) (back.true_last (holds units u)),
  λ are. len_of_members units are,
)

-- ---- the first member

-- the first number from a on that passes stands first in what passes
passing_from : (p : ℕ → Bool) (a n t : ℕ) → a ≤ t → t < a + n → p t ≡ true → ((i : ℕ) → i < t → p i ≡ false) → slice_get (filter p (range_with_len a n)) 0 ≡ Some t
passing_from p a zero t from below here none = absurd (omega arith)
passing_from p a (suc n) t from below here none = elim (cases_eq a t) [
  | inl e ↦ rw (e, here) refl
  | inr ne ↦ rw (none a (omega arith)) (passing_from p (a + 1) n t (omega arith) (omega arith) here none)
]

-- what is below a list is below each number of it
pub below_has : (k : ℕ) (ks : List ℕ) (u : ℕ) → IsBelowAll k ks → has ks u ≡ true → k < u
below_has k [] u low there = absurd cc
below_has k (x ∷ ks) u low there = elim (or_cases (nat_eq x u) (has ks u) there) [ inl here ↦ omega (arith, eqb-true x u here, low.0) | inr later ↦ below_has k ks u low.1 later ]

-- an ascending list without its first number that passes has the others that pass
filter_without : (p : ℕ → Bool) (t : ℕ) (rest ks : List ℕ) → IsAscending ks → filter p ks ≡ t ∷ rest → filter (λ u. not (nat_eq u t) && p u) ks ≡ rest
filter_without p t rest [] up is = absurd (omega (arith, ap length is))
filter_without p t rest (k ∷ ks) up is = elim (cases_Bool (p k)) [
  | inl passes ↦
      let heads : k ∷ filter p ks ≡ t ∷ rest = rw passes at is in
      let head : k ≡ t = ap (λ xs. get_or xs 0 k) heads in
      let tail : filter p ks ≡ rest = ap (λ xs. drop 1 xs) heads in
      let apart = λ (u : ℕ) (there : has ks u ≡ true). ne_eqb u t (λ e. omega (arith, below_has k ks u up.0 there)) in
      rw (eq-eqb k t head) (filter_same (λ u. not (nat_eq u t) && p u) p ks (λ u there. rw (apart u there) refl) ∙ tail)
  | inr fails ↦
      let later : filter p ks ≡ t ∷ rest = rw fails at is in
      let out : (not (nat_eq k t) && p k) ≡ false = rw fails (back.false_last (not (nat_eq k t))) in
      rw out (filter_without p t rest ks up.1 later)
]

-- a set without its first member has the others
pub members_without : (units : Units) (t : ℕ) (rest : List ℕ) → members units ≡ t ∷ rest → members (set.remove units t) ≡ rest
unfolding members
members_without units t rest is =
    filter_same (holds (set.remove units t)) (λ u. not (nat_eq u t) && holds units u) unit_numbers (λ u there. holds-remove units t u)
    ∙ filter_without (holds units) t rest unit_numbers units_ascend is

-- no number passes a test that fails at each
pub none_pass : (p : ℕ → Bool) (ks : List ℕ) → ((u : ℕ) → p u ≡ false) → filter p ks ≡ []
none_pass p [] none = refl
none_pass p (k ∷ ks) none = rw (none k) (none_pass p ks none)

-- a byte whose set has members isn't 0
not_zero : (bits : ℕ) → 0 < length (members (units_of bits)) → 0 < bits
unfolding members
not_zero bits some = elim (cases_eq bits 0) [
  | inl e ↦ absurd (omega (
    arith,
    ap (λ b. length (members (units_of b))) e,
    ap (λ units. length (members units)) no_bits,
    ap length (none_pass (holds set.empty) unit_numbers (set.contains-empty nat_cmp)),
  ))
  | inr ne ↦ omega arith
]

-- the place of a byte's lowest 1 is the first member of its set
pub lowest_is_first : (bits : ℕ) → bits < 2 ^ 8 → 0 < length (members (units_of bits)) →
    (trailing_zeros w8 bits < 8) × (slice_get (members (units_of bits)) 0 ≡ Some (trailing_zeros w8 bits))
unfolding members
lowest_is_first bits fits some =
    let at = bit_at-trailing_zeros w8 bits (not_zero bits some) fits in
    let t = trailing_zeros w8 bits in
    let here = holds_low bits t at.0 ∙ ap (λ n. n == 1) at.1 in
    let none = λ (i : ℕ) (low : i < t). holds_low bits i (omega (arith, at.0)) ∙ ap (λ n. n == 1) (at.2 i low) in
    (at.0, passing_from (holds (units_of bits)) 0 8 t (omega arith) (omega (arith, at.0)) here none)
