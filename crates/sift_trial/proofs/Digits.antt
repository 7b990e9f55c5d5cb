-- The digits of all units but one, and what is read of them.
use Rattle.std.proofs.Common.{◌≡◌, ◌<◌, ◌≤◌, ◌+◌, ◌-◌, ℕ, List, [], ◌∷◌, false, not, nat_eq, Some, inl, inr, refl, arith}
use Rattle.std.proofs.lemmas.Bool.{cases_Bool}
use Rattle.std.proofs.lemmas.Bool.Decides.{nat_tests}
use Rattle.std.proofs.lemmas.Fmt.{decimal_digit}
use Rattle.std.proofs.lemmas.List.Elements.{All-filter, All-head, All-tail}
use Rattle.std.proofs.lemmas.List.FromFn.{get_or-range_with_len, length-range_with_len}
use Rattle.std.specs.Fmt.{decimal}
use Rattle.std.specs.List.{All, flat_map, range_with_len}
use Rattle.toml.specs.Data.{string}
use Rattle.sift_base.specs.Units.{has, others}
use Rattle.sift_base.specs.laws.Others.{length-others, times_in-ascending}
use Rattle.sift_base.specs.laws.Sets.{passing_ascend}
use Rattle.sift_base.specs.laws.Ranges.{range-ascends}
use Rattle.sift_gen.specs.Scenario.{other_digits}
use Rattle.sift_script.specs.Rules.{AreReceivers}
use Rattle.sift_document.specs.Document.{digit_to, digits_to, each_read}

-- ---- digits

-- the digit of a number below 8 is read as it
digit_read : (u : ℕ) → u < 8 → digit_to 7 (48 + u) ≡ Some u
digit_read u low = let back : 48 + u - 48 ≡ u = omega arith in grind (arith, nat_tests)

-- the digits of numbers below 8 are read as these numbers
digits_read : (us : List ℕ) → All (λ u. u < 8) us → each_read (digit_to 7) (flat_map decimal us) ≡ Some us
digits_read [] low = refl
digits_read (u ∷ us) low =
    let here = All-head (λ u. u < 8) u us low in
    let rest = digits_read us (All-tail (λ u. u < 8) u us low) in
    rw (decimal_digit u (omega (arith, here)), digit_read u here, rest) refl

-- ---- units but one

-- the unit isn't among the others
not_among : (unit : ℕ) (us : List ℕ) → has (others unit us) unit ≡ false
not_among unit [] = refl
not_among unit (u ∷ us) = elim (cases_Bool (nat_eq u unit)) [
  | inl same ↦ rw same (not_among unit us)
  | inr other ↦ rw (other, other) (not_among unit us)
]

-- numbers below another are
pub all_below : (n : ℕ) → All (λ u. u < n) (range_with_len 0 n)
all_below n k d low = rw (get_or-range_with_len 0 n k d (rw length-range_with_len at low)) (omega (arith, rw length-range_with_len at low))

-- all units but one
abbrev pub other_units : (units unit : ℕ) → List ℕ
other_units units unit = others unit (range_with_len 0 units)

module _ (units unit : ℕ) (enough : 5 ≤ units) (few : units ≤ 8) where
  -- they are what is read of their digits
  pub others_read : digits_to 7 (string (other_digits units unit)) ≡ Some (other_units units unit)
  others_read =
      digits_read (other_units units unit) (All-filter (λ u. not (nat_eq u unit)) (λ u. u < 8) (range_with_len 0 units)
      (λ k d low. omega (arith, all_below units k d low, few)))

  -- they may be told a word by the unit
  pub receivers : AreReceivers units unit (other_units units unit)
  receivers =
      let ascend = range-ascends 0 units in
      let long = length-others unit (range_with_len 0 units) in
      let once = times_in-ascending unit (range_with_len 0 units) ascend in record {
        some = omega (arith, long, once, length-range_with_len 0 units, enough);
        ascend = passing_ascend (λ u. not (nat_eq u unit)) (range_with_len 0 units) ascend;
        inside = All-filter (λ u. not (nat_eq u unit)) (λ u. u < units) (range_with_len 0 units) (all_below units);
        others = not_among unit (range_with_len 0 units);
      }
