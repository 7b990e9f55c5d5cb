-- Filtered lists, tests beside true and false, and a set of units read back from its byte and from the list of its members.
use Rattle.std.specs.Prelude.{◌≡◌, ℕ, ◌+◌, ◌<◌, ◌^◌, ◌==◌, List, [], ◌∷◌, Bool, true, false, ◌&&◌, ◌||◌, cond, nat_eq, if◌then◌else◌}
use Rattle.std.specs.List.{filter, sum_by}
use Rattle.std.specs.FinSet as set
use Rattle.std.proofs.Common.{refl, ap, ◌∙◌, sym}
use Rattle.std.proofs.lemmas.Bool.{eqb-true, agree_below_at}
use Rattle.std.specs.Ordering.{nat_cmp}
use Rattle.std.specs.Cmp.{nat_cmp_total}
use Rattle.sift_base.specs.Units.{Units, unit_numbers, holds, has_bit, units_of, bits_of, has, members, AreUnits}

-- ---- tests beside true and false

-- a test beside one that fails fails
pub false_last : (t : Bool) → (t && false) ≡ false
false_last true = refl
false_last false = refl

-- and beside one that passes it is itself
pub true_last : (t : Bool) → (t && true) ≡ t
true_last true = refl
true_last false = refl

-- a test, or one that fails, is that test
pub or_false : (t : Bool) → (t || false) ≡ t
or_false true = refl
or_false false = refl

-- of three tests it makes no difference which two are taken first
pub or_assoc : (a b c : Bool) → (a || (b || c)) ≡ ((a || b) || c)
or_assoc true b c = refl
or_assoc false b c = refl

-- a test beside one of two is it beside the one, or beside the other
pub distribute : (t a b : Bool) → ((t && a) || (t && b)) ≡ (t && (a || b))
distribute true a b = refl
distribute false a b = refl

-- the second of two tests may be another where the first passes
pub and_in : (x y y' : Bool) → (x ≡ true → y ≡ y') → (x && y) ≡ (x && y')
and_in true y y' e = e refl
and_in false y y' e = refl

-- ---- members of filtered lists

-- a list with a number in front, where the test passes, has the number then
has-cond : (passes : Bool) (k q : ℕ) (ks : List ℕ) → has (cond passes (k ∷ ks) ks) q ≡ ((passes && nat_eq k q) || has ks q)
has-cond true k q ks = refl
has-cond false k q ks = refl

-- a test of a number is that of an equal number
test_same : (one other equal : Bool) → (equal ≡ true → one ≡ other) → (one && equal) ≡ (other && equal)
test_same one other true same = ap (λ t. t && true) (same refl)
test_same one other false same = false_last one ∙ sym (false_last other)

-- a filtered list has the numbers of the list that pass the test
pub has-filter : (passes : ℕ → Bool) (ks : List ℕ) (q : ℕ) → has (filter passes ks) q ≡ (passes q && has ks q)
has-filter passes [] q = sym (false_last (passes q))
has-filter passes (k ∷ ks) q =
    has-cond (passes k) k q (filter passes ks)
    ∙ (λ i. test_same (passes k) (passes q) (nat_eq k q) (λ e. ap passes (eqb-true k q e)) i || has-filter passes ks q i)
    ∙ distribute (passes q) (nat_eq k q) (has ks q)

-- ---- a byte and its set

-- the set of a number holds a unit where the number has its bit
pub holds-units_of : (bits u : ℕ) → has unit_numbers u ≡ true → holds (units_of bits) u ≡ has_bit bits u
holds-units_of bits u there =
    set.contains-from_list_nat (filter (has_bit bits) unit_numbers) u ∙ has-filter (has_bit bits) unit_numbers u
    ∙ ap (λ t. has_bit bits u && t) there ∙ true_last (has_bit bits u)

-- the number that has these bits of units
abbrev bits_by : (ℕ → Bool) → ℕ
bits_by test = sum_by (λ u. if test u then 2 ^ u else 0) unit_numbers

-- each of 256 bytes is the sum of the powers of two at its bits
summed : (bits : ℕ) → bits < 2 ^ 8 → bits_by (has_bit bits) ≡ bits
summed bits fits = eqb-true (bits_by (has_bit bits)) bits (agree_below_at (λ b. bits_by (has_bit b) == b) (λ _. true) (2 ^ 8) bits refl fits)

-- a byte can be read back from its set
pub bits_of-units_of : (bits : ℕ) → bits < 2 ^ 8 → bits_of (units_of bits) ≡ bits
unfolding bits_of
bits_of-units_of bits fits = at_each ∙ summed bits fits
  where
    at_each : bits_of (units_of bits) ≡ bits_by (has_bit bits)
    at_each i =
        0 + (if holds-units_of bits 0 refl i then 2 ^ 0 else 0) + (if holds-units_of bits 1 refl i then 2 ^ 1 else 0)
        + (if holds-units_of bits 2 refl i then 2 ^ 2 else 0) + (if holds-units_of bits 3 refl i then 2 ^ 3 else 0)
        + (if holds-units_of bits 4 refl i then 2 ^ 4 else 0) + (if holds-units_of bits 5 refl i then 2 ^ 5 else 0)
        + (if holds-units_of bits 6 refl i then 2 ^ 6 else 0) + (if holds-units_of bits 7 refl i then 2 ^ 7 else 0)

-- ---- a set and its members

-- the numbers of units have each number below 8
pub has_low : (u : ℕ) → u < 8 → has unit_numbers u ≡ true
has_low u low = agree_below_at (has unit_numbers) (λ _. true) 8 u refl low

-- a test that passes only where another does is both of them
pub both : (one other : Bool) → (one ≡ true → other ≡ true) → (one && other) ≡ one
both true other also = also refl
both false other also = refl

-- a set of units can be read back from its members
pub set-members : (units : Units) → AreUnits units → set.from_list {R = nat_cmp} (members units) ≡ units
unfolding members
set-members units are = set.same_set nat_cmp_total set.nat_cmp-IsAntisymmetric (set.from_list (members units)) units
    (λ u. set.contains-from_list_nat (members units) u ∙ has-filter (holds units) unit_numbers u ∙ both (holds units u) (has unit_numbers u) (λ there. has_low u (are u there)))
