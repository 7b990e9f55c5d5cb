-- The sets of the units that say a slot to a unit, and of those that hear it from one.
use Rattle.std.proofs.Common.{◌≡◌, ℕ, ◌+◌, ◌-◌, ◌/◌, ◌^◌, ◌<◌, ◌≤◌, ◌==◌, List, Bool, true, false, not, ◌&&◌, ◌||◌, nat_eq, refl, sym, ap, ◌∙◌, inl, inr, arith, ⊎_elim, eqb-true, ◌%◌}
use Rattle.std.specs.Int.{bit_at, trailing_zeros, w16}
use Rattle.std.specs.Ordering.{nat_cmp}
use Rattle.std.specs.FinSet as set
use Rattle.std.proofs.lemmas.Bool.{cases_Bool, cases_lt}
use Rattle.std.proofs.lemmas.Nat.{shr-shr}
use Rattle.std.proofs.lemmas.Nat.Bits.{bit_at-zero, bit_at_above, bit_at-trailing_zeros}
use Rattle.sift_base.specs.Units.{Units, has, holds, units_of}
use Rattle.sift_base.specs.declared.slots.Slot.{Slot}
use Rattle.sift_base.specs.declared.slots.Slot.TheVariants.{Clock, Sense, RelaySense, Out, Report, RelayReport}
use Rattle.sift_base.specs.laws.Sets.{holds_low, holds-insert, holds-remove}
use Rattle.sift_base.specs.laws.Counts.{nat_eq-swap}
use Rattle.sift_config.specs.Config.{reader_of}
use Rattle.sift_mission.specs.Data.{FlownMission}
use Rattle.sift_mission.specs.Slots.{is_slot, calls, is_senders, IsFirstFrom}
use Rattle.sift_mission.specs.Crews.{sends, receives}

-- ---- the first unit of a set

-- what a number shifted down has at a place, it has so much higher
bit_at_shr : (n k j : ℕ) → bit_at (n / 2 ^ k) j ≡ bit_at n (k + j)
bit_at_shr n k j = ap (λ x. x % 2) (shr-shr n k j)

module _ (bits from : ℕ) (fits : bits < 2 ^ 8) (few : from ≤ 8) where
  -- from a place on a byte has the bits of what is left of it
  rest_at : (p : ℕ) → from ≤ p → bit_at bits p ≡ bit_at (bits / 2 ^ from) (p - from)
  rest_at p up = let e : p ≡ from + (p - from) = omega arith in ap (bit_at bits) e ∙ sym (bit_at_shr bits from (p - from))

  -- where nothing is left there is no unit
  pub none_from : bits / 2 ^ from ≡ 0 → IsFirstFrom (holds (units_of bits)) from 8
  none_from nothing = record {
    after = few;
    within = omega arith;
    passed = λ p up low. holds_low bits p low ∙ ap (λ n. n == 1) (rest_at p up ∙ ap (λ n. bit_at n (p - from)) nothing ∙ bit_at-zero (p - from));
    here = λ low. absurd (omega arith);
  }

  -- where something is, its lowest bit is that of the first unit
  pub first_of_rest : 0 < bits / 2 ^ from → bits / 2 ^ from < 2 ^ 16 → IsFirstFrom (holds (units_of bits)) from (from + trailing_zeros w16 (bits / 2 ^ from))
  first_of_rest some small =
      let rest = bits / 2 ^ from in
      let t = trailing_zeros w16 rest in
      let at = bit_at-trailing_zeros w16 rest some small in
      let here : bit_at bits (from + t) ≡ 1 = sym (bit_at_shr bits from t) ∙ at.1 in
      let low : from + t < 8 = ⊎_elim (λ l. l) (λ h. absurd (let z = bit_at_above bits 8 (from + t) fits h in omega arith)) (cases_lt (from + t) 8) in
      record {
        after = omega arith;
        within = omega arith;
        passed = λ p up below. holds_low bits p (omega arith) ∙ ap (λ n. n == 1) (rest_at p up ∙ at.2 (p - from) (omega arith));
        here = λ _. holds_low bits (from + t) low ∙ ap (λ n. n == 1) here;
      }

-- the first that passes a test is the first that passes another, where the tests are the same
pub first_by : (f g : ℕ → Bool) (from first : ℕ) → ((p : ℕ) → f p ≡ g p) → IsFirstFrom f from first → IsFirstFrom g from first
first_by f g from first same is = record {
  after = is.after;
  within = is.within;
  passed = λ p up low. sym (same p) ∙ is.passed p up low;
  here = λ low. sym (same first) ∙ is.here low;
}

-- ---- units of a configuration

-- a test that passes stands beside none
pub beside_true : (t : Bool) → t ≡ (t && true)
beside_true true = refl
beside_true false = refl

-- one that fails leaves nothing
pub beside_false : (t : Bool) → false ≡ (t && false)
beside_false true = refl
beside_false false = refl

-- a set of one unit of the list
pub just_one : (us : List ℕ) (r u : ℕ) → has us r ≡ true → holds (set.insert (set.empty {R = nat_cmp}) r) u ≡ (has us u && nat_eq u r)
just_one us r u there = holds-insert set.empty r u ∙ ap (λ t. nat_eq u r || t) (set.contains-empty nat_cmp u) ∙ elim (cases_Bool (nat_eq u r)) [
  | inl same ↦ rw (same, eqb-true u r same, there) refl
  | inr other ↦ rw other (beside_false (has us u))
]

-- all units of the list but one
pub all_but : (units : Units) (us : List ℕ) (r u : ℕ) → holds units u ≡ (has us u && true) → holds (set.remove units r) u ≡ (has us u && not (nat_eq u r))
all_but units us r u are = holds-remove units r u ∙ ap (λ t. not (nat_eq u r) && t) are ∙ turned (not (nat_eq u r)) (has us u)
  where
    turned : (a b : Bool) → (a && (b && true)) ≡ (b && a)
    turned true true = refl
    turned true false = refl
    turned false true = refl
    turned false false = refl

-- a test beside itself
pub twice : (a b : Bool) → (a && b) ≡ (a && (a && b))
twice true b = refl
twice false b = refl

-- three tests in another order
pub rotated : (a b c : Bool) → (a && (b && c)) ≡ (b && (c && a))
rotated true true true = refl
rotated true true false = refl
rotated true false c = refl
rotated false true true = refl
rotated false true false = refl
rotated false false c = refl

-- ---- who says a slot to whom

-- a slot is said by its senders to its receivers
joined : (a b c : Bool) → (a && (b && c)) ≡ ((a && b) && c)
joined true b c = refl
joined false b c = refl

pub sent : (m : FlownMission) (us : List ℕ) (k : Slot) (p q : ℕ) → is_senders m us k p q ≡ (sends m us k p && receives k q)
sent m us Clock p q = refl
sent m us (Sense x) p q = beside_true (nat_eq p (reader_of us x))
sent m us (RelaySense x) p q = beside_true (not (nat_eq p (reader_of us x)))
sent m us (Out w) p q = beside_true (m.executes us w p)
sent m us Report p q = refl
sent m us (RelayReport s) p q = joined (has us s) (not (nat_eq p s)) (not (nat_eq q s))

-- five tests in another order
heard_by : (p q n y h : Bool) → ((q && h) && (n && (p && y))) ≡ (p && (q && (n && (y && h))))
heard_by false false n y h = refl
heard_by false true n y false = refl
heard_by false true true y true = refl
heard_by false true false y true = refl
heard_by true false n y h = refl
heard_by true true true true true = refl
heard_by true true true true false = refl
heard_by true true true false true = refl
heard_by true true true false false = refl
heard_by true true false y true = refl
heard_by true true false y false = refl

said_by : (p q n y h : Bool) → ((p && y) && (n && (q && h))) ≡ (p && (q && (n && (y && h))))
said_by false q n y h = refl
said_by true true n true h = refl
said_by true false true true h = refl
said_by true false false true h = refl
said_by true false n false h = refl
said_by true true true false h = refl
said_by true true false false h = refl

module _ (m : FlownMission) (us : List ℕ) (k : Slot) (p q : ℕ) (slot : is_slot m k ≡ true) where
  -- a unit that hears a slot hears it from the others that say it
  pub calls_to : ((has us q && receives k q) && (not (nat_eq p q) && (has us p && sends m us k p))) ≡ calls m us k p q
  calls_to = rw (slot, sent m us k p q) (heard_by (has us p) (has us q) (not (nat_eq p q)) (sends m us k p) (receives k q))

  -- and one that says it says it to the others that hear it
  pub calls_from : ((has us p && sends m us k p) && (not (nat_eq q p) && (has us q && receives k q))) ≡ calls m us k p q
  calls_from = rw (slot, sent m us k p q, nat_eq-swap q p) (said_by (has us p) (has us q) (not (nat_eq p q)) (sends m us k p) (receives k q))
