-- Places of a slot at which nothing is said or heard, and those at which something is.
use Rattle.std.proofs.Common.{◌≡◌, ℕ, zero, suc, ◌+◌, ◌<◌, ◌≤◌, Bool, true, false, ◌&&◌, ◌||◌, nat_eq, nat_lt, refl, sym, ap, ◌∙◌, subst, arith}
use Rattle.std.proofs.lemmas.Bool.{eqb-true}
use Rattle.sift_base.specs.Units.{unit_limit}
use Rattle.sift_mission.specs.Data.{FlownMission}
use Rattle.sift_mission.specs.Slots.{calls}
use Rattle.sift_mission.specs.Fits.{Fits}
use Rattle.sift_unit.specs.Desk.{Desk, is_hearing, is_saying, is_call, moved}
use Rattle.sift_unit.specs.Going.{InRange}
use Rattle.sift_unit.specs.Passing.{Onward}
use Rattle.sift_unit.proofs.Passing.{passes_on, place_onward}

-- tests of which the last fails don't pass together
last_fails : (x y z : Bool) → (x && (y && (z && false))) ≡ false
last_fails false y z = refl
last_fails true false z = refl
last_fails true true false = refl
last_fails true true true = refl

-- of two tests the first passes, where the second fails
first_passes : (b : Bool) → (b || false) ≡ true → b ≡ true
first_passes true e = refl
first_passes false e = e

-- nothing is heard from a unit that doesn't say the slot
pub hear_quiet : (m : FlownMission) (b : Desk) (p : ℕ) → b.part ≡ 0 → calls m b.cfg (m.kind b.slot) p b.unit ≡ false → is_call m (record b { other = p }) ≡ false
hear_quiet m b p first none =
    let at = record b { other = p } in
    let x = nat_eq b.part 0 in let y = nat_lt b.slot m.slots in let z = nat_eq b.subframe (m.heard_in b.cfg (m.kind b.slot)) in
    let h : is_hearing m at ≡ false = ap (λ t. x && (y && (z && t))) none ∙ last_fails x y z in
    let s : is_saying m at ≡ false =
    ap (λ t. nat_eq t 2 && (y && (nat_eq b.subframe (m.due b.cfg (m.kind b.slot)) && calls m b.cfg (m.kind b.slot) b.unit p))) first in
    ap (λ t. t || is_saying m at) h ∙ s

-- nothing is said to a unit that doesn't hear the slot
pub say_quiet : (m : FlownMission) (b : Desk) (p : ℕ) → b.part ≡ 2 → calls m b.cfg (m.kind b.slot) b.unit p ≡ false → is_call m (record b { other = p }) ≡ false
say_quiet m b p last none =
    let at = record b { other = p } in
    let x = nat_eq b.part 2 in let y = nat_lt b.slot m.slots in let z = nat_eq b.subframe (m.due b.cfg (m.kind b.slot)) in
    let s : is_saying m at ≡ false = ap (λ t. x && (y && (z && t))) none ∙ last_fails x y z in
    let h : is_hearing m at ≡ false =
    ap (λ t. nat_eq t 0 && (y && (nat_eq b.subframe (m.heard_in b.cfg (m.kind b.slot)) && calls m b.cfg (m.kind b.slot) p b.unit))) last in
    ap (λ t. t || is_saying m at) h ∙ s

-- past places none of which is a call
pub places_onward : (m : FlownMission) (fit : Fits m) (n : ℕ) (b : Desk) (r : InRange m b) (to : ℕ) → to ≡ b.other + suc n → to ≤ unit_limit → b.slot < m.slots →
    ((p : ℕ) → b.other ≤ p → p < to → is_call m (record b { other = p }) ≡ false) → Onward m b (moved b b.subframe b.part b.slot to b.places)
places_onward m fit zero b r to is few low idle =
    let next : b.other + 1 ≡ to = omega arith in
    subst (λ o. Onward m b (moved b b.subframe b.part b.slot o b.places)) next (place_onward m fit b r low (omega arith) (idle b.other (omega arith) (omega arith)))
places_onward m fit (suc n) b r to is few low idle =
    let one = place_onward m fit b r low (omega arith) (idle b.other (omega arith) (omega arith)) in
    let on = moved b b.subframe b.part b.slot (b.other + 1) b.places in
    let rest = places_onward m fit n on one.passes.range to (omega arith) few low (λ p from below. idle p (omega arith) below) in
    record {
      passes = passes_on m b on (moved b b.subframe b.part b.slot to b.places) one.passes rest.passes;
      less = let first = one.less in let later = rest.less in omega arith;
    }

-- a call in the part in which words are said is a saying
pub call_says : (m : FlownMission) (b : Desk) → is_call m b ≡ true → nat_eq b.part 2 ≡ true → is_saying m b ≡ true
call_says m b call says =
    let x = nat_lt b.slot m.slots && (nat_eq b.subframe (m.heard_in b.cfg (m.kind b.slot)) && calls m b.cfg (m.kind b.slot) b.other b.unit) in
    sym (ap (λ t. (nat_eq t 0 && x) || is_saying m b) (eqb-true b.part 2 says)) ∙ call

-- and in another part a hearing
pub call_hears : (m : FlownMission) (b : Desk) → is_call m b ≡ true → nat_eq b.part 2 ≡ false → is_hearing m b ≡ true
call_hears m b call other =
    let y = nat_lt b.slot m.slots && (nat_eq b.subframe (m.due b.cfg (m.kind b.slot)) && calls m b.cfg (m.kind b.slot) b.unit b.other) in
    first_passes (is_hearing m b) (sym (ap (λ t. is_hearing m b || (t && y)) other) ∙ call)
