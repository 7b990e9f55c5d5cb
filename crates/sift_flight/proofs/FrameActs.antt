-- Frames of a mission, and the acts of a unit in one of them.
use Rattle.std.proofs.Common.{◌≡◌, inl, inr, ⊎_elim, ℕ, suc, ◌+◌, ◌*◌, ◌-◌, ◌<◌, ◌≤◌, true, false, nat_lt, Option, Some, None, option_map, sym, refl, ap, arith, ltb-false}
use Rattle.std.proofs.lemmas.Bool.{cases_Bool, cases_lt}
use Rattle.std.proofs.lemmas.Option.{none-some, same_Some}
use Rattle.std.proofs.Math.Nat.{mul-le-mul_left, mul-le-mul_right}
use Rattle.sift_base.specs.declared.slots.Slot.{Slot}
use Rattle.sift_buffer.specs.Conduct.{Hearing, hearing, never}
use Rattle.sift_buffer.specs.Conduct.{Conduct as Acts}
use Rattle.sift_mission.specs.Data.{FlownMission}
use Rattle.sift_mission.specs.Slots.{is_slot, turned_by}
use Rattle.sift_mission.specs.laws.Turning.{before_turning}
use Rattle.sift_mission.specs.laws.Frames.{frame_low}
use Rattle.sift_conduct.specs.Acts.{Turns, word_in_hearing, stamp_and_moment}

-- ---- frames

-- a later frame begins at this one's end, or after it
frame_after : (f d n : ℕ) → f * n + n ≤ (f + suc d) * n
frame_after f d n = grind (arith)

-- a stamp lies in one frame alone
pub same_frame : (n f g s : ℕ) → f * n < s → s ≤ f * n + n → g * n < s → s ≤ g * n + n → f ≡ g
same_frame n f g s a b c d = ⊎_elim (λ (z : f < g). let up = frame_low n f g z in absurd (omega arith)) (λ (z : g ≤ f).
    ⊎_elim (λ (y : g < f). let down = frame_low n g f y in absurd (omega arith)) (λ (y : f ≤ g). omega arith) (cases_lt g f)) (cases_lt f g)

-- no frame of a mission ends past the last progress
pub never_reached : (frames period f : ℕ) → f < frames → period ≤ 64 → frames ≤ 1000 → f * period + period < never
never_reached frames period f low short few =
    let last = frame_low period f frames low in
    let wide : frames * period ≤ frames * 64 = mul-le-mul_left frames short in
    let long : frames * 64 ≤ 1000 * 64 = mul-le-mul_right 64 few in
    omega arith

-- ---- acts

-- an act with this stamp at this moment
pub heard_is : (x : Option Hearing) (s h : ℕ) → option_map stamp_and_moment x ≡ Some (s, h) → x ≡ Some (hearing s h (word_in_hearing x))
heard_is None s h e = absurd (none-some (s, h) e)
heard_is (Some x) s h e = ap (λ (t : ℕ × ℕ). Some (hearing t.0 t.1 x.word)) (same_Some (x.stamp, x.at) (s, h) e)

-- no act has no word
pub heard_none : (x : Option Hearing) → option_map stamp_and_moment x ≡ None → word_in_hearing x ≡ None
heard_none None e = refl
heard_none (Some x) e = absurd (none-some (x.stamp, x.at) (sym e))

-- a unit that has turned by a frame turned in it or before
late : (f from : ℕ) → turned_by (Some from) f ≡ true → from ≤ f
late f from e = elim (cases_Bool (nat_lt f from)) [ inl z ↦ absurd (let w = rw z at e in cc) | inr z ↦ ltb-false f from z ]

-- a unit doesn't leave before the last subframe of a frame by which it has not turned
pub left_above : (m : FlownMission) (storm : Option ℕ) (d : Acts) (f h : ℕ) → Turns m storm d → turned_by storm f ≡ false
    → h + 2 ≤ f * m.period + m.period → f * m.period + m.period < never → h < d.left
left_above m None d f h t e low short = omega arith
left_above m (Some from) d f h t e low short =
    let up = frame_low m.period f from (before_turning f from e) in
    ⊎_elim (λ z. omega (arith, z.0)) (λ (z : d.left ≡ from * m.period - 1). omega arith) t.left

-- a unit that has turned by a frame says nothing in it
pub hushed : (m : FlownMission) (storm : Option ℕ) (d : Acts) (f : ℕ) (k : Slot) (q : ℕ)
    → is_slot m k ≡ true → Turns m storm d → turned_by storm f ≡ true → d.said f (m.number k) q ≡ None
hushed m None d f k q slot t e = absurd cc
hushed m (Some from) d f k q slot t e = t.says_nothing f k q slot (late f from e)

-- and hears nothing
pub deafened : (m : FlownMission) (storm : Option ℕ) (d : Acts) (f : ℕ) (k : Slot) (p : ℕ)
    → is_slot m k ≡ true → Turns m storm d → turned_by storm f ≡ true → d.heard f (m.number k) p ≡ None
deafened m None d f k p slot t e = absurd cc
deafened m (Some from) d f k p slot t e = t.hears_nothing f k p slot (late f from e)
