-- Subframes counted from the mission's start.
use Rattle.std.proofs.Common.{ℕ, suc, ◌+◌, ◌-◌, ◌*◌, ◌<◌, ◌≤◌, arith, ◌≡◌}

-- a later frame begins at or after an earlier one's end
pub frame_low : (period f g : ℕ) → f < g → f * period + period ≤ g * period
frame_low period f g low = let d = g - suc f in let e : g ≡ f + suc d = omega arith in rw e (grind arith)
