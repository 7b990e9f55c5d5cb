use Rattle.std.proofs.Common.{◌≡◌, ℕ, ◌&&◌, not, nat_eq, take}
use Rattle.std.specs.Prelude.{◌+ℤ◌}
use Rattle.sift_base.specs.Units.{holds, has}
use Rattle.sift_clock.specs.Correction.{is_too_far}
use Rattle.sift_mission.specs.Parts.{flown_of}
use Rattle.sift_unit_frame.specs.Memory.{reading_at}
use Rattle.sift_unit_frame.proofs.noted.far_clocks.Given as goal

-- far so far are those among the units seen
abbrev pub invariant-loop-position : goal.invariant-loop-position
invariant-loop-position l =
    let m = flown_of l.fn.mission in
    (v : ℕ) → holds l.far v ≡ (has (take l.position l.fn.config) v && (not (nat_eq v l.fn.unit) && is_too_far (m.skew +ℤ m.error) (reading_at m l.fn.unit l.fn.clk l.fn.places v)))
