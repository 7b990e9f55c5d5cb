-- The end of a flight, as a number.
use Rattle.std.proofs.Common.{◌*◌, ◌≤◌, arith}
use Rattle.std.proofs.lemmas.Nat.{mul-le}
use Rattle.sift_buffer.specs.Conduct.{last_progress}
use Rattle.sift_mission.specs.Data.{FlownMission}
use Rattle.sift_mission.specs.Fits.{Fits}
use Rattle.sift_mission.specs.PartsFit.{frame_limit, longest_period}

-- a flight ends at the greatest progress of a unit that flies, or before
pub end_low : (m : FlownMission) → Fits m → m.frames * m.period ≤ last_progress
end_low m fits = let counted = fits.counted in let most : m.frames * m.period ≤ frame_limit * longest_period =
    mul-le m.frames m.period frame_limit longest_period counted.frames counted.short in omega arith
