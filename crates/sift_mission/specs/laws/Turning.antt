-- Units that turn stray.
use Rattle.std.proofs.Common.{◌≡◌, ℕ, ◌<◌, Some, false}
use Rattle.std.proofs.lemmas.Bool.{ltb-true, not-false}
use Rattle.sift_mission.specs.Slots.{turned_by}

-- a frame by which a unit hasn't turned is before the one from which on it is stray
pub before_turning : (f from : ℕ) → turned_by (Some from) f ≡ false → f < from
before_turning f from whole = ltb-true f from (not-false _ whole)
