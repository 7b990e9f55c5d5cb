-- The reader of a sensor.
use Rattle.std.proofs.Common.{◌≡◌, ℕ, ◌<◌, ◌%◌, List, length, true}
use Rattle.std.proofs.Math.Nat.{mod-lt}
use Rattle.sift_base.specs.Units.{has}
use Rattle.sift_base.specs.laws.Counts.{has_index}
use Rattle.sift_config.specs.Config.{reader_of}

-- it is a unit of the configuration
pub reader_in : (us : List ℕ) (x : ℕ) → 0 < length us → has us (reader_of us x) ≡ true
reader_in us x some = has_index us (x % length us) (mod-lt x some)
