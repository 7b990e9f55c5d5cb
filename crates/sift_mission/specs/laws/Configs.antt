-- Units of a configuration.
use Rattle.std.proofs.Common.{◌≡◌, ℕ, List, true, arith, ap, sym}
use Rattle.sift_base.specs.Units.{has}
use Rattle.sift_config.specs.Config.{reader_of, first_units}
use Rattle.sift_config.specs.laws.Readers.{reader_in}
use Rattle.sift_mission.specs.Data.{FlownMission, IsConfigOf, MissionData}
use Rattle.sift_mission.specs.PartsFit.{PartsFit}
use Rattle.sift_mission.specs.Flown.{flown}

-- a sensor's reader is a unit of the configuration
pub has-reader : (m : FlownMission) (us : List ℕ) (x : ℕ) → IsConfigOf m us → has us (reader_of us x) ≡ true
has-reader m us x config = let long = config.enough in reader_in us x (omega arith)

-- the units of a mission whose parts fit are as many as its layout has
pub units_fit : (d : MissionData) → PartsFit d → (flown d).units ≡ first_units d.layout.units
units_fit d fit = ap first_units (sym fit.layout.units)
