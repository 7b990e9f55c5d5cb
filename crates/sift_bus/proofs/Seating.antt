-- Units that take their seats.
use Rattle.std.proofs.Common.{◌≡◌, ℕ, refl, sym, subst, true, arith}
use Rattle.sift_base.specs.Units.{has}
use Rattle.sift_buffer.specs.Tables.{ranges_of}
use Rattle.sift_buffer.specs.Views.{View, fresh_view}
use Rattle.sift_config.specs.laws.FirstUnits.{unit_low}
use Rattle.sift_mission.specs.Data.{MissionData}
use Rattle.sift_mission.specs.Flown.{flown}
use Rattle.sift_mission.specs.PartsFit.{PartsFit}
use Rattle.sift_flight.specs.Landing.{HasPlacesFor}
use Rattle.sift_unit.specs.Boards.{Drives, IsNewBoard, NewBoardLaw, IsPortOf}
use Rattle.sift_unit.specs.declared.board.Board.{Board}

-- a port of the mission's layout and frames has room for the mission
port_fits : (d : MissionData) → PartsFit d → IsPortOf (flown d) (ranges_of d.layout d.frames)
port_fits d fit = record {
  units = λ u there. rw fit.layout.units (unit_low d.units u there);
  slots = omega arith;
  frames = omega arith;
}

-- and a place for each of its units and slots
pub places_for : (d : MissionData) → PartsFit d → HasPlacesFor (flown d) (ranges_of d.layout d.frames)
places_for d fit = record { units = (port_fits d fit).units; slots = (port_fits d fit).slots }

-- a new board drives on a port on which nothing was done
pub new_drives : (d : MissionData) (u : ℕ) (b : Board) (v : View) → PartsFit d → NewBoardLaw → has (flown d).units u ≡ true → IsNewBoard (flown d) u b →
    v ≡ fresh_view (ranges_of d.layout d.frames) u → Drives (flown d) b v
new_drives d u b v fit may there new is = subst (λ (w : View). Drives (flown d) b w) (sym is)
    (may (flown d) u b (fresh_view (ranges_of d.layout d.frames) u) there new refl (port_fits d fit)
    (record { progress = refl; left = refl; said = λ f k q. refl; heard = λ f k p. refl }))
