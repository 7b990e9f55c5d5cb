-- The frames that all units have ended, but for those that have turned, are those of a round flight.
use Rattle.std.proofs.Common.{◌≡◌, ◌⊎◌, ℕ, ◌+◌, ◌≤◌, inl, inr, ⊎_elim, true, refl, sym, subst, arith}
use Rattle.sift_base.specs.Units.{has}
use Rattle.sift_buffer.specs.Views.{View}
use Rattle.sift_buffer.specs.Racks.{ranges_for, core_of, view_at}
use Rattle.sift_buffer.specs.declared.rack.Rack.{Rack}
use Rattle.sift_mission.specs.Data.{FlownMission}
use Rattle.sift_conduct.specs.Acts.{BoardKeeps}
use Rattle.sift_flight.specs.Flight.{Strays}
use Rattle.sift_flight.specs.Landing.{LandedFramesAreRound, LawfulCoresHearLawfully, HasPlacesFor}
use Rattle.sift_unit.specs.Boards.{desk_of, Drives, DriveLaw}
use Rattle.sift_unit.specs.Down.{StrayLaw}
use Rattle.sift_unit.specs.Keeping.{HasFlown}
use Rattle.sift_unit.specs.declared.board.Board.{Board}
use Rattle.sift_core.specs.Machines.{Flies, IsFlying, HasTurnedIn, board_at, accounts_at}
use Rattle.sift_core.specs.Ended.{EndedFramesAreRound}
use Rattle.sift_core.specs.declared.machine.Machine.{Machine}
use Rattle.sift_core.proofs.Stages.{keeps_turned}
use Rattle.sift_core.proofs.MachineSteps.{unit_below}
use Rattle.sift_core.proofs.Progress.{flyable}

-- the rack as the port of a unit that has stored these strays
abbrev pub view_beside : Rack → Strays → ℕ → View
view_beside x w u = record (view_at x u) { conduct = (core_of x w).of u }

-- the board of a unit drives on it
pub drives_beside : StrayLaw → (m : FlownMission) (w : Strays) (x : Machine) (d : Board) (u : ℕ) → Flies m w x → has m.units u ≡ true →
    Drives m (board_at x d u) (view_beside x.rack w u)
drives_beside stray m w x d u flies there =
    stray m (board_at x d u) (view_at x.rack u) (view_beside x.rack w u) (flies.drives u d (unit_below m x u (w, flies) there)) refl

-- so it has kept its conduct in all frames that it has ended, and in all, where its unit has turned; whatever was stored
board_keeps : DriveLaw → StrayLaw → (m : FlownMission) (w : Strays) (x : Machine) (d : Board) (u n : ℕ) → Flies m w x → has m.units u ≡ true →
    (n ≤ (board_at x d u).frame) ⊎ HasTurnedIn x u → BoardKeeps m u ((core_of x.rack w).of u) (accounts_at m x d u) n
board_keeps law stray m w x d u n flies there ended =
    let b : Board = board_at x d u in
    let drives : Drives m b (view_beside x.rack w u) = drives_beside stray m w x d u flies there in
    let stage = flies.lawful.formed.stage u (unit_below m x u (w, flies) there) in
    let flown : HasFlown m (desk_of b) ((core_of x.rack w).of u) n =
    ⊎_elim (λ e. inl e) (λ t. inr (keeps_turned m b.turned (desk_of b) ((core_of x.rack w).of u) drives.keeps stage t)) ended in
    subst (λ (v : ℕ). BoardKeeps m v ((core_of x.rack w).of u) (accounts_at m x d u) n) (sym drives.unit)
    ((law m b (view_beside x.rack w u) drives).ended n flown)

-- the core has a place for each unit and slot
pub has_places : (m : FlownMission) (x : Machine) → IsFlying m x → HasPlacesFor m (ranges_for x.rack)
has_places m x flying = record { units = λ u there. unit_below m x u flying there; slots = (flyable m x flying).ranges.slots }

-- whatever the order of steps and strays, a frame that each unit which has not turned has ended is one of a round flight over the strays that
-- were stored
pub ended_round : DriveLaw → StrayLaw → LawfulCoresHearLawfully → LandedFramesAreRound → EndedFramesAreRound
ended_round law stray hear round m w x d f flies within ended =
    round m (ranges_for x.rack) (core_of x.rack w) (accounts_at m x d) (f + 1) f (flyable m x (w, flies)).fits (record {
      places = has_places m x (w, flies);
      heard = hear (ranges_for x.rack) (core_of x.rack w) flies.lawful;
      boards = λ u there. board_keeps law stray m w x d u (f + 1) flies there (⊎_elim (λ e. inl (omega arith)) (λ t. inr t) (ended u d there));
      within = omega arith;
    }) (omega arith)
