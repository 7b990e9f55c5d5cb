-- What holds of the frames that all units have ended, but for those that have turned.
use Rattle.std.specs.Prelude.{◌≡◌, ◌⊎◌, ℕ, ◌<◌, true}
use Rattle.sift_base.specs.Units.{has}
use Rattle.sift_mission.specs.Data.{FlownMission}
use Rattle.sift_unit.specs.declared.board.Board.{Board}
use Rattle.sift_flight.specs.Flight.{flight_of, Strays, RoundAt}
use Rattle.sift_buffer.specs.Racks.{core_of}
use Rattle.sift_core.specs.Machines.{Flies, HasTurnedIn, board_at, accounts_at}
use Rattle.sift_core.specs.declared.machine.Machine.{Machine}

-- each unit has ended the frame, or has turned
abbrev pub HaveEnded : FlownMission → Machine → ℕ → Type 0
HaveEnded m x f = (u : ℕ) (d : Board) → has m.units u ≡ true → (f < (board_at x d u).frame) ⊎ HasTurnedIn x u

-- whatever the order of steps and strays, a frame of the mission that each unit has ended, or before which it has turned, is one of a round
-- flight over the strays that were stored
abbrev pub EndedFramesAreRound : Type 0
EndedFramesAreRound = (m : FlownMission) (w : Strays) (x : Machine) (d : Board) (f : ℕ) → Flies m w x → f < m.frames → HaveEnded m x f →
    RoundAt m w (flight_of m (core_of x.rack w) (accounts_at m x d)) f
