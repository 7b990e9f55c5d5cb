-- What boards do, for any port: what they guarantee, how they start and turn, and how far they may jump.
use Rattle.std.specs.Prelude.{◌≡◌, ℕ, ◌+◌, ◌<◌, ◌≤◌, ◌++◌, [], ◌∷◌, length, List, Option, Some, true}
use Rattle.sift_base.specs.Units.{has, unit_limit}
use Rattle.sift_buffer.specs.Conduct.{with_turned}
use Rattle.sift_buffer.specs.Conduct.{Conduct as Acts}
use Rattle.sift_mission.specs.Data.{FlownMission}
use Rattle.sift_mission.specs.Fits.{Fits}
use Rattle.sift_conduct.specs.Conduct.{Account}
use Rattle.sift_conduct.specs.Acts.{BoardKeeps}
use Rattle.sift_unit_frame.specs.Memory.{Memory}
use Rattle.sift_unit_frame.specs.Conditions.{IsShaped}
use Rattle.sift_mission.specs.Stops.{spot, IsNothingBetween}
use Rattle.sift_unit.specs.Desk.{Desk, cursor, is_end, account_now, accounts_of, first_desk, ended_desk, moved}
use Rattle.sift_unit.specs.Going.{Going}
use Rattle.sift_unit.specs.Keeping.{Keeps, Turned, HasFlown, IsFresh}

-- a board, flying or turned, guarantees its acts and accounts in all frames that it has ended
abbrev pub KeepLaw : Type 0
KeepLaw = (m : FlownMission) (b : Desk) (c : Acts) (n : ℕ) → Fits m → Keeps m b c → HasFlown m b c n → BoardKeeps m b.unit c (accounts_of m b) n

-- a new board keeps to its conduct, where nothing was done on its port
abbrev pub StartLaw : Type 0
StartLaw = (m : FlownMission) (u : ℕ) (places : List (Option ℕ)) (memory : Memory) (c : Acts) → Fits m → has m.units u ≡ true →
    length places ≡ unit_limit → IsShaped m m.units u memory → IsFresh c → Keeps m (first_desk m u places memory) c

-- a board that flies may turn at the end of the frame before the one from which on its unit is stray
abbrev pub TurnLaw : Type 0
TurnLaw = (m : FlownMission) (b : Desk) (c : Acts) (memory : Memory) (accounts : List Account) → Fits m → Going m b c →
    m.storm b.unit ≡ Some (b.frame + 1) → is_end m b ≡ true → b.subframe + 1 ≡ m.period → b.frame < m.frames →
    IsShaped m (account_now m b).next_cfg b.unit memory → accounts ≡ b.accounts ++ account_now m b ∷ [] → Turned m (ended_desk m b memory accounts) (with_turned c)

-- a board whose unit is stray from frame 0 on may turn before anything else
abbrev pub TurnFirstLaw : Type 0
TurnFirstLaw = (m : FlownMission) (b : Desk) (c : Acts) → Going m b c → m.storm b.unit ≡ Some 0 → b.frame ≡ 0 → cursor b ≡ 0 →
    Turned m b (with_turned c)

-- a board at the start of a slot may jump within its subframe to where there is no stop before
abbrev pub JumpLaw : Type 0
JumpLaw = (m : FlownMission) (b : Desk) (c : Acts) (part slot : ℕ) → Fits m → Going m b c → b.other ≡ 0 → part ≤ 2 → slot ≤ m.slots →
    cursor b ≤ spot b.subframe part slot 0 → IsNothingBetween m b.cfg (cursor b) (spot b.subframe part slot 0) →
    Going m (moved b b.subframe part slot 0 b.places) c
