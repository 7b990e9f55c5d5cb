-- A board of the code as the plain record of the definitions, what its steps want and keep, and what it has kept and accounted for.
use Rattle.std.specs.Prelude.{◌≡◌, ◌⊎◌, ℕ, ◌+◌, ◌*◌, ◌<◌, ◌≤◌, map, length, slice_index_or, true, false, Some, pos}
use Rattle.sift_base.specs.Units.{has, unit_limit}
use Rattle.sift_buffer.specs.Conduct.{never, with_entered}
use Rattle.sift_buffer.specs.Conduct.{Conduct as Acts}
use Rattle.sift_buffer.specs.Ranges.{Ranges}
use Rattle.sift_buffer.specs.Views.{View}
use Rattle.sift_clock.specs.Distance.{IsWithin}
use Rattle.sift_skew.specs.Limits.{offset_limit}
use Rattle.sift_mission.specs.Data.{FlownMission}
use Rattle.sift_mission.specs.Slots.{StormsCome}
use Rattle.sift_mission.specs.Fits.{Fits}
use Rattle.sift_conduct.specs.Conduct.{account_of}
use Rattle.sift_conduct.specs.Acts.{BoardKeeps, IsUnderway}
use Rattle.sift_conduct.specs.declared.account.Account.{Account as TheAccount}
use Rattle.sift_mission.specs.Stops.{part_of}
use Rattle.sift_unit_frame.specs.Conditions.{IsShaped}
use Rattle.sift_unit_frame.specs.Memories.{memory_of}
use Rattle.sift_unit.specs.Keeping.{KeepsAs, HasFlown, IsFresh}
use Rattle.sift_unit.specs.Desk.{Desk, cursor, first_desk, accounts_of}
use Rattle.sift_unit.specs.Going.{Going}
use Rattle.sift_unit.specs.declared.board.Board.{Board as TheBoard}

-- a board
abbrev pub desk_of : TheBoard → Desk
desk_of b = record {
  unit = b.unit;
  frame = b.frame;
  subframe = b.subframe;
  part = part_of b.part;
  slot = b.slot;
  other = b.other;
  cfg = b.cfg;
  clk = b.clk;
  last = b.memory.words.before;
  places = b.places;
  memory = memory_of b.memory;
  accounts = map account_of b.accounts.items;
}

-- the port has the units, slots and frames of the mission
pub record IsPortOf (m : FlownMission) (r : Ranges) : Type 0 where
  pub units : (u : ℕ) → has m.units u ≡ true → u < r.units
  pub slots : m.slots ≤ r.slots
  pub frames : m.frames ≤ r.frames

-- a board steps on its own port: all that a step wants and keeps. The board knows how many frames the mission has and from which on its unit
-- is stray, and its mark tells whether the unit has turned
pub record Drives (m : FlownMission) (b : TheBoard) (v : View) : Type 0 where
  pub fits : Fits m
  pub storms : StormsCome m
  pub unit : v.unit ≡ b.unit
  pub ranges : IsPortOf m v.ranges
  pub frames : b.frames ≡ m.frames
  pub storm : b.storm ≡ m.storm b.unit
  pub keeps : KeepsAs m b.turned (desk_of b) v.conduct

-- wherever the board has come, it is that of the same unit, with the same frames, storm and mark
pub record IsSameBoard (b b' : TheBoard) : Type 0 where
  pub unit : b'.unit ≡ b.unit
  pub frames : b'.frames ≡ b.frames
  pub storm : b'.storm ≡ b.storm
  pub turned : b'.turned ≡ b.turned

-- the board stands where it stood, and is marked as one whose unit has turned
pub record IsMarked (b b' : TheBoard) : Type 0 where
  pub desk : desk_of b' ≡ desk_of b
  pub frames : b'.frames ≡ b.frames
  pub storm : b'.storm ≡ b.storm
  pub turned : b'.turned ≡ true

-- the board has begun the next subframe, or the next frame, with all that holds of it, whatever its unit did
pub record GoesOn (m : FlownMission) (b b' : TheBoard) : Type 0 where
  pub going : (c : Acts) → Going m (desk_of b) c → Going m (desk_of b') (with_entered c)
  pub same : IsSameBoard b b'
  pub frame : (b'.frame ≡ b.frame) ⊎ ((b.subframe + 1 ≡ m.period) × (b'.frame ≡ b.frame + 1))
  pub place : b'.frame * m.period + b'.subframe ≡ b.frame * m.period + b.subframe + 1

-- the subframe after the board's is the first of the frame from which on its unit is stray
abbrev pub TurnsNext : FlownMission → TheBoard → Type 0
TurnsNext m b = (b.subframe + 1 ≡ m.period) × (b.storm ≡ Some (b.frame + 1))

-- the board stands at the start of the next frame
abbrev pub BeginsNext : TheBoard → TheBoard → Type 0
BeginsNext b b' = (b'.frame ≡ b.frame + 1) × (cursor (desk_of b') ≡ 0)

-- the board of unit u before the flight: in shape, with the mission's frames and its unit's storm; and the mission is one that boards can fly
pub record IsNewBoard (m : FlownMission) (u : ℕ) (b : TheBoard) : Type 0 where
  pub fits : Fits m
  pub storms : StormsCome m
  pub desk : desk_of b ≡ first_desk m u b.places (memory_of b.memory)
  pub places : length b.places ≡ unit_limit
  pub shape : IsShaped m m.units u (memory_of b.memory)
  pub frames : b.frames ≡ m.frames
  pub storm : b.storm ≡ m.storm u
  pub turned : b.turned ≡ false

-- a new board drives on a port of its unit on which nothing was done
abbrev pub NewBoardLaw : Type 0
NewBoardLaw = (m : FlownMission) (u : ℕ) (b : TheBoard) (v : View) → has m.units u ≡ true → IsNewBoard m u b →
    v.unit ≡ u → IsPortOf m v.ranges → IsFresh v.conduct → Drives m b v

-- what a board has kept: its acts and accounts in all frames that it has ended, and its acts in the frame that is underway; a turned unit has
-- none that is underway, and has kept to its conduct however many frames are counted
pub record HasKept (m : FlownMission) (b : TheBoard) (v : View) : Type 0 where
  pub ended : (n : ℕ) → HasFlown m (desk_of b) v.conduct n → BoardKeeps m b.unit v.conduct (accounts_of m (desk_of b)) n
  pub underway : IsUnderway m v.conduct b.cfg b.unit b.frame

-- a board that has driven, whatever words its port gave, has kept to its conduct
abbrev pub DriveLaw : Type 0
DriveLaw = (m : FlownMission) (b : TheBoard) (v : View) → Drives m b v → HasKept m b v

-- the account of frame f that a board has, and d where it has none
abbrev pub account_at : TheBoard → ℕ → TheAccount → TheAccount
account_at b f d = slice_index_or b.accounts.items f d

-- a board has one account for each frame that it has ended: that of the frame, with offsets of which figures can be told. So one whose unit
-- has landed has the accounts of all frames, and one whose unit has turned those of the frames before its storm
pub record HasAccounts (m : FlownMission) (b : TheBoard) (v : View) : Type 0 where
  pub frames : b.frame ≤ m.frames
  pub count : length b.accounts.items ≡ b.frame
  pub landed : v.conduct.progress ≡ m.frames * m.period → length b.accounts.items ≡ m.frames
  pub turned : v.conduct.progress ≡ never → m.storm b.unit ≡ Some (length b.accounts.items)
  pub each : (f : ℕ) (d : TheAccount) → f < b.frame → account_of (account_at b f d) ≡ accounts_of m (desk_of b) f
  pub clk : (f : ℕ) (d : TheAccount) → f < b.frame → IsWithin offset_limit (account_at b f d).clk (pos 0)
  pub next_clk : (f : ℕ) (d : TheAccount) → f < b.frame → IsWithin offset_limit (account_at b f d).next_clk (pos 0)

-- a board that has driven has them
abbrev pub AccountLaw : Type 0
AccountLaw = (m : FlownMission) (b : TheBoard) (v : View) → Drives m b v → HasAccounts m b v
