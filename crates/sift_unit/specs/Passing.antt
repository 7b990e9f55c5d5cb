-- What a board does of itself, without its port.
use Rattle.std.specs.Prelude.{◌≡◌, ℕ, ◌+◌, ◌-◌, ◌*◌, ◌<◌, ◌≤◌, Bool, false}
use Rattle.sift_base.specs.Units.{unit_limit}
use Rattle.sift_buffer.specs.Conduct.{Conduct as Acts}
use Rattle.sift_mission.specs.Data.{FlownMission}
use Rattle.sift_unit.specs.Desk.{Desk, is_call}
use Rattle.sift_unit.specs.Going.{InRange, Going}

-- a move within a frame, which keeps what holds of the board, whatever its unit did
pub record Passes (m : FlownMission) (b b' : Desk) : Type 0 where
  pub range : InRange m b'
  pub going : (c : Acts) → Going m b c → Going m b' c
  pub unit : b'.unit ≡ b.unit
  pub frame : b'.frame ≡ b.frame
  pub subframe : b'.subframe ≡ b.subframe

-- how many places are left in the subframe, at most
abbrev pub left : Desk → ℕ
left b = 8192 - (b.part * 2048 + b.slot * 16 + b.other)

-- such a move that comes nearer to the subframe's end
pub record Onward (m : FlownMission) (b b' : Desk) : Type 0 where
  pub passes : Passes m b b'
  pub less : left b' < left b

-- where the slot at which the board stands is heard or said in its part and subframe, no unit of it is left
pub record IsWhole (m : FlownMission) (b : Desk) : Type 0 where
  pub heard : b.part ≡ 0 → b.slot < m.slots → b.subframe ≡ m.heard_in b.cfg (m.kind b.slot) → b.other ≡ unit_limit
  pub said : b.part ≡ 2 → b.slot < m.slots → b.subframe ≡ m.due b.cfg (m.kind b.slot) → b.other ≡ unit_limit

-- such a move within a slot: to a call, if one is found, and past all of the slot, if none is
pub record Finds (m : FlownMission) (b : Desk) (found : Bool) (b' : Desk) : Type 0 where
  pub passes : Passes m b b'
  pub nearer : left b' ≤ left b
  pub call : is_call m b' ≡ found
  pub whole : found ≡ false → IsWhole m b'

-- how far a board is from the flight's end: by subframes that are left, and by places that are left in its own
abbrev pub distance : FlownMission → Desk → ℕ
distance m b = (m.frames * m.period - (b.frame * m.period + b.subframe)) * 8192 + left b
