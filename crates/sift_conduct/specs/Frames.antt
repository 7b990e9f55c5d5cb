-- A unit's conduct from frame to frame.
use Rattle.std.specs.Prelude.{◌≡◌, ℕ, zero, suc, List, [], true, false, Option, None, Some, min}
use Rattle.sift_base.specs.Units.{has}
use Rattle.sift_base.specs.declared.slots.Slot.{Slot}
use Rattle.sift_exec.specs.Conviction.{nobody}
use Rattle.sift_mission.specs.Data.{FlownMission}
use Rattle.sift_mission.specs.Slots.{has_turned}
use Rattle.sift_conduct.specs.Conduct.{Account, Places, UnitFrame, Conduct, said_of}

-- the words voted in the frame before, where a gives the accounts by frame
abbrev pub last_of : FlownMission → (ℕ → Account) → ℕ → List ℕ
last_of m a zero = m.starts
last_of m a (suc f) = (a f).outs

-- what one unit does in its flight, by frame: the words that it says and hears, and its accounts
pub record UnitFlight : Type 0 where
  pub said : ℕ → Places
  pub heard : ℕ → Places
  pub account : ℕ → Account

-- the unit u in frame f of such a flight
abbrev pub frame_of : FlownMission → ℕ → UnitFlight → ℕ → UnitFrame
frame_of m u d f =
    record { mission = m; unit = u; frame = f; account = d.account f; heard = d.heard f; last = last_of m d.account f }

-- how a frame begins: the first with all units and the offset at the start, a later one with what was found in the frame before
abbrev pub BeginConduct : FlownMission → ℕ → (ℕ → Account) → ℕ → Type 0
BeginConduct m u a zero = ((a 0).cfg ≡ m.units) × ((a 0).clk ≡ m.offset u)
BeginConduct m u a (suc f) = ((a (suc f)).cfg ≡ (a f).next_cfg) × ((a (suc f)).clk ≡ (a f).next_clk)

-- the account of a unit that is idle, since it is outside its configuration: it has no word and catches nobody, and nothing changes
abbrev pub IdleConduct : Account → Type 0
IdleConduct a = a ≡ record a { idle = true; ins = []; outs = []; bad = nobody; next_cfg = a.cfg; next_clk = a.clk }

-- all that unit u does in frame f of its flight d
pub record FrameConduct (m : FlownMission) (u : ℕ) (d : UnitFlight) (f : ℕ) : Type 0 where
  pub begins : BeginConduct m u d.account f
  pub said : (k : Slot) (q : ℕ) → d.said f k q ≡ said_of (frame_of m u d f) k q
  pub busy : has (d.account f).cfg u ≡ true → Conduct (frame_of m u d f)
  pub idle : has (d.account f).cfg u ≡ false → IdleConduct (d.account f)

-- u is a unit of the mission that has not turned by f
pub record Flies (m : FlownMission) (u f : ℕ) : Type 0 where
  pub unit : has m.units u ≡ true
  pub whole : has_turned m u f ≡ false

-- how many of so many frames a unit flies: all, or those before it turns
abbrev pub frames_before : Option ℕ → ℕ → ℕ
frames_before None frames = frames
frames_before (Some from) frames = min from frames
