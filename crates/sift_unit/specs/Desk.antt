-- A board as a plain record: where its unit stands in the flight, and what it remembers.
use Rattle.std.specs.Prelude.{ℕ, ◌+◌, ◌&&◌, ◌||◌, nat_lt, nat_eq, Bool, List, [], Option, if◌then◌else◌, slice_index_or, ℤ}
use Rattle.sift_base.specs.declared.slots.Slot.{Slot}
use Rattle.sift_base.specs.declared.slots.Slot.TheVariants.{Report}
use Rattle.sift_mission.specs.Data.{FlownMission}
use Rattle.sift_mission.specs.Slots.{calls}
use Rattle.sift_conduct.specs.Conduct.{Account}
use Rattle.sift_unit_frame.specs.Memory.{Memory}
use Rattle.sift_unit_frame.specs.Tidings.{frame_account}
use Rattle.sift_mission.specs.Stops.{spot}

-- a board: its unit; the place at which it stands, by frame, subframe, part, slot and other unit; its configuration, its clock's offset and
-- the words voted in the frame before; by unit, what it heard in the slot at which it stands; what it remembers; and its accounts of all
-- frames that have ended. A subframe has three parts: in part 0 the unit hears, in part 1 it runs tasks, and the slot is then a task's
-- number, and in part 2 it says
pub record Desk : Type 0 where
  pub unit : ℕ
  pub frame : ℕ
  pub subframe : ℕ
  pub part : ℕ
  pub slot : ℕ
  pub other : ℕ
  pub cfg : List ℕ
  pub clk : ℤ
  pub last : List ℕ
  pub places : List (Option ℕ)
  pub memory : Memory
  pub accounts : List Account

-- ---- where a board stands in its frame, and from where on what is past

-- where a board stands in its frame
abbrev pub cursor : Desk → ℕ
cursor b = spot b.subframe b.part b.slot b.other

-- from where on all of a slot was heard
abbrev pub heard_mark : FlownMission → List ℕ → Slot → ℕ
heard_mark m us k = spot (m.heard_in us k) 0 (m.number k + 1) 0

-- from where on a task was run
abbrev pub run_mark : FlownMission → List ℕ → ℕ → ℕ
run_mark m us t = spot (m.run_in us t) 1 (t + 1) 0

-- from where on the catches of the frame are settled
abbrev pub settled_mark : FlownMission → List ℕ → ℕ
settled_mark m us = spot (m.due us Report) 2 0 0

-- a place of frame f is past, where a board stands at a place of its frame: it is one of a frame that has ended, or one before
abbrev pub is_past : ℕ → ℕ → ℕ → ℕ → Bool
is_past frame at f place = nat_lt f frame || (nat_eq f frame && nat_lt place at)

-- ---- calls of the port

-- the board stands where it hears a word
abbrev pub is_hearing : FlownMission → Desk → Bool
is_hearing m b =
    nat_eq b.part 0 && (nat_lt b.slot m.slots && (nat_eq b.subframe (m.heard_in b.cfg (m.kind b.slot)) && calls m b.cfg (m.kind b.slot) b.other b.unit))

-- the board stands where it says a word
abbrev pub is_saying : FlownMission → Desk → Bool
is_saying m b =
    nat_eq b.part 2 && (nat_lt b.slot m.slots && (nat_eq b.subframe (m.due b.cfg (m.kind b.slot)) && calls m b.cfg (m.kind b.slot) b.unit b.other))

-- the board stands where it hears or says a word
abbrev pub is_call : FlownMission → Desk → Bool
is_call m b = is_hearing m b || is_saying m b

-- the board stands at the end of its subframe
abbrev pub is_end : FlownMission → Desk → Bool
is_end m b = nat_eq b.part 2 && nat_eq b.slot m.slots

-- ---- accounts

-- the account of the board's frame, as it would be if the frame ended now
abbrev pub account_now : FlownMission → Desk → Account
account_now m b = frame_account m b.cfg b.unit b.clk b.memory

-- the accounts of the frames that have ended, and of its frame
abbrev pub accounts_of : FlownMission → Desk → ℕ → Account
accounts_of m b f = if nat_lt f b.frame then slice_index_or b.accounts f (account_now m b) else account_now m b

-- ---- how a board begins, and how it ends a frame

-- the board of unit u before it did anything, with these places and this memory
abbrev pub first_desk : FlownMission → ℕ → List (Option ℕ) → Memory → Desk
first_desk m u places memory = record {
  unit = u;
  frame = 0;
  subframe = 0;
  part = 0;
  slot = 0;
  other = 0;
  cfg = m.units;
  clk = m.offset u;
  last = m.starts;
  places = places;
  memory = memory;
  accounts = [];
}

-- the board at the start of the next frame, with this memory and these accounts
abbrev pub ended_desk : FlownMission → Desk → Memory → List Account → Desk
ended_desk m b memory accounts = record b {
  frame = b.frame + 1;
  subframe = 0;
  part = 0;
  slot = 0;
  other = 0;
  cfg = (account_now m b).next_cfg;
  clk = (account_now m b).next_clk;
  last = (account_now m b).outs;
  memory = memory;
  accounts = accounts;
}

-- the board at another place of its frame, with these words heard
abbrev pub moved : Desk → ℕ → ℕ → ℕ → ℕ → List (Option ℕ) → Desk
moved b subframe part slot other places =
    record b { subframe = subframe; part = part; slot = slot; other = other; places = places }
