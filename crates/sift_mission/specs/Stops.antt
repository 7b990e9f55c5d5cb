-- The places of a frame, in the order in which a unit comes to them, and its stops: where a slot is heard, where a task is run, and where a slot
-- is said.
use Rattle.std.specs.Prelude.{◌≡◌, ℕ, ◌+◌, ◌*◌, ◌<◌, ◌≤◌, List, true}
use Rattle.sift_base.specs.declared.slots.Slot.{Slot}
use Rattle.sift_mission.specs.Data.{FlownMission}
use Rattle.sift_mission.specs.Slots.{is_slot}
use Rattle.sift_mission.specs.declared.schedule.Part.{Part}
use Rattle.sift_mission.specs.declared.schedule.Part.TheVariants.{Hearing, Running, Saying}

-- ---- places

-- the number of a part of a subframe
abbrev pub part_of : Part → ℕ
part_of Hearing = 0
part_of Running = 1
part_of Saying = 2

-- the number of a place in its frame: each slot has 16 units at most, each part 128 slots, and each subframe 4 parts
abbrev pub spot : ℕ → ℕ → ℕ → ℕ → ℕ
spot subframe part slot other = subframe * 8192 + part * 2048 + slot * 16 + other

-- where a slot is heard from p
abbrev pub hear_spot : FlownMission → List ℕ → Slot → ℕ → ℕ
hear_spot m us k p = spot (m.heard_in us k) 0 (m.number k) p

-- where a slot is said to q
abbrev pub say_spot : FlownMission → List ℕ → Slot → ℕ → ℕ
say_spot m us k q = spot (m.due us k) 2 (m.number k) q

-- in this part of a subframe there is something to do of a slot, which is a task's number in the part in which tasks are run
abbrev pub IsDueIn : FlownMission → List ℕ → ℕ → Part → ℕ → Type 0
IsDueIn m us subframe Hearing slot = m.heard_in us (m.kind slot) ≡ subframe
IsDueIn m us subframe Running slot = (slot < m.tasks) × (m.run_in us slot ≡ subframe)
IsDueIn m us subframe Saying slot = m.due us (m.kind slot) ≡ subframe

-- ---- stops

-- a place is the first of a slot that is heard, of a task that is run, or of a slot that is said
pub data IsStop (m : FlownMission) (us : List ℕ) (place : ℕ) : Type 0 where
  hearing : (k : Slot) → is_slot m k ≡ true → place ≡ hear_spot m us k 0 → IsStop m us place
  running : (t : ℕ) → t < m.tasks → place ≡ spot (m.run_in us t) 1 t 0 → IsStop m us place
  saying : (k : Slot) → is_slot m k ≡ true → place ≡ say_spot m us k 0 → IsStop m us place

-- no stop lies between two places, the first of them counted
abbrev pub IsNothingBetween : FlownMission → List ℕ → ℕ → ℕ → Type 0
IsNothingBetween m us at to = (place : ℕ) → IsStop m us place → at ≤ place → place < to → ⊥
