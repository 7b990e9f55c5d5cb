-- What may be asked of a mission and its configurations and frames, when a memory is in shape, and when its unit may note in it.
use Rattle.std.specs.Prelude.{◌≡◌, ℕ, ◌<◌, ◌≤◌, List, length, true, if◌then◌else◌}
use Rattle.sift_base.specs.Units.{has, unit_limit}
use Rattle.sift_mission.specs.Data.{FlownMission, IsConfigOf}
use Rattle.sift_mission.specs.Fits.{Fits}
use Rattle.sift_unit_frame.specs.Memory.{Memory}

-- ---- of a mission, with a configuration or a frame

-- a configuration of the mission and the number of a slot
pub record IsSlotOf (m : FlownMission) (us : List ℕ) (i : ℕ) : Type 0 where
  pub config : IsConfigOf m us
  pub slot : i < m.slots

-- a configuration of the mission and one of its units
pub record IsUnitOf (m : FlownMission) (us : List ℕ) (u : ℕ) : Type 0 where
  pub config : IsConfigOf m us
  pub member : has us u ≡ true

-- a configuration of the mission and an output word
pub record IsOutputOf (m : FlownMission) (us : List ℕ) (w : ℕ) : Type 0 where
  pub config : IsConfigOf m us
  pub word : w < m.words

-- a sensor of the mission and one of its frames
pub record IsSensedIn (m : FlownMission) (x f : ℕ) : Type 0 where
  pub sensor : x < m.sensors
  pub frame : f < m.frames

-- a slot of a frame of the flight, in a mission that can be flown
pub record IsSlotOfFrame (m : FlownMission) (us : List ℕ) (f i : ℕ) : Type 0 where
  pub fits : Fits m
  pub slot : IsSlotOf m us i
  pub frame : f < m.frames

-- a configuration of the mission and a task
pub record IsTaskOf (m : FlownMission) (us : List ℕ) (t : ℕ) : Type 0 where
  pub config : IsConfigOf m us
  pub task : t < m.tasks

-- ---- of a memory

-- the lists of the memory have a place for each sensor, word and unit; those that the account takes have no more, and made words stand only
-- where the unit u is in its configuration us
pub record IsShaped (m : FlownMission) (us : List ℕ) (u : ℕ) (b : Memory) : Type 0 where
  pub direct : m.sensors ≤ length b.direct
  pub ins : length b.ins ≡ m.sensors
  pub relay : m.sensors ≤ length b.relay
  pub made : length b.made ≡ (if has us u then m.words else 0)
  pub outs : length b.outs ≡ m.words
  pub poll : m.words ≤ length b.poll
  pub agreed : unit_limit ≤ length b.agreed

-- u may note in its memory b what it heard: it is in its configuration us, its memory is in shape, and there is a word before, in last, for
-- each output word
pub record MayNote (m : FlownMission) (us : List ℕ) (u : ℕ) (b : Memory) (last : List ℕ) : Type 0 where
  pub member : has us u ≡ true
  pub shape : IsShaped m us u b
  pub before : length last ≡ m.words
