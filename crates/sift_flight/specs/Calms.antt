-- Two calm missions.
use Rattle.std.specs.Prelude.{ℕ, zero, suc, [], ◌∷◌, false, ◌&&◌, nat_eq}
use Rattle.sift_base.specs.declared.slots.Slot.{Slot}
use Rattle.sift_base.specs.declared.slots.Slot.TheVariants.{Clock, Sense, RelaySense, Out, Report, RelayReport}
use Rattle.sift_lang.specs.declared.tree.Op.TheVariants.{Add, Mul}
use Rattle.sift_lang.specs.Tree.{number, sense, this_frame, last_frame, binary, output, end, step, TaskTree}
use Rattle.sift_buffer.specs.Lawful.{Lawful}
use Rattle.sift_flight.specs.Figures.{HasMarginAt}
use Rattle.sift_flight.specs.Flight.{flight_of}
use Rattle.sift_flight.specs.Landing.{HaveLanded}
use Rattle.sift_mission.specs.Premises.{IsFlyable, RunsProgram}
use Rattle.sift_flight.specs.Calm.{Calm, mission_of, program_of}
use Rattle.sift_flight.specs.CalmFlight.{account_of, ranges_of, core_of}

-- ---- one task and no sensor

-- out 0 = 3 * last + 1
abbrev pub count_task : TaskTree
count_task = record { outputs = 1; body = step (output 0 (binary Add (binary Mul (number 3) (last_frame 0)) (number 1))) end }

-- the slots by number: the clock, the word, the report, and the relays of reports
abbrev pub count_kind : ℕ → Slot
count_kind zero = Clock
count_kind (suc zero) = Out 0
count_kind (suc (suc zero)) = Report
count_kind (suc (suc (suc s))) = RelayReport s

-- 3 * 5 + 1 is 16
abbrev pub count : Calm
count = record {
  period = 12;
  sensed = [];
  tasks = count_task ∷ [];
  runs = 4 ∷ [];
  needs = λ w v. false;
  starts = 5 ∷ [];
  outs = 16 ∷ [];
  kind = count_kind;
  turns = λ u. false;
}

-- ---- a sensor, and two tasks that run in different subframes, of which the second reads the first's word

-- the first task: out 0 = sensor 0 + 1
abbrev pub reading_task : TaskTree
reading_task = record { outputs = 1; body = step (output 0 (binary Add (sense 0) (number 1))) end }

-- the second: out 1 = 2 * out 0 + last 1
abbrev pub adding_task : TaskTree
adding_task = record { outputs = 1; body = step (output 0 (binary Add (binary Mul (number 2) (this_frame 0)) (last_frame 1))) end }

-- the slots by number: the clock, the sensor, its relay, two words, the report, and the relays of reports
abbrev pub gauge_kind : ℕ → Slot
gauge_kind zero = Clock
gauge_kind (suc zero) = Sense 0
gauge_kind (suc (suc zero)) = RelaySense 0
gauge_kind (suc (suc (suc zero))) = Out 0
gauge_kind (suc (suc (suc (suc zero)))) = Out 1
gauge_kind (suc (suc (suc (suc (suc zero))))) = Report
gauge_kind (suc (suc (suc (suc (suc (suc s)))))) = RelayReport s

-- the sensor says 7; 7 + 1 is 8, and 2 * 8 + 9 is 25; unit 3 turns when the frame has ended
abbrev pub gauge : Calm
gauge = record {
  period = 14;
  sensed = 7 ∷ [];
  tasks = reading_task ∷ adding_task ∷ [];
  runs = 4 ∷ 6 ∷ [];
  needs = λ w v. nat_eq w 1 && nat_eq v 0;
  starts = 5 ∷ 9 ∷ [];
  outs = 8 ∷ 25 ∷ [];
  kind = gauge_kind;
  turns = λ u. nat_eq u 3;
}

-- ---- what they show

-- the mission can be flown, its program is run, its core is lawful, its boards and accounts have landed, and its frame has margin
pub record FliesCalmly (c : Calm) : Type 0 where
  pub flyable : IsFlyable (mission_of c)
  pub runs : RunsProgram (mission_of c) (program_of c)
  pub lawful : Lawful (ranges_of c) (core_of c)
  pub landed : HaveLanded (mission_of c) (ranges_of c) (core_of c) (λ u f. account_of c) 1
  pub margin : HasMarginAt (mission_of c) (flight_of (mission_of c) (core_of c) (λ u f. account_of c)) 0

-- both fly
pub record CalmMissionsFly : Type 0 where
  pub count_flies : FliesCalmly count
  pub gauge_flies : FliesCalmly gauge
