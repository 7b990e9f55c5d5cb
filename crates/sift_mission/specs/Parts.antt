-- The parts of a mission, as the code has them: the data that they stand for, and the code of the tasks.
use Rattle.std.specs.Prelude.{map}
use Rattle.sift_compile.specs.Tasks.{AreCodesOf}
use Rattle.sift_program.specs.Program.{program_of}
use Rattle.sift_skew.specs.declared.clocks.ClockPlan.{ClockPlan}
use Rattle.sift_mission.specs.Data.{Clocks, MissionData, FlownMission}
use Rattle.sift_mission.specs.Flown.{flown}
use Rattle.sift_mission.specs.declared.mission.MissionParts.{MissionParts}

-- the clocks that a plan stands for
abbrev pub clocks_of : ClockPlan → Clocks
clocks_of plan = record {
  skew = plan.skew;
  error = plan.error;
  rate = plan.rate;
  length = plan.length;
  start = plan.start.items;
  drift = plan.drift.items;
  errors = map (λ row. row.items) plan.errors.items;
}

-- the data that the parts stand for; the code of the tasks is no part of it
abbrev pub data_of : MissionParts → MissionData
data_of parts = record {
  units = parts.units;
  frames = parts.frames;
  period = parts.period;
  layout = parts.layout;
  names = map (λ name. name.bytes) parts.names.items;
  program = program_of parts.program;
  tables = parts.tables.items;
  sensors = map (λ words. words.items) parts.sensors.items;
  clock = clocks_of parts.clock;
  script = parts.script;
}

-- the mission that is flown of these parts
abbrev pub flown_of : MissionParts → FlownMission
flown_of parts = flown (data_of parts)

-- the code of each task means the task
abbrev pub AreCompiled : MissionParts → Type 0
AreCompiled parts = AreCodesOf parts.layout.sensors parts.layout.words (program_of parts.program).tasks parts.code.items
