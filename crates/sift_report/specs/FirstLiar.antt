-- The report of missions/first_5_liar.toml in version 2: from frame 2 on unit 1 of five says 999 for the word of task `target`. It meets the premises of what
-- lies cost, tells all of it, and other lines don't.
use Rattle.std.specs.Prelude.{codes, ◌≡◌, ℕ, List, [], ◌∷◌, ◌++◌, slice_set, true, false, None, Some, ℤ, pos, negsuc}
use Rattle.sift_base.specs.Units.{has}
use Rattle.sift_base.specs.declared.slots.Layout.{Layout}
use Rattle.sift_exec.specs.Conviction.{nobody, noted}
use Rattle.sift_exec.specs.declared.catches.Kind.TheVariants.{Poll, Clock}
use Rattle.sift_lang.specs.Tree.{TaskTree, binary, end, last_frame, number, output, sense, step, this_frame}
use Rattle.sift_lang.specs.declared.tree.Op.TheVariants.{Add, Mul, Sub}
use Rattle.sift_line.specs.declared.catch.Bad.{Bad}
use Rattle.sift_line.specs.declared.catch.Bad.TheVariants.{ByKind}
use Rattle.sift_line.specs.declared.line.ReportLine.{ReportLine}
use Rattle.sift_line.specs.declared.line.ReportLine.TheVariants.{Unit as unit, Faulty, Frame, Last}
use Rattle.sift_mission.specs.Data.{MissionData}
use Rattle.sift_mission.specs.Flown.{flown}
use Rattle.sift_mission.specs.Slots.{has_turned}
use Rattle.sift_script.specs.Script.{changing}
use Rattle.sift_script.specs.declared.script.SlotKind.TheVariants.{Out}
use Rattle.sift_table.specs.Schedule.{Schedule}
use Rattle.sift_report.specs.Caught.{LiesTold, TellsCaught}
use Rattle.sift_report.specs.Told.{HasMarginTold, config_told, works_in}

-- ---- the mission

-- target: out 0 = 1 * last 0 + 5
abbrev pub target_task : TaskTree
target_task = record { outputs = 1; body = step (output 0 (binary Add (binary Mul (number 1) (last_frame 0)) (number 5))) end }

-- elevator: out 0 = (now target.0 - sense pitch) * 2
abbrev pub elevator_task : TaskTree
elevator_task = record { outputs = 1; body = step (output 0 (binary Mul (binary Sub (this_frame 0) (sense 0)) (number 2))) end }

-- both tasks run at three positions
abbrev pub table_of : (size : ℕ) → (second : List ℕ) → Schedule
table_of size second = record { size = size; period = 14; run = 4 ∷ 6 ∷ []; poll = 6 ∷ 8 ∷ []; at = (0 ∷ 1 ∷ 2 ∷ []) ∷ second ∷ []; shed = [] }

abbrev pub layout : Layout
layout = record { units = 5; sensors = 1; words = 2 }

-- no ticks for each of five units
abbrev pub no_ticks : List ℤ
no_ticks = pos 0 ∷ pos 0 ∷ pos 0 ∷ pos 0 ∷ pos 0 ∷ []

abbrev pub mission : MissionData
mission = record {
  units = 5;
  frames = 6;
  period = 14;
  layout = layout;
  names = codes "target" ∷ codes "elevator" ∷ [];
  program = record { tasks = target_task ∷ elevator_task ∷ []; starts = 100 ∷ 0 ∷ [] };
  tables = table_of 4 (1 ∷ 2 ∷ 3 ∷ []) ∷ table_of 5 (2 ∷ 3 ∷ 4 ∷ []) ∷ [];
  sensors = (100 ∷ 104 ∷ 118 ∷ []) ∷ [];
  clock = record {
    skew = pos 20;
    error = pos 0;
    rate = pos 2;
    length = pos 50;
    start = pos 0 ∷ pos 8 ∷ negsuc 7 ∷ pos 5 ∷ negsuc 2 ∷ [];
    drift = pos 1 ∷ pos 0 ∷ negsuc 0 ∷ pos 2 ∷ pos 0 ∷ [];
    errors = no_ticks ∷ no_ticks ∷ no_ticks ∷ no_ticks ∷ no_ticks ∷ [];
  };
  script = record {
    faults = record {
      unit = 1;
      from = 2;
      plan = changing (record { kind = Out; index = 0; word = 0; to = 0 ∷ 2 ∷ 3 ∷ 4 ∷ []; frame = None; value = Some 999 } ∷ []);
    } ∷ [];
    layout = layout;
    outputs = 1 ∷ 1 ∷ [];
    frames = 6;
  };
}

-- ---- the lines

-- all units, and those that are left
abbrev pub all_five : List ℕ
all_five = 0 ∷ 1 ∷ 2 ∷ 3 ∷ 4 ∷ []

abbrev pub four_left : List ℕ
four_left = 0 ∷ 2 ∷ 3 ∷ 4 ∷ []

-- no unit was caught, and one was, when a task was polled
abbrev pub no_unit : Bad
no_unit = ByKind nobody

abbrev pub only : ℕ → Bad
only u = ByKind (noted nobody u Poll)

-- what the units of a frame tell alike: the configuration, the sensor's word, the two words voted, and whom they caught
module _ (f : ℕ) (config : List ℕ) (pitch target elevator : ℕ) (caught : Bad) where
  -- one of them, with its clock
  abbrev pub tells : (u : ℕ) → (clock : ℤ) → ReportLine
  tells u clock = unit f u config clock (record { items = pitch ∷ [] }) (record { items = target ∷ elevator ∷ [] }) caught

  -- a frame from frame 1 on: unit 1 as its line says, the others with their clocks
  abbrev pub frame_with : ReportLine → List ReportLine
  frame_with second = tells 0 (pos 1) ∷ second ∷ tells 2 (negsuc 0) ∷ tells 3 (pos 2) ∷ tells 4 (pos 0) ∷ Frame f (Some (pos 3)) (Some (pos 47)) true ∷ []

-- frame 0, with the clocks at their start
abbrev pub first_frame : List ReportLine
first_frame =
    tells 0 all_five 100 105 10 no_unit 0 (pos 0) ∷ tells 0 all_five 100 105 10 no_unit 1 (pos 8) ∷ tells 0 all_five 100 105 10 no_unit 2 (negsuc 7)
    ∷ tells 0 all_five 100 105 10 no_unit 3 (pos 5) ∷ tells 0 all_five 100 105 10 no_unit 4 (negsuc 2) ∷ Frame 0 (Some (pos 16)) (Some (pos 34)) true ∷ []

-- the report
abbrev pub lines : List ReportLine
lines =
    first_frame
    ++ (frame_with 1 all_five 104 110 12 no_unit (tells 1 all_five 104 110 12 no_unit 1 (pos 0))
    ++ (frame_with 2 all_five 118 115 65530 (only 1) (Faulty 2 1)
    ++ (frame_with 3 four_left 100 120 40 no_unit (Faulty 3 1)
    ++ (frame_with 4 four_left 104 125 42 no_unit (Faulty 4 1)
    ++ (frame_with 5 four_left 118 130 24 no_unit (Faulty 5 1) ++ Last 6 four_left true ∷ [])))))

-- the report in which unit 0 catches others in frame 2
abbrev pub where_first_catches : Bad → List ReportLine
where_first_catches caught = slice_set lines 12 (tells 2 all_five 118 115 65530 caught 0 (pos 1))

-- the report in which unit 1 stays
abbrev pub unit_1_stays : List ReportLine
unit_1_stays = slice_set lines 18 (tells 3 all_five 100 120 40 no_unit 0 (pos 1))

-- ---- what is so

-- unit 1 lies in frame 2, a frame with margin
pub record FirstLiarIsCaught : Type 0 where
  pub margin : HasMarginTold mission lines 2
  pub faulty : works_in mission 1 2 ≡ false
  pub before : config_told mission lines 2 ≡ Some all_five
  pub member : has all_five 1 ≡ true
  pub there : has_turned (flown mission) 1 2 ≡ false
  pub to_first : LiesTold mission lines all_five 2 1 0 Poll
  pub to_third : LiesTold mission lines all_five 2 1 2 Poll
  -- its clock is its own
  pub no_clock : ¬ LiesTold mission lines all_five 2 1 0 Clock
  -- the lines tell it, and next it is out
  pub tells : TellsCaught mission lines all_five 2 1
  pub after : config_told mission lines 3 ≡ Some four_left
  -- other lines don't: unit 0 catches nobody, or unit 1 for its clock; unit 1 stays; unit 0 catches unit 4, which says its own words
  pub untold : ¬ TellsCaught mission (where_first_catches no_unit) all_five 2 1
  pub other_way : ¬ TellsCaught mission (where_first_catches (ByKind (noted nobody 1 Clock))) all_five 2 1
  pub stays : ¬ TellsCaught mission unit_1_stays all_five 2 1
  pub own_words : ¬ TellsCaught mission (where_first_catches (only 4)) all_five 2 4
