-- The report of missions/two_catchers.toml, a small one with a fault in it: unit 4 of five says a wrong word to units 0 and 1 alone; both catch it,
-- and it is out of the next configuration. The mission has a round flight, and of each that it has the headline holds, while every frame has margin;
-- and each item of the headline refuses other lines than those of its report in version 2.
use Rattle.std.specs.Prelude.{codes, ◌≡◌, ℕ, List, [], ◌∷◌, ◌++◌, slice_set, true, false, None, Some, ℤ, pos}
use Rattle.sift_base.specs.declared.slots.Layout.{Layout}
use Rattle.sift_exec.specs.Conviction.{nobody, noted}
use Rattle.sift_exec.specs.declared.catches.Kind.TheVariants.{Poll}
use Rattle.sift_script.specs.Script.{changing}
use Rattle.sift_script.specs.declared.script.SlotKind.TheVariants.{Out}
use Rattle.sift_table.specs.Schedule.{plain_of}
use Rattle.sift_mission.specs.Data.{MissionData}
use Rattle.sift_mission.specs.PartsFit.{PartsFit}
use Rattle.sift_mission.specs.Flown.{flown}
use Rattle.sift_flight.specs.Calms.{count_task}
use Rattle.sift_flight.specs.Flight.{Flight, Strays, IsRound, no_strays}
use Rattle.sift_report.specs.Headline.{HasForm, ReportHeadline, TellsClockSkew, TellsExactRemoval, TellsIdealOutputs, TellsNoFalseAccusation, TellsSameConfiguration, TellsSameInputs, TellsTrueMargin}
use Rattle.sift_report.specs.OneText.{HaveOneText}
use Rattle.sift_report.specs.Sheet.{sheet_of}
use Rattle.sift_report.specs.Told.{HasMarginTold, config_told, works_in}
use Rattle.sift_line.specs.declared.catch.Bad.{Bad}
use Rattle.sift_line.specs.declared.catch.Bad.TheVariants.{ByKind}
use Rattle.sift_line.specs.declared.line.Version.{Version}
use Rattle.sift_line.specs.declared.line.ReportLine.{ReportLine}
use Rattle.sift_line.specs.declared.line.ReportLine.TheVariants.{Unit as unit, Faulty, Idle, Frame, Last}

-- ---- the mission

-- no ticks for each of five units
abbrev pub no_ticks : List ℤ
no_ticks = pos 0 ∷ pos 0 ∷ pos 0 ∷ pos 0 ∷ pos 0 ∷ []

-- a clock's word, a report and its relays, and one output word
abbrev pub layout : Layout
layout = record { units = 5; sensors = 0; words = 1 }

-- five units fly one task for two frames, and unit 4 says 7 for its word to units 0 and 1
abbrev pub mission : MissionData
mission = record {
  units = 5;
  frames = 2;
  period = 12;
  layout = layout;
  names = codes "count" ∷ [];
  program = record { tasks = count_task ∷ []; starts = 5 ∷ [] };
  tables = plain_of 4 12 1 ∷ plain_of 5 12 1 ∷ [];
  sensors = [];
  clock = record {
    skew = pos 0;
    error = pos 0;
    rate = pos 0;
    length = pos 1;
    start = no_ticks;
    drift = no_ticks;
    errors = no_ticks ∷ no_ticks ∷ no_ticks ∷ no_ticks ∷ no_ticks ∷ [];
  };
  script = record {
    faults = record {
      unit = 4;
      from = 0;
      plan = changing (record { kind = Out; index = 0; word = 0; to = 0 ∷ 1 ∷ []; frame = None; value = Some 7 } ∷ []);
    } ∷ [];
    layout = layout;
    outputs = 1 ∷ [];
    frames = 2;
  };
}

-- ---- the lines

-- all units, and those that are left
abbrev pub all_five : List ℕ
all_five = 0 ∷ 1 ∷ 2 ∷ 3 ∷ 4 ∷ []

abbrev pub four_left : List ℕ
four_left = 0 ∷ 1 ∷ 2 ∷ 3 ∷ []

-- no unit was caught, and one was, when a task was polled
abbrev pub no_unit : Bad
no_unit = ByKind nobody

abbrev pub only : ℕ → Bad
only u = ByKind (noted nobody u Poll)

-- what a unit tells of a frame, where its clock is right and no sensor is read
abbrev pub tells : (f u : ℕ) → (config : List ℕ) → (word : ℕ) → (caught : Bad) → ReportLine
tells f u config word caught = unit f u config (pos 0) (record { items = [] }) (record { items = word ∷ [] }) caught

-- what a unit tells of frame 0, where it has a word of a sensor
abbrev pub tells_input : (u : ℕ) → (input : ℕ) → (caught : Bad) → ReportLine
tells_input u input caught = unit 0 u all_five (pos 0) (record { items = input ∷ [] }) (record { items = 16 ∷ [] }) caught

-- the line of a frame whose clocks are together
abbrev pub together : ℕ → ReportLine
together f = Frame f (Some (pos 0)) (Some (pos 1)) true

-- frame 0: 3 * 5 + 1 is 16, and two units catch unit 4
abbrev pub first_frame : List ReportLine
first_frame =
    tells 0 0 all_five 16 (only 4) ∷ tells 0 1 all_five 16 (only 4) ∷ tells 0 2 all_five 16 no_unit ∷ tells 0 3 all_five 16 no_unit
    ∷ Faulty 0 4 ∷ together 0 ∷ []

-- frame 1: 3 * 16 + 1 is 49, and unit 4 is out
abbrev pub second_frame : List ReportLine
second_frame =
    tells 1 0 four_left 49 no_unit ∷ tells 1 1 four_left 49 no_unit ∷ tells 1 2 four_left 49 no_unit ∷ tells 1 3 four_left 49 no_unit
    ∷ Faulty 1 4 ∷ together 1 ∷ []

-- the report
abbrev pub lines : List ReportLine
lines = first_frame ++ (second_frame ++ Last 2 four_left true ∷ [])

-- the report with another line at a place
abbrev pub other : ℕ → ReportLine → List ReportLine
other place line = slice_set lines place line

-- the report in which unit 2's clock is a tick ahead in frame 0
abbrev pub unit_2_ahead : List ReportLine
unit_2_ahead = other 2 (unit 0 2 all_five (pos 1) (record { items = [] }) (record { items = 16 ∷ [] }) no_unit)

-- the report in which unit 1 doesn't catch unit 4, and that in which unit 4 stays
abbrev pub one_catcher : List ReportLine
one_catcher = other 1 (tells 0 1 all_five 16 no_unit)

abbrev pub unit_4_stays : List ReportLine
unit_4_stays = other 6 (tells 1 0 all_five 49 no_unit)

-- the mission with a sensor, which says 7
abbrev pub sensing : MissionData
sensing = record mission { layout = record { units = 5; sensors = 1; words = 1 }; sensors = (7 ∷ []) ∷ [] }

-- ---- what is so

-- what is told of the fault: both frames have margin, though unit 4 is faulty in each; it is configured out after the first; and the headline holds
pub record TellsOfTheFault (report : List ReportLine) : Type 0 where
  pub margin : HasMarginTold mission report 1
  pub before : config_told mission report 0 ≡ Some all_five
  pub behind : config_told mission report 1 ≡ Some four_left
  pub headline : ReportHeadline mission report

-- the parts of the mission fit, and unit 4 is faulty in each frame; it has a round flight, and all that it has print one report, which tells of the
-- fault, in each version; and so do the lines above
pub record HeadlineOfAFault : Type 0 where
  pub fits : PartsFit mission
  pub faulty : (f : ℕ) → works_in mission 4 f ≡ false
  pub flies : (fl : Flight) × IsRound (flown mission) no_strays fl
  pub one : (strays others : Strays) (fl gl : Flight) → IsRound (flown mission) strays fl → IsRound (flown mission) others gl → HaveOneText mission fl gl
  pub tells : (strays : Strays) (fl : Flight) (version : Version) → IsRound (flown mission) strays fl
      → TellsOfTheFault (sheet_of (flown mission) fl version)
  pub lines_tell : TellsOfTheFault lines

-- each item refuses other lines
pub record OtherLinesAreRefused : Type 0 where
  -- unit 2's line of frame 0 is told as unit 3's
  pub form : ¬ HasForm mission (other 2 (tells 0 3 all_five 16 no_unit)) 0
  -- a line too many
  pub end : ¬ HasForm mission (lines ++ together 2 ∷ []) 1
  -- unit 2 has another configuration in frame 0; so has the lead unit, which all units should be in
  pub same_configuration : ¬ TellsSameConfiguration mission (other 2 (tells 0 2 four_left 16 no_unit)) 0
  pub all_at_first : ¬ TellsSameConfiguration mission (other 0 (tells 0 0 four_left 16 (only 4))) 0
  -- the lead unit is idle
  pub idle_lead : ¬ TellsSameConfiguration mission (other 0 (Idle 0 0)) 0
  -- unit 2 has a word of a sensor that isn't there
  pub same_inputs : ¬ TellsSameInputs mission (other 2 (tells_input 2 7 no_unit)) 0
  -- the sensor says 7 to unit 0, which tells 6
  pub true_inputs : ¬ TellsSameInputs sensing (other 0 (tells_input 0 6 (only 4))) 0
  -- unit 2 votes 17
  pub ideal_outputs : ¬ TellsIdealOutputs mission (other 2 (tells 0 2 all_five 17 no_unit)) 0
  -- unit 2 catches unit 1, or itself
  pub no_false_accusation : ¬ TellsNoFalseAccusation mission (other 2 (tells 0 2 all_five 16 (only 1))) 0
  pub no_own_accusation : ¬ TellsNoFalseAccusation mission (other 2 (tells 0 2 all_five 16 (only 2))) 0
  -- unit 1 doesn't catch unit 4, which yet is out; or both do, and it stays
  pub exact_removal : ¬ TellsExactRemoval mission one_catcher 0
  pub no_removal : ¬ TellsExactRemoval mission unit_4_stays 0
  -- unit 2's clock is a tick ahead; or it isn't, and the frame's line says so; or it is, and the line says so; or there is no slack
  pub clock_skew : ¬ TellsClockSkew mission unit_2_ahead 0
  pub told_skew : ¬ TellsClockSkew mission (other 5 (Frame 0 (Some (pos 1)) (Some (pos 1)) true)) 0
  pub far_clocks : ¬ TellsClockSkew mission (slice_set unit_2_ahead 5 (Frame 0 (Some (pos 1)) (Some (pos 1)) true)) 0
  pub slack : ¬ TellsClockSkew mission (other 5 (Frame 0 (Some (pos 0)) (Some (pos 0)) true)) 0
  -- the margin is told to be lost
  pub true_margin : ¬ TellsTrueMargin mission (other 5 (Frame 0 (Some (pos 0)) (Some (pos 1)) false)) 0
  pub true_end : ¬ TellsTrueMargin mission (other 12 (Last 2 four_left false)) 1

-- both
pub record FaultIsWithinTheHeadline : Type 0 where
  pub holds : HeadlineOfAFault
  pub refuses : OtherLinesAreRefused
