-- The headline of a report: what its lines tell of each frame with margin, whatever faulty units do. It is said of the lines and the mission
-- alone, one item a definition, each of one frame.
use Rattle.std.specs.Prelude.{◌≡◌, ℕ, suc, ◌+◌, ◌*◌, ◌<◌, List, length, true, false, IsSomeAnd, ◌↔◌, map, slice_index, nat_lt, not, Bool, Some, ℤ, pos, ◌≤ℤ◌, count_by, Option, ◌&&◌}
use Rattle.std.specs.List.{filter}
use Rattle.sift_base.specs.Units.{has, holds, HasMargin}
use Rattle.sift_mission.specs.Data.{MissionData}
use Rattle.sift_config.specs.Config.{first_units, reader_of}
use Rattle.sift_program.specs.Ideal.{ideal_words}
use Rattle.sift_skew.specs.Figures.{IsSkew}
use Rattle.sift_mission.specs.Flown.{word_sensed}
use Rattle.sift_line.specs.Bad.{units_in}
use Rattle.sift_report.specs.Told.{line_at, HadMarginTold, HasMarginTold, agreed_told, config_told, shed_told, told_at}
use Rattle.sift_report.specs.Told.{works_in, IsWorking}
use Rattle.sift_line.specs.declared.line.ReportLine.{ReportLine}
use Rattle.sift_line.specs.declared.line.ReportLine.TheVariants.{Unit as unit, Faulty, Idle, Frame, Last}

-- ---- the form of a report: which lines stand where, with which numbers, whatever they tell

-- a line of unit u in frame f: it is faulty just where the script says so; else it is idle, or tells of the mission's units alone, and has a
-- word for each sensor and for each output
abbrev pub IsUnitsLine : MissionData → (f u : ℕ) → ReportLine → Type 0
IsUnitsLine d f u (unit g v cfg clk ins outs bad) =
    (g ≡ f) × (v ≡ u) × (works_in d u f ≡ true)
    × ((w : ℕ) → has cfg w ≡ true → w < d.units) × ((w : ℕ) → holds (units_in bad) w ≡ true → w < d.units)
    × (length ins.items ≡ d.layout.sensors) × (length outs.items ≡ d.layout.words)
IsUnitsLine d f u (Idle g v) = (g ≡ f) × (v ≡ u) × (works_in d u f ≡ true)
IsUnitsLine d f u (Faulty g v) = (g ≡ f) × (v ≡ u) × (works_in d u f ≡ false)
IsUnitsLine d f u (Frame g skew slack margin) = ⊥
IsUnitsLine d f u (Last frames cfg margin) = ⊥

-- the lines of a frame stand in their places: one for each unit and one for the frame, and behind the last frame the last line and no more
pub record HasForm (d : MissionData) (lines : List ReportLine) (f : ℕ) : Type 0 where
  pub units : (u : ℕ) → u < d.units → IsSomeAnd (line_at d lines f u) (IsUnitsLine d f u)
  pub whole : (skew : Option ℤ) × (slack : Option ℤ) × (margin : Bool) × (line_at d lines f d.units ≡ Some (Frame f skew slack margin))
  pub last : suc f ≡ d.frames → (cfg : List ℕ) × (margin : Bool) × (line_at d lines d.frames 0 ≡ Some (Last d.frames cfg margin))
  pub nothing_more : suc f ≡ d.frames → length lines ≡ d.frames * (d.units + 1) + 1

-- ---- configurations

-- the lead unit tells a configuration, in frame 0 that of all units; where it gives margin, each working unit tells the same
pub record TellsSameConfiguration (d : MissionData) (lines : List ReportLine) (f : ℕ) : Type 0 where
  pub config : List ℕ
  pub told : config_told d lines f ≡ Some config
  pub all_at_first : f ≡ 0 → config ≡ first_units d.units
  pub same : HasMargin (λ u. works_in d u f) config → (u : ℕ) → IsWorking d u f → (told_at d lines f u).config ≡ Some config

-- ---- words

-- each working unit tells the same agreed words, and the word of a sensor that a working unit of the configuration reads is the mission's
pub record TellsSameInputs (d : MissionData) (lines : List ReportLine) (f : ℕ) : Type 0 where
  pub same : (u : ℕ) → IsWorking d u f → (told_at d lines f u).inputs ≡ agreed_told d lines f
  pub sensed : (us : List ℕ) (x : ℕ) → config_told d lines f ≡ Some us → x < d.layout.sensors →
      works_in d (reader_of us x) f ≡ true → slice_index (agreed_told d lines f) x ≡ word_sensed d x f

-- each working unit tells the ideal machine's words, over the agreed words and the configurations told so far
abbrev pub TellsIdealOutputs : MissionData → List ReportLine → ℕ → Type 0
TellsIdealOutputs d lines f =
    (u : ℕ) → IsWorking d u f → (told_at d lines f u).outputs ≡ ideal_words d.program (agreed_told d lines) (shed_told d lines) f

-- ---- faults

-- no working unit tells that it caught a working unit, and none that it caught itself
abbrev pub TellsNoFalseAccusation : MissionData → List ReportLine → ℕ → Type 0
TellsNoFalseAccusation d lines f =
    (u v : ℕ) → IsWorking d u f → IsWorking d v f → holds (told_at d lines f u).caught v ≡ false

-- the configuration told at the next frame is the one told at this less exactly the units that two working units tell that they caught
abbrev pub TellsExactRemoval : MissionData → List ReportLine → ℕ → Type 0
TellsExactRemoval d lines f =
    (us next : List ℕ) → config_told d lines f ≡ Some us → config_told d lines (suc f) ≡ Some next →
    next ≡ filter (λ v. not (nat_lt 1 (count_by (λ u. works_in d u f && holds (told_at d lines f u).caught v) us))) us

-- ---- clocks

-- the frame's line tells the largest difference of two working clocks of the configuration, at most the mission's skew, and a slack of at least 1
pub record TellsClockSkew (d : MissionData) (lines : List ReportLine) (f : ℕ) : Type 0 where
  pub skew : (us : List ℕ) → config_told d lines f ≡ Some us →
      IsSomeAnd (told_at d lines f d.units).skew (λ skew.
      IsSkew (map (λ u. (told_at d lines f u).clock) (filter (λ u. works_in d u f) us)) skew × (skew ≤ℤ d.clock.skew))
  pub slack : IsSomeAnd (told_at d lines f d.units).slack (λ slack. pos 1 ≤ℤ slack)

-- ---- margin

-- the frame's line tells whether the frame has margin by what is told; so does the last line of the last frame
pub record TellsTrueMargin (d : MissionData) (lines : List ReportLine) (f : ℕ) : Type 0 where
  pub frame : ((told_at d lines f d.units).margin ≡ true) ↔ HasMarginTold d lines f
  pub end : suc f ≡ d.frames → ((told_at d lines d.frames 0).margin ≡ true) ↔ HasMarginTold d lines f

-- ---- the whole report

-- what the lines of a frame with margin tell
pub record FrameHeadline (d : MissionData) (lines : List ReportLine) (f : ℕ) : Type 0 where
  pub same_inputs : TellsSameInputs d lines f
  pub ideal_outputs : TellsIdealOutputs d lines f
  pub no_false_accusation : TellsNoFalseAccusation d lines f
  pub exact_removal : TellsExactRemoval d lines f
  pub clock_skew : TellsClockSkew d lines f

-- the headline of a report of these lines: each frame has its form and tells its margin as it is; one configuration is told wherever each
-- frame before has margin, and all else in each frame with margin
pub record ReportHeadline (d : MissionData) (lines : List ReportLine) : Type 0 where
  pub form : (f : ℕ) → f < d.frames → HasForm d lines f
  pub same_configuration : (f : ℕ) → f < d.frames → HadMarginTold d lines f → TellsSameConfiguration d lines f
  pub frames : (f : ℕ) → f < d.frames → HasMarginTold d lines f → FrameHeadline d lines f
  pub true_margin : (f : ℕ) → f < d.frames → TellsTrueMargin d lines f
