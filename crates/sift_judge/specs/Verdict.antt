-- The rules that the lines of a report are judged by, which are the items of the headline of reports; and the verdict.
use Rattle.std.specs.Prelude.{◌≡◌, ℕ, ◌+◌, ◌*◌, ◌<◌, ◌≤◌, List, ⊤}
use Rattle.sift_mission.specs.Data.{MissionData}
use Rattle.sift_report.specs.Headline.{HasForm}
use Rattle.sift_report.specs.Headline.{ReportHeadline, TellsClockSkew, TellsExactRemoval, TellsIdealOutputs, TellsNoFalseAccusation, TellsSameConfiguration, TellsSameInputs, TellsTrueMargin}
use Rattle.sift_report.specs.Told.{HadMarginTold, HasMarginTold}
use Rattle.sift_line.specs.declared.line.ReportLine.{ReportLine}
use Rattle.sift_judge.specs.declared.judging.Verdict.{Verdict}
use Rattle.sift_judge.specs.declared.judging.Verdict.TheVariants.{Yes, No}

-- ---- the rules

-- a rule of reports: an item of their headline
pub data Rule : Type 0 where
  form : Rule
  same_configuration : Rule
  same_inputs : Rule
  ideal_outputs : Rule
  no_false_accusation : Rule
  exact_removal : Rule
  clock_skew : Rule
  true_margin : Rule

-- the number by which a verdict names it
abbrev pub number_of : Rule → ℕ
number_of form = 1
number_of same_configuration = 2
number_of same_inputs = 3
number_of ideal_outputs = 4
number_of no_false_accusation = 5
number_of exact_removal = 6
number_of clock_skew = 7
number_of true_margin = 8

-- the lines keep the rule in frame f
abbrev pub Keeps : Rule → MissionData → List ReportLine → ℕ → Type 0
Keeps form d lines f = HasForm d lines f
Keeps same_configuration d lines f = TellsSameConfiguration d lines f
Keeps same_inputs d lines f = TellsSameInputs d lines f
Keeps ideal_outputs d lines f = TellsIdealOutputs d lines f
Keeps no_false_accusation d lines f = TellsNoFalseAccusation d lines f
Keeps exact_removal d lines f = TellsExactRemoval d lines f
Keeps clock_skew d lines f = TellsClockSkew d lines f
Keeps true_margin d lines f = TellsTrueMargin d lines f

-- the rule is asked of frame f: form and margin are asked of every frame, one configuration where each frame before has margin, and all else
-- where this frame has margin too
abbrev pub IsAsked : Rule → MissionData → List ReportLine → ℕ → Type 0
IsAsked form d lines f = ⊤
IsAsked same_configuration d lines f = HadMarginTold d lines f
IsAsked same_inputs d lines f = HasMarginTold d lines f
IsAsked ideal_outputs d lines f = HasMarginTold d lines f
IsAsked no_false_accusation d lines f = HasMarginTold d lines f
IsAsked exact_removal d lines f = HasMarginTold d lines f
IsAsked clock_skew d lines f = HasMarginTold d lines f
IsAsked true_margin d lines f = ⊤

-- the lines break the rule in frame f, of which it is asked
pub record Breaks (rule : Rule) (d : MissionData) (lines : List ReportLine) (f : ℕ) : Type 0 where
  pub inside : f < d.frames
  pub asked : IsAsked rule d lines f
  pub broken : ¬ Keeps rule d lines f

-- ---- their order

-- the turn of a rule in frame f: the forms of all frames come first; then the frames come in order, each with its other rules in order
abbrev pub turn_of : MissionData → Rule → ℕ → ℕ
turn_of d form f = f
turn_of d rule f = d.frames + (8 * f + number_of rule)

-- the lines break the rule in frame f, and no rule in an earlier turn
pub record IsFirstBroken (d : MissionData) (lines : List ReportLine) (rule : Rule) (f : ℕ) : Type 0 where
  pub broken : Breaks rule d lines f
  pub first : (other : Rule) (g : ℕ) → Breaks other d lines g → turn_of d rule f ≤ turn_of d other g

-- ---- the verdict

-- yes where the lines have the headline; else the frame and the number of the rule that they break first
abbrev pub IsVerdict : MissionData → List ReportLine → Verdict → Type 0
IsVerdict d lines Yes = ReportHeadline d lines
IsVerdict d lines (No f number) = (rule : Rule) × (number ≡ number_of rule) × IsFirstBroken d lines rule f
