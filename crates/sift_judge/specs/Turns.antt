-- What a judge knows as it goes: frame by frame, the forms of all frames first.
use Rattle.std.specs.Prelude.{◌≡◌, ◌↔◌, ℕ, ◌<◌, ◌≤◌, List, length, Bool, true}
use Rattle.sift_mission.specs.Data.{MissionData}
use Rattle.sift_program.specs.Ideal.{words_before}
use Rattle.sift_report.specs.Headline.{HasForm, FrameHeadline, TellsSameConfiguration, TellsTrueMargin}
use Rattle.sift_report.specs.Told.{HadMarginTold, HasMarginTold, agreed_told, shed_told}
use Rattle.sift_line.specs.declared.line.ReportLine.{ReportLine}
use Rattle.sift_judge.specs.Verdict.{Breaks, IsAsked, Keeps, Rule, number_of}

-- ---- the forms

-- the first frame whose lines don't stand in their places
pub record IsFirstWithoutForm (d : MissionData) (lines : List ReportLine) (f : ℕ) : Type 0 where
  pub inside : f < d.frames
  pub before : (g : ℕ) → g < f → HasForm d lines g
  pub broken : ¬ HasForm d lines f

-- each frame has its form
abbrev pub HasForms : MissionData → List ReportLine → Type 0
HasForms d lines = (f : ℕ) → f < d.frames → HasForm d lines f

-- ---- the other rules of a frame

-- the lines keep the rule in frame f, where it is asked
abbrev pub KeepsIfAsked : MissionData → List ReportLine → ℕ → Rule → Type 0
KeepsIfAsked d lines f rule = IsAsked rule d lines f → Keeps rule d lines f

-- so they do with each rule behind the form whose number is below this one
abbrev pub KeepsBelow : MissionData → List ReportLine → ℕ → ℕ → Type 0
KeepsBelow d lines f number = (rule : Rule) → 2 ≤ number_of rule → number_of rule < number → KeepsIfAsked d lines f rule

-- the number of the first rule behind the form that the lines break in frame f
pub record IsFirstInFrame (d : MissionData) (lines : List ReportLine) (f number : ℕ) : Type 0 where
  pub rule : Rule
  pub named : number ≡ number_of rule
  pub behind : 2 ≤ number_of rule
  pub broken : Breaks rule d lines f
  pub before : KeepsBelow d lines f (number_of rule)

-- the lines keep each rule behind the form in frame f, where it is asked
pub record KeepsFrame (d : MissionData) (lines : List ReportLine) (f : ℕ) : Type 0 where
  pub same_configuration : HadMarginTold d lines f → TellsSameConfiguration d lines f
  pub frame : HasMarginTold d lines f → FrameHeadline d lines f
  pub true_margin : TellsTrueMargin d lines f

-- so they do in each frame before this one
abbrev pub KeepsBefore : MissionData → List ReportLine → ℕ → Type 0
KeepsBefore d lines f = (g : ℕ) → g < f → KeepsFrame d lines g

-- ---- the ideal machine

-- while there is margin, the ideal machine's words are those before frame f, over the agreed words and the configurations told so far; they
-- are always as many
pub record RunsBefore (d : MissionData) (lines : List ReportLine) (f : ℕ) (margin : Bool) (words : List ℕ) : Type 0 where
  pub words_are : margin ≡ true → words ≡ words_before d.program (agreed_told d lines) (shed_told d lines) f
  pub as_many : length words ≡ length d.program.starts

-- ---- a frame to come

-- what a judge knows before it asks the rules behind the form of frame f: it is a frame of the mission and has its form, the flag tells
-- whether it has margin, and where it has, these are the ideal machine's words before it
pub record KnowsBefore (d : MissionData) (lines : List ReportLine) (f : ℕ) (margin : Bool) (words : List ℕ) : Type 0 where
  pub frame : f < d.frames
  pub form : HasForm d lines f
  pub margin_is : (margin ≡ true) ↔ HasMarginTold d lines f
  pub runs : RunsBefore d lines f margin words
