-- Who works in a frame of a mission, and what the lines of a report tell of it, read off the lines and the mission alone.
use Rattle.std.specs.Prelude.{◌≡◌, ℕ, Bool, true, unwrap_or, option_map, ◌+◌, ◌*◌, ◌<◌, ◌≤◌, List, [], false, Option, None, Some, nat_lt, if◌then◌else◌, ℤ, pos}
use Rattle.std.specs.List.{find, slice_get}
use Rattle.std.specs.FinSet as set
use Rattle.sift_base.specs.Units.{has, Units, HasMargin}
use Rattle.sift_config.specs.Config.{first_units}
use Rattle.sift_script.specs.Faults as faults
use Rattle.sift_mission.specs.Data.{MissionData}
use Rattle.sift_mission.specs.Flown.{table_for}
use Rattle.sift_line.specs.Bad.{units_in}
use Rattle.sift_line.specs.declared.line.ReportLine.{ReportLine}
use Rattle.sift_line.specs.declared.line.ReportLine.TheVariants.{Unit as unit, Frame, Last}

-- ---- who works, and who leads, by the script of faults

-- no fault of the unit has come by the frame
abbrev pub works_in : MissionData → (u f : ℕ) → Bool
works_in d u f = faults.works d.script.faults u f

-- a unit of the mission that works in the frame
pub record IsWorking (d : MissionData) (u f : ℕ) : Type 0 where
  pub unit : has (first_units d.units) u ≡ true
  pub works : works_in d u f ≡ true

-- the lead unit of the frame: the lowest-numbered one that works in it
abbrev pub lead_in : MissionData → ℕ → ℕ
lead_in d f = unwrap_or (find (λ u. works_in d u f) (first_units d.units)) 0

-- ---- what one line tells

-- what a line tells: a configuration, an offset, the agreed words, the voted words and whom its unit caught; a skew, a slack and a margin
pub record Telling : Type 0 where
  pub config : Option (List ℕ)
  pub clock : ℤ
  pub inputs : List ℕ
  pub outputs : List ℕ
  pub caught : Units
  pub skew : Option ℤ
  pub slack : Option ℤ
  pub margin : Bool

-- nothing is told: no configuration, the offset 0, no word, no unit, no figure and no margin
abbrev pub nothing : Telling
nothing = record { config = None; clock = pos 0; inputs = []; outputs = []; caught = set.empty; skew = None; slack = None; margin = false }

-- what a line tells is what it prints, and of all else nothing; the line of a faulty or an idle unit tells nothing, nor does one that is missing
abbrev pub told_in : Option ReportLine → Telling
told_in (Some (unit f u cfg clk ins outs bad)) =
    record nothing { config = Some cfg; clock = clk; inputs = ins.items; outputs = outs.items; caught = units_in bad }
told_in (Some (Frame f skew slack margin)) = record nothing { skew = skew; slack = slack; margin = margin }
told_in (Some (Last frames cfg margin)) = record nothing { config = Some cfg; margin = margin }
told_in line = nothing

-- line i of frame f: each frame has a line for each unit of the mission, in their order, and then one for the whole frame
abbrev pub line_at : MissionData → List ReportLine → (f i : ℕ) → Option ReportLine
line_at d lines f i = slice_get lines (f * (d.units + 1) + i)

-- what it tells
abbrev pub told_at : MissionData → List ReportLine → (f i : ℕ) → Telling
told_at d lines f i = told_in (line_at d lines f i)

-- the configuration told at a frame: the lead unit's; after the last frame, that of the last line
abbrev pub config_told : MissionData → List ReportLine → ℕ → Option (List ℕ)
config_told d lines f = (told_at d lines f (if nat_lt f d.frames then lead_in d f else 0)).config

-- the tasks that are shed in a frame: those that the configuration told at it sheds, and none where none is told
abbrev pub shed_told : MissionData → List ReportLine → ℕ → List ℕ
shed_told d lines f = unwrap_or (option_map (λ us. (table_for d us).shed) (config_told d lines f)) []

-- the agreed words told in a frame: the lead unit's
abbrev pub agreed_told : MissionData → List ReportLine → ℕ → List ℕ
agreed_told d lines f = (told_at d lines f (lead_in d f)).inputs

-- ---- margin

-- a configuration is told at a frame, and it has at most one faulty unit and at least four working ones
abbrev pub IsSoundTold : MissionData → List ReportLine → ℕ → Type 0
IsSoundTold d lines f = (us : List ℕ) × (config_told d lines f ≡ Some us) × HasMargin (λ u. works_in d u f) us

-- so it is at each frame before this one
abbrev pub HadMarginTold : MissionData → List ReportLine → ℕ → Type 0
HadMarginTold d lines f = (g : ℕ) → g < f → IsSoundTold d lines g

-- a frame has margin by what is told: so it is at this frame and at each before
abbrev pub HasMarginTold : MissionData → List ReportLine → ℕ → Type 0
HasMarginTold d lines f = (g : ℕ) → g ≤ f → IsSoundTold d lines g
