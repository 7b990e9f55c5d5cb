-- What lies cost, by the lines of a report: the working unit that is lied to tells it, whoever lies to two of them is out of the configuration told
-- next, and who says its own words is told by nobody. It is said of the lines and the mission alone.
use Rattle.std.specs.Prelude.{◌≡◌, ◌≢◌, ℕ, suc, ◌<◌, List, Bool, true, false, Option, Some}
use Rattle.sift_base.specs.Units.{has, holds}
use Rattle.sift_exec.specs.Conviction.{has_kind, kinds_of}
use Rattle.sift_exec.specs.declared.catches.Kind.{Kind}
use Rattle.sift_flight.specs.Lies.{Known, IsLie, SaysItsOwn}
use Rattle.sift_line.specs.declared.catch.Bad.{Bad}
use Rattle.sift_line.specs.declared.catch.Bad.TheVariants.{Plain, ByKind}
use Rattle.sift_line.specs.declared.line.ReportLine.{ReportLine}
use Rattle.sift_line.specs.declared.line.ReportLine.TheVariants.{Unit as unit}
use Rattle.sift_mission.specs.Data.{MissionData}
use Rattle.sift_mission.specs.Flown.{flown}
use Rattle.sift_mission.specs.Slots.{has_turned}
use Rattle.sift_report.specs.Told.{HasMarginTold, IsWorking, config_told, line_at, told_at}

-- ---- what a unit's line tells

-- what the unit knows, by its line: the words that it voted, and its clock
abbrev pub known_told : MissionData → List ReportLine → (f q : ℕ) → Known
known_told d lines f q = record { outputs = (told_at d lines f q).outputs; clock = (told_at d lines f q).clock }

-- v is named as caught in this way; version 1 names the units alone
abbrev pub names : Bad → Kind → ℕ → Bool
names (Plain units) way v = holds units v
names (ByKind caught) way v = has_kind (kinds_of caught v) way

-- the line tells that its unit caught v in this way; but for a unit's there is no line that does
abbrev pub tells_catch : Option ReportLine → Kind → ℕ → Bool
tells_catch (Some (unit f u cfg clk ins outs bad)) way v = names bad way v
tells_catch line way v = false

-- under the configuration us, u lies to q in frame f in this way, by the lines
abbrev pub LiesTold : MissionData → List ReportLine → List ℕ → (f u q : ℕ) → Kind → Type 0
LiesTold d lines us f u q way = IsLie (flown d) us f u q (known_told d lines f q) way

-- ---- what it costs

-- what the lines tell of u, a unit of the configuration us in frame f, which hasn't turned: the working unit to which it lies catches it, in this
-- way; where it lies to two, it is out of the configuration told at the next frame; where it says its own words, no working unit catches it
pub record TellsCaught (d : MissionData) (lines : List ReportLine) (us : List ℕ) (f u : ℕ) : Type 0 where
  pub caught : (way : Kind) (q : ℕ) → IsWorking d q f → LiesTold d lines us f u q way → tells_catch (line_at d lines f q) way u ≡ true
  pub out : (a b : Kind) (q r : ℕ) → IsWorking d q f → IsWorking d r f → q ≢ r → LiesTold d lines us f u q a → LiesTold d lines us f u r b
      → (next : List ℕ) → config_told d lines (suc f) ≡ Some next → has next u ≡ false
  pub own_words : SaysItsOwn (flown d) f u → (q : ℕ) → IsWorking d q f → holds (told_at d lines f q).caught u ≡ false

-- so it is of each such unit in each frame with margin
abbrev pub ReportCaught : MissionData → List ReportLine → Type 0
ReportCaught d lines = (f : ℕ) → f < d.frames → HasMarginTold d lines f → (us : List ℕ) → config_told d lines f ≡ Some us →
    (u : ℕ) → has us u ≡ true → has_turned (flown d) u f ≡ false → TellsCaught d lines us f u
