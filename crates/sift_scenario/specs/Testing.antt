-- What rules, texts, code, tables and the script are answered with. No public clause cites this module.
use Rattle.std.specs.Prelude.{◌≡◌, ◌<◌, ℕ, List, [], ◌∷◌, Some, ⊤}
use Rattle.toml.specs.Data.{Data}
use Rattle.sift_base.specs.Shapes.{AllShapes}
use Rattle.sift_base.specs.declared.stop.Stop.{Stop}
use Rattle.sift_base.specs.declared.stop.Stop.TheVariants as stop
use Rattle.sift_base.specs.Stop.{IfRefused}
use Rattle.sift_compile.specs.declared.compiler.CompileStop.{CompileStop}
use Rattle.sift_compile.specs.declared.compiler.CompileStop.TheVariants as compile
use Rattle.sift_lang.specs.Tree.{TaskTree}
use Rattle.sift_parse.specs.Outcome.{AreNames}
use Rattle.sift_parse.specs.Roll.{Roll}
use Rattle.sift_script.specs.Rules as scripts
use Rattle.sift_script.specs.Script.{FaultScript}
use Rattle.sift_table.specs.Rules as tables
use Rattle.sift_table.specs.Schedule.{Schedule}
use Rattle.sift_document.specs.Document.{word_array}
use Rattle.sift_document.specs.declared.entries.BrokenRule.{BrokenRule}
use Rattle.sift_scenario.specs.declared.mission.Refused.{Refused}
use Rattle.sift_scenario.specs.declared.mission.Refused.TheVariants.{Scenario, Task, Table, Script}
use Rattle.sift_scenario.specs.declared.entries.Form as held
use Rattle.sift_scenario.specs.declared.entries.Form.TheVariants as variant
use Rattle.sift_scenario.specs.Program.{turn_of}
use Rattle.sift_scenario.specs.Refusal.{IsFirstBadTable, IsOver}
use Rattle.sift_scenario.specs.Task.{Form, linear, text}

-- ---- rules

-- the refusal of a rule; or want of memory
abbrev pub rule_refusal_of : Stop BrokenRule → Stop Refused
rule_refusal_of (stop.Refused broken) = stop.Refused (Scenario broken.number broken.place)
rule_refusal_of stop.NoMemory = stop.NoMemory

-- ---- the forms of tasks

-- the form that the code holds
abbrev pub form_of : held.Form → Form
form_of (variant.Linear factor addend) = linear factor addend
form_of (variant.Text bytes) = text bytes.now

-- the form is the linear rule that the value states
abbrev pub IsLinearForm : Data → Form → Type 0
IsLinearForm value (linear factor addend) = word_array 2 2 value ≡ Some (factor ∷ addend ∷ [])
IsLinearForm value (text bytes) = ⊥

-- ---- texts and code

-- so many tasks may take their turn with these names
abbrev pub AreTurns : ℕ → Roll → Type 0
AreTurns count roll = (task : ℕ) → task < count → AreNames (turn_of task roll)

-- compiling stopped for want of memory, or over a limit
abbrev pub IsCodeStop : (left task : ℕ) → TaskTree → Stop Refused → Type 0
IsCodeStop left task tree why = IfRefused (IsOver left task tree) why

-- the refusal of a task whose code is too long, or takes too many steps; or want of memory
abbrev pub code_refusal_of : ℕ → CompileStop → Stop Refused
code_refusal_of task (compile.CodeTooLong len) = stop.Refused (Task task 6 len)
code_refusal_of task (compile.TooManySteps bound) = stop.Refused (Task task 7 bound)
code_refusal_of task compile.NoMemory = stop.NoMemory

-- ---- tables and scripts

-- the table isn't good, and is refused so
abbrev pub IsBadTable : Schedule → AllShapes → Stop Refused → Type 0
IsBadTable schedule shapes (stop.Refused (Table size row rule)) = (schedule.size ≡ size) × tables.IsFirstBroken schedule shapes rule row
IsBadTable schedule shapes other = ⊥

-- the first of the tables that isn't good is refused; or memory was wanting
abbrev pub RefusesTable : List Schedule → AllShapes → Stop Refused → Type 0
RefusesTable schedules shapes (stop.Refused (Table size row rule)) = IsFirstBadTable schedules shapes size row rule
RefusesTable schedules shapes stop.NoMemory = ⊤
RefusesTable schedules shapes other = ⊥

-- the first rule that the script breaks is refused
abbrev pub RefusesScript : FaultScript → Stop Refused → Type 0
RefusesScript script (stop.Refused (Script entry rule)) = scripts.IsFirstBroken script rule entry
RefusesScript script other = ⊥
