-- What refuses the texts of a document, where its rules are kept.
use Rattle.std.proofs.Common.{◌≡◌, ◌≢◌, inl, inr, ℕ, refl, sym, subst}
use Rattle.sift_base.specs.Stop.{IfRefused}
use Rattle.sift_base.specs.declared.stop.Stop.{Stop}
use Rattle.sift_base.specs.declared.stop.Stop.TheVariants as stop
use Rattle.toml.specs.Data.{Members}
use Rattle.sift_lang.specs.Tree.{TaskTree}
use Rattle.sift_parse.specs.Roll.{Roll}
use Rattle.sift_parse.specs.declared.task.ParseStop.{ParseStop}
use Rattle.sift_parse.specs.declared.task.ParseStop.TheVariants as parse
use Rattle.sift_document.specs.Testing.{RefusesFirst}
use Rattle.sift_document.specs.declared.entries.BrokenRule.{BrokenRule}
use Rattle.sift_scenario.specs.Mission.{IsLawful, rules_of}
use Rattle.sift_scenario.specs.Refusal.{IsFormRefused, IsOver, IsRefusedWith, refusal_of}
use Rattle.sift_scenario.proofs.Named.{TasksAreRefused}
use Rattle.sift_scenario.specs.Sensor.{sensor_names}
use Rattle.sift_scenario.specs.Task.{Form, tasks_of}
use Rattle.sift_scenario.specs.Testing.{rule_refusal_of}
use Rattle.sift_scenario.specs.declared.mission.Refused.{Refused}
use Rattle.sift_scenario.specs.declared.mission.Refused.TheVariants.{Scenario, Task, Table, Script}

-- the refusal is none of a task
abbrev IsOther : Refused → Type 0
IsOther (Scenario n at) = Unit {0}
IsOther (Task t k at) = ⊥
IsOther (Table size row n) = Unit {0}
IsOther (Script entry n) = Unit {0}

-- a task is refused by no rule, table or script
abbrev IsOtherStop : Stop Refused → Type 0
IsOtherStop why = IfRefused IsOther why × (why ≢ stop.NoMemory)

no_other : (task : ℕ) (parsed : ParseStop) → IsOtherStop (refusal_of task parsed) → ⊥
no_other task (parse.Lex a) other = other.0
no_other task (parse.Syntax a) other = other.0
no_other task (parse.UnknownName a) other = other.0
no_other task (parse.Later a) other = other.0
no_other task (parse.Limit w a) other = other.0
no_other task parse.NoMemory other = other.1 refl

refusal_of-other : (task : ℕ) (parsed : ParseStop) (e : Refused) → refusal_of task parsed ≡ stop.Refused e → IsOther e → ⊥
refusal_of-other task parsed e same other = no_other task parsed (subst IsOtherStop (sym same) (other, λ none. cc none))

over-other : (left task : ℕ) (tree : TaskTree) (e : Refused) → IsOver left task tree e → IsOther e → ⊥
over-other left task tree e (inl long) other = rw long.1 at other
over-other left task tree e (inr slow) other = rw slow.2 at other

form_refusal-other : (roll : Roll) (left task : ℕ) (form : Form) (e : Refused) → IsFormRefused roll left task form e → IsOther e → ⊥
form_refusal-other roll left task form e (inl fault) other = refusal_of-other task fault.parsed e fault.refused_is other
form_refusal-other roll left task form e (inr over) other = over-other left task over.0 e over.2 other

-- a task of a lawful document is refused
pub text_refused_by : (d : Members) (e : Refused) → IsLawful d → TasksAreRefused (sensor_names d) (tasks_of d) e → IsRefusedWith d e
text_refused_by d (Scenario n at) lawful r = absurd (form_refusal-other _ _ _ _ (Scenario n at) r.2.here.holds tt)
text_refused_by d (Task t k at) lawful r = (r.0, lawful, r.1, r.2)
text_refused_by d (Table size row n) lawful r = absurd (form_refusal-other _ _ _ _ (Table size row n) r.2.here.holds tt)
text_refused_by d (Script entry n) lawful r = absurd (form_refusal-other _ _ _ _ (Script entry n) r.2.here.holds tt)

-- the first rule that is broken is refused
pub rule_refused : (d : Members) (why : Stop BrokenRule) → RefusesFirst (rules_of d) why → IfRefused (IsRefusedWith d) (rule_refusal_of why)
rule_refused d (stop.Refused broken) refused = refused
rule_refused d stop.NoMemory refused = tt
