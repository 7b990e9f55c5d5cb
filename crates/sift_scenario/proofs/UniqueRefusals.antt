-- A document that states a mission isn't refused, and one that is refused is refused in one way.
use Rattle.std.proofs.Common.{◌≡◌, ◌<◌, inl, inr, ℕ, List, length, get_or, take, Some, Result, Ok, Err, IfOk, IfErr, refl, sym, ap, subst, ◌∙◌, arith}
use Rattle.std.proofs.lemmas.Bool.{cases_order}
use Rattle.std.proofs.lemmas.List.{get_or-take, length-take, take_all}
use Rattle.std.proofs.lemmas.Option.{get_or_from_slice_get, slice_get_within}
use Rattle.std.specs.List.{All, slice_get}
use Rattle.toml.specs.Data.{Members}
use Rattle.sift_base.specs.Stop.{IfRefused}
use Rattle.sift_base.specs.declared.stop.Stop.{Stop}
use Rattle.sift_base.specs.declared.stop.Stop.TheVariants as stop
use Rattle.sift_base.specs.Shapes.{AllShapes}
use Rattle.sift_lang.specs.Tree.{TaskTree}
use Rattle.sift_script.specs.Rules as scripts
use Rattle.sift_table.specs.Rules as tables
use Rattle.sift_table.specs.Schedule.{Schedule}
use Rattle.sift_document.specs.Testing.{OnlyRefuses}
use Rattle.sift_script.proofs.lemmas.Refusals as script_laws
use Rattle.sift_table.proofs.lemmas.Refusals as table_laws
use Rattle.sift_document.specs.laws.OneBroken.{kept_unbroken, one_broken}
use Rattle.sift_parse.specs.Outcome.{Tells}
use Rattle.sift_parse.specs.Roll.{Roll}
use Rattle.sift_parse.proofs.lemmas.OneAnswer.{one_answer}
use Rattle.sift_mission.specs.Data.{MissionData, shapes_in}
use Rattle.sift_mission.specs.Parts.{data_of}
use Rattle.sift_mission.specs.declared.mission.MissionParts.{MissionParts}
use Rattle.sift_scenario.specs.Mission.{rules_of, HasGoodTables, IsMission, IsStated}
use Rattle.sift_scenario.specs.Laws.{MissionsAreAccepted, OneRefusal}
use Rattle.sift_scenario.specs.Program.{roll_for, steps_left, turn_of}
use Rattle.sift_scenario.specs.Refusal.{IsFirstBadTable, IsFirstRefused, IsFormRefused, IsNoTask, IsOver, IsRefusedWith, refusal_of}
use Rattle.sift_scenario.specs.Sensor.{sensor_names}
use Rattle.sift_scenario.specs.Task.{Form, text, tasks_of}
use Rattle.sift_scenario.specs.declared.mission.Refused.{Refused}
use Rattle.sift_scenario.specs.declared.mission.Refused.TheVariants.{Scenario, Task, Table, Script}
use Rattle.sift_scenario.proofs.Named.{TasksAreRefused}
use Rattle.sift_scenario.proofs.OneMission.{one_stated}
use Rattle.sift_scenario.proofs.UniqueForms.{one_forms, one_tree}
use Rattle.sift_scenario.proofs.Unrefused.{first_trees, no_want, one_entry, tree_unrefused, unrefused_among}

-- ---- what is stated isn't refused

-- where data are stated no task is refused
stated_tasks : (d : Members) (m : MissionData) (e : Refused) → IsStated d m → TasksAreRefused (sensor_names d) (tasks_of d) e → ⊥
stated_tasks d m e states refused =
    let roll = roll_for (sensor_names d) (tasks_of d) in
    let forms = states.program.forms in
    let same : refused.0 ≡ forms = one_forms (tasks_of d) refused.0 forms refused.1 states.program.stated in
    let first : IsFirstRefused roll forms e = subst (λ (fs : List Form). IsFirstRefused roll fs e) same refused.2 in
    let low = slice_get_within forms first.task first.here.entry first.here.there in
    unrefused_among roll forms e first m.program.tasks
    states.program.trees.each states.program.allowed (omega (arith, low, states.program.trees.as_many))

-- where all tables are good none is the first that isn't
good_unrefused :
    (schedules : List Schedule) (shapes : AllShapes) (size row rule : ℕ) → All (λ table. tables.IsGood table shapes) schedules
    → IsFirstBadTable schedules shapes size row rule → ⊥
good_unrefused schedules shapes size row rule good bad =
    let low = slice_get_within schedules bad.place bad.here.entry bad.here.there in
    let here : get_or schedules bad.place bad.here.entry ≡ bad.here.entry = get_or_from_slice_get schedules bad.place bad.here.entry bad.here.entry bad.here.there in
    let fine : tables.IsGood bad.here.entry shapes = subst (λ (t : Schedule). tables.IsGood t shapes) here (good bad.place bad.here.entry low) in
    (table_laws.one_broken_rule bad.here.entry shapes rule row bad.here.holds.1).0 fine

-- where data with good tables are stated no table is refused
stated_tables : (d : Members) (m : MissionData) (size row rule : ℕ) → IsStated d m → HasGoodTables m → IsRefusedWith d (Table size row rule) → ⊥
stated_tables d m size row rule states good refused =
    let same = one_stated d refused.0 m refused.1 states in
    let bad : IsFirstBadTable m.tables (shapes_in m) size row rule =
    subst (λ (x : MissionData). IsFirstBadTable x.tables (shapes_in x) size row rule) same refused.2 in
    good_unrefused m.tables (shapes_in m) size row rule good bad

-- where data with a good script are stated it isn't refused
stated_script : (d : Members) (m : MissionData) (entry rule : ℕ) → IsStated d m → scripts.IsGood m.script → IsRefusedWith d (Script entry rule) → ⊥
stated_script d m entry rule states good refused =
    let same = one_stated d refused.0 m refused.1 states in
    let bad : scripts.IsFirstBroken m.script rule entry = subst (λ (x : MissionData). scripts.IsFirstBroken x.script rule entry) same refused.3 in
    (script_laws.one_broken_rule m.script rule entry bad).0 good

-- a document that states a mission isn't refused
pub missions_are_accepted : MissionsAreAccepted
missions_are_accepted d mission (Scenario n at) states refused = kept_unbroken (rules_of d) n at states.stated.lawful refused
missions_are_accepted d mission (Task t k at) states refused = stated_tasks d mission (Task t k at) states.stated (refused.0, refused.2, refused.3)
missions_are_accepted d mission (Table size row rule) states refused = stated_tables d mission size row rule states.stated states.good_tables refused
missions_are_accepted d mission (Script entry rule) states refused = stated_script d mission entry rule states.stated states.good_script refused

-- ---- a text, or its code

-- two stops that are one refuse for one reason
same_refused : (a b : Refused) → stop.Refused a ≡ stop.Refused b → a ≡ b
same_refused a b same = cc

-- a text stops in one way
one_stop : (roll : Roll) (task : ℕ) (form : Form) (a b : Refused) → IsNoTask roll task form a → IsNoTask roll task form b → a ≡ b
one_stop roll task form a b one other =
    let form_is : text one.bytes ≡ text other.bytes = sym one.form_is ∙ other.form_is in
    let bytes : one.bytes ≡ other.bytes = cc form_is in
    let told : Tells roll other.bytes (Err one.parsed) = subst (λ (bs : List ℕ). Tells roll bs (Err one.parsed)) bytes one.told in
    let parsed : one.parsed ≡ other.parsed = one_answer roll other.bytes (Err one.parsed) (Err other.parsed)
    (λ e. no_want roll task form a one (cc e)) (λ e. no_want roll task form b other (cc e)) told other.told in
    same_refused a b (sym one.refused_is ∙ ap (refusal_of task) parsed ∙ other.refused_is)

-- a task is over a limit in one way
one_over : (left task : ℕ) (tree : TaskTree) (a b : Refused) → IsOver left task tree a → IsOver left task tree b → a ≡ b
one_over left task tree a b (inl one) (inl other) = one.1 ∙ sym other.1
one_over left task tree a b (inl one) (inr other) = absurd (omega (arith, one.0, other.0))
one_over left task tree a b (inr one) (inl other) = absurd (omega (arith, one.0, other.0))
one_over left task tree a b (inr one) (inr other) = one.2 ∙ sym other.2

-- a task is refused in one way
one_form_refusal : (roll : Roll) (left task : ℕ) (form : Form) (a b : Refused) → IsFormRefused roll left task form a → IsFormRefused roll left task form b → a ≡ b
one_form_refusal roll left task form a b (inl one) (inl other) = one_stop roll task form a b one other
one_form_refusal roll left task form a b (inl one) (inr other) = absurd (tree_unrefused roll task form other.0 a other.1 one)
one_form_refusal roll left task form a b (inr one) (inl other) = absurd (tree_unrefused roll task form one.0 b one.1 other)
one_form_refusal roll left task form a b (inr one) (inr other) =
    let same = one_tree roll form one.0 other.0 one.1 other.1 in
    one_over left task other.0 a b (subst (λ (t : TaskTree). IsOver left task t a) same one.2) other.2

-- the first task that is refused is refused in one way
same_task : (roll : Roll) (forms : List Form) (a b : Refused) (one : IsFirstRefused roll forms a) (other : IsFirstRefused roll forms b) → one.task ≡ other.task → a ≡ b
same_task roll forms a b one other same =
    let long : length one.trees ≡ length other.trees = one.as_many ∙ same ∙ sym other.as_many in
    let before = first_trees roll forms one.trees other.trees one.earlier other.earlier (omega (arith, long)) in
    let trees : one.trees ≡ other.trees = before ∙ take_all (length one.trees) other.trees (omega (arith, long)) in
    let there : slice_get forms other.task ≡ Some one.here.entry = subst (λ (t : ℕ). slice_get forms t ≡ Some one.here.entry) same one.here.there in
    let form = one_entry forms other.task _ _ there other.here.there in
    let here : IsFormRefused (turn_of other.task roll) (steps_left other.trees) other.task other.here.entry a =
    subst (λ (f : Form). IsFormRefused (turn_of other.task roll) (steps_left other.trees) other.task f a) form
    (subst (λ (ts : List TaskTree). IsFormRefused (turn_of other.task roll) (steps_left ts) other.task one.here.entry a) trees
    (subst (λ (t : ℕ). IsFormRefused (turn_of t roll) (steps_left one.trees) t one.here.entry a) same one.here.holds)) in
    one_form_refusal (turn_of other.task roll) (steps_left other.trees) other.task other.here.entry a b here other.here.holds

-- the first task that is refused is one
one_task_refusal : (roll : Roll) (forms : List Form) (a b : Refused) → IsFirstRefused roll forms a → IsFirstRefused roll forms b → a ≡ b
one_task_refusal roll forms a b one other = elim (cases_order one.task other.task) [
  | inl same ↦ same_task roll forms a b one other same
  | inr (inl before) ↦ absurd (unrefused_among roll forms a one other.trees other.earlier other.allowed (omega (arith, before, other.as_many)))
  | inr (inr after) ↦ absurd (unrefused_among roll forms b other one.trees one.earlier one.allowed (omega (arith, after, one.as_many)))
]

-- ---- a table, or the script

-- a table before the first that isn't good breaks no rule
earlier_good :
    (schedules : List Schedule) (shapes : AllShapes) (i place rule row : ℕ) (table : Schedule) → slice_get schedules i ≡ Some table → i < place
    → All (λ t. tables.IsGood t shapes) (take place schedules) → tables.IsFirstBroken table shapes rule row → ⊥
earlier_good schedules shapes i place rule row table there before good broken =
    let low = slice_get_within schedules i table there in
    let short : i < length (take place schedules) = omega (arith, low, before, length-take place schedules) in
    let here : get_or (take place schedules) i table ≡ table = get_or-take place schedules i table before ∙ get_or_from_slice_get schedules i table table there in
    let fine : tables.IsGood table shapes = subst (λ (t : Schedule). tables.IsGood t shapes) here (good i table short) in
    (table_laws.one_broken_rule table shapes rule row broken).0 fine

-- the first table that isn't good is one, and breaks one rule first
one_bad_table :
    (schedules : List Schedule) (shapes : AllShapes) (size row rule other_size other_row other : ℕ)
    → IsFirstBadTable schedules shapes size row rule → IsFirstBadTable schedules shapes other_size other_row other
    → (size ≡ other_size) × ((row ≡ other_row) × (rule ≡ other))
one_bad_table schedules shapes size row rule other_size other_row other one two = elim (cases_order one.place two.place) [
  | inl same ↦
      let there : slice_get schedules two.place ≡ Some one.here.entry = subst (λ (i : ℕ). slice_get schedules i ≡ Some one.here.entry) same one.here.there in
      let both : Some one.here.entry ≡ Some two.here.entry = sym there ∙ two.here.there in
      let table : one.here.entry ≡ two.here.entry = cc both in
      let mine : tables.IsFirstBroken two.here.entry shapes rule row = subst (λ (t : Schedule). tables.IsFirstBroken t shapes rule row) table one.here.holds.1 in
      let so = (table_laws.one_broken_rule two.here.entry shapes other other_row two.here.holds.1).1 rule row mine in (
        sym one.here.holds.0 ∙ ap (λ (t : Schedule). t.size) table ∙ two.here.holds.0,
        (so.1, so.0),
      )
  | inr (inl before) ↦ absurd (earlier_good schedules shapes one.place two.place rule row one.here.entry one.here.there before two.earlier one.here.holds.1)
  | inr (inr after) ↦ absurd (earlier_good schedules shapes two.place one.place other other_row two.here.entry two.here.there after one.earlier two.here.holds.1)
]

-- the data that two refusals speak of are the same
one_table_refusal :
    (d : Members) (size row rule other_size other_row other : ℕ)
    → IsRefusedWith d (Table size row rule) → IsRefusedWith d (Table other_size other_row other)
    → (size ≡ other_size) × ((row ≡ other_row) × (rule ≡ other))
one_table_refusal d size row rule other_size other_row other one two =
    let same = one_stated d one.0 two.0 one.1 two.1 in
    let bad : IsFirstBadTable two.0.tables (shapes_in two.0) size row rule =
    subst (λ (x : MissionData). IsFirstBadTable x.tables (shapes_in x) size row rule) same one.2 in
    one_bad_table two.0.tables (shapes_in two.0) size row rule other_size other_row other bad two.2

one_script_refusal :
    (d : Members) (entry rule other_entry other : ℕ)
    → IsRefusedWith d (Script entry rule) → IsRefusedWith d (Script other_entry other) → (entry ≡ other_entry) × (rule ≡ other)
one_script_refusal d entry rule other_entry other one two =
    let same = one_stated d one.0 two.0 one.1 two.1 in
    let bad : scripts.IsFirstBroken two.0.script rule entry = subst (λ (x : MissionData). scripts.IsFirstBroken x.script rule entry) same one.3 in
    let so = (script_laws.one_broken_rule two.0.script other other_entry two.3).1 rule entry bad in (so.1, so.0)

-- ---- all of them

-- a document is refused in one way
pub one_refusal : OneRefusal
one_refusal d (Scenario n at) (Scenario m other) one two =
    let same = one_broken (rules_of d) n at m other one two in rw (same.0, same.1) refl
one_refusal d (Scenario n at) (Task t k x) one two = absurd (kept_unbroken (rules_of d) n at two.1 one)
one_refusal d (Scenario n at) (Table size row rule) one two = absurd (kept_unbroken (rules_of d) n at two.1.lawful one)
one_refusal d (Scenario n at) (Script entry rule) one two = absurd (kept_unbroken (rules_of d) n at two.1.lawful one)
one_refusal d (Task t k x) (Scenario n at) one two = absurd (kept_unbroken (rules_of d) n at one.1 two)
one_refusal d (Task t k x) (Task u l y) one two =
    let roll = roll_for (sensor_names d) (tasks_of d) in
    let same : one.0 ≡ two.0 = one_forms (tasks_of d) one.0 two.0 one.2 two.2 in
    one_task_refusal roll two.0 (Task t k x) (Task u l y)
    (subst (λ (fs : List Form). IsFirstRefused roll fs (Task t k x)) same one.3) two.3
one_refusal d (Task t k x) (Table size row rule) one two = absurd (stated_tasks d two.0 (Task t k x) two.1 (one.0, one.2, one.3))
one_refusal d (Task t k x) (Script entry rule) one two = absurd (stated_tasks d two.0 (Task t k x) two.1 (one.0, one.2, one.3))
one_refusal d (Table size row rule) (Scenario n at) one two = absurd (kept_unbroken (rules_of d) n at one.1.lawful two)
one_refusal d (Table size row rule) (Task t k x) one two = absurd (stated_tasks d one.0 (Task t k x) one.1 (two.0, two.2, two.3))
one_refusal d (Table size row rule) (Table other_size other_row other) one two =
    let same = one_table_refusal d size row rule other_size other_row other one two in rw (same.0, same.1.0, same.1.1) refl
one_refusal d (Table size row rule) (Script entry other) one two = absurd (stated_tables d two.0 size row rule two.1 two.2 one)
one_refusal d (Script entry rule) (Scenario n at) one two = absurd (kept_unbroken (rules_of d) n at one.1.lawful two)
one_refusal d (Script entry rule) (Task t k x) one two = absurd (stated_tasks d one.0 (Task t k x) one.1 (two.0, two.2, two.3))
one_refusal d (Script entry rule) (Table size row other) one two = absurd (stated_tables d one.0 size row other one.1 one.2 two)
one_refusal d (Script entry rule) (Script other_entry other) one two =
    let same = one_script_refusal d entry rule other_entry other one two in rw (same.0, same.1) refl

-- ---- what a call answers

-- where a mission is stated only want of memory refuses it
pub complete_of :
    (d : Members) (result : Result MissionParts (Stop Refused)) → IfErr result (IfRefused (IsRefusedWith d))
    → (mission : MissionData) → IsMission d mission → IfErr result (λ why. why ≡ stop.NoMemory)
complete_of d (Ok held) refused mission states = tt
complete_of d (Err (stop.Refused e)) refused mission states = absurd (missions_are_accepted d mission e states refused)
complete_of d (Err stop.NoMemory) refused mission states = refl

-- where a refusal is owed it comes, or want of memory
pub exact_of :
    (d : Members) (result : Result MissionParts (Stop Refused))
    → IfOk result (λ mission. IsMission d (data_of mission)) → IfErr result (IfRefused (IsRefusedWith d))
    → (owed : Refused) → IsRefusedWith d owed → OnlyRefuses owed result
exact_of d (Ok held) accepted refused owed stands = absurd (missions_are_accepted d (data_of held) owed accepted stands)
exact_of d (Err (stop.Refused e)) accepted refused owed stands = (refl, inl (ap stop.Refused (one_refusal d e owed refused stands)))
exact_of d (Err stop.NoMemory) accepted refused owed stands = (refl, inr refl)
