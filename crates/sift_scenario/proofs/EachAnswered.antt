-- No document is without an answer: it states a mission, or is refused.
use Rattle.std.proofs.Common.{◌≡◌, ◌≢◌, ◌<◌, ◌≤◌, ◌⊎◌, inl, inr, ℕ, zero, suc, List, [], length, Option, Some, None, refl, sym, ◌∷◌, ◌++◌, get_or, take, arith, length-append}
use Rattle.std.proofs.lemmas.Bool.{cases_lt}
use Rattle.std.proofs.lemmas.Option.{slice_get-get_or}
use Rattle.std.specs.List.{slice_get}
use Rattle.toml.specs.Data.{Members, no_members}
use Rattle.std.specs.List.{All}
use Rattle.sift_base.specs.declared.stop.Stop.TheVariants as stop
use Rattle.sift_base.specs.Shapes.{AllShapes}
use Rattle.sift_lang.specs.Tree.{TaskTree}
use Rattle.sift_document.specs.Rules.{EachMatches, AreKept}
use Rattle.sift_table.specs.Rules as tables
use Rattle.sift_table.specs.Schedule.{Schedule}
use Rattle.sift_document.specs.laws.Places.{matches_more}
use Rattle.sift_script.proofs.lemmas.Answered.{scripts_are_answered}
use Rattle.sift_table.proofs.lemmas.Answered.{tables_are_answered}
use Rattle.sift_compile.specs.Length.{code_limit, task_length, task_steps}
use Rattle.sift_parse.specs.declared.task.ParseStop.{ParseStop}
use Rattle.sift_parse.specs.declared.task.ParseStop.TheVariants as parse
use Rattle.sift_parse.specs.Answer as texts
use Rattle.sift_parse.specs.Roll.{Roll, first_word}
use Rattle.sift_parse.specs.Outcome.{linear_tree}
use Rattle.sift_program.specs.Program.{ProgramTree}
use Rattle.sift_parse.proofs.lemmas.Answered.{no_text_is_unanswered}
use Rattle.sift_mission.specs.Data.{MissionData, shapes_in}
use Rattle.sift_sections.specs.laws.Decided.{all_more, at_most}
use Rattle.sift_scenario.specs.Laws.{HasAnswer, a_mission, a_refusal, NoDocumentIsUnanswered}
use Rattle.sift_scenario.specs.Mission.{IsStated, IsLawful}
use Rattle.sift_scenario.specs.Program.{AreAllowed, IsProgramOf, IsTreeOf, roll_for, steps_left, turn_of}
use Rattle.sift_scenario.specs.Refusal.{IsFirstRefused, IsNoTask, IsOver, refusal_of, told_number}
use Rattle.sift_scenario.specs.Root.{frames_of, period_of, units_of}
use Rattle.sift_scenario.specs.Sensor.{sensor_names}
use Rattle.sift_scenario.specs.Task.{AreForms, Form, HasForm, linear, tasks_of, text, task_rules}
use Rattle.sift_scenario.specs.declared.mission.Refused.{Refused}
use Rattle.sift_scenario.specs.declared.mission.Refused.TheVariants.{Scenario, Task, Table, Script}
use Rattle.sift_scenario.specs.Refusal.{IsFirstBadTable, IsRefusedWith}
use Rattle.sift_scenario.proofs.Codes.{allowed_more}
use Rattle.sift_scenario.proofs.FirstBroken.{kept_or_broken}
use Rattle.sift_scenario.proofs.Known.{form_known}
use Rattle.sift_scenario.proofs.OneMission.{data_from}
use Rattle.sift_scenario.proofs.TaskRefusals.{text_refused_by}
use Rattle.sift_scenario.proofs.Turns.{code_first, text_first}
use Rattle.sift_scenario.proofs.Themes.{kept_themes}
use Rattle.sift_scenario.proofs.Named.{BreaksForms, all_starts}

-- an option that isn't none has a value
value_of : {A : Type 0} (o : Option A) → o ≢ None → (x : A) × (o ≡ Some x)
value_of None some = absurd (some refl)
value_of (Some x) some = (x, refl)

-- where each entry has one that matches it, there is a list of them
matched :
    {A B : Type 0} (R : ℕ → A → B → Type 0) (others : List A) (none : A)
    → ((k : ℕ) (other : A) → slice_get others k ≡ Some other → (entry : B) × R k other entry)
    → (n : ℕ) → n ≤ length others → (entries : List B) × (length entries ≡ n) × EachMatches R others entries
matched R others none each zero low = ([], refl, λ place entry there. cc)
matched R others none each (suc n) low =
    let so_far = matched R others none each n (omega (arith, low)) in
    let there = slice_get-get_or others n none (omega (arith, low)) in
    let here = each n (get_or others n none) there in (
      so_far.0 ++ here.0 ∷ [],
      omega (arith, so_far.1, length-append so_far.0 (here.0 ∷ [])),
      matches_more R others so_far.0 n _ here.0 so_far.2 (sym so_far.1) there here.1,
    )

-- a stop that isn't want of memory refuses the task
stop_refuses : (task : ℕ) (parsed : ParseStop) → parsed ≢ parse.NoMemory → (e : Refused) × (refusal_of task parsed ≡ stop.Refused e)
stop_refuses task (parse.Lex at) some = (Task task 1 at, refl)
stop_refuses task (parse.Syntax at) some = (Task task 2 at, refl)
stop_refuses task (parse.UnknownName at) some = (Task task 3 at, refl)
stop_refuses task (parse.Later at) some = (Task task 4 at, refl)
stop_refuses task (parse.Limit which at) some = (Task task 5 at, refl)
stop_refuses task parse.NoMemory some = absurd (some refl)

-- where its text has an answer, a task has a tree, or its text is none
tree_or_stop :
    (roll : Roll) (task : ℕ) (bytes : List ℕ) → texts.HasAnswer roll bytes
    → ((tree : TaskTree) × IsTreeOf roll (text bytes) tree) ⊎ ((e : Refused) × IsNoTask roll task (text bytes) e)
tree_or_stop roll task bytes (texts.a_task tree is) = inl (tree, is)
tree_or_stop roll task bytes (texts.a_refusal parsed some told) =
    let refused = stop_refuses task parsed some in
    inr (refused.0, record { bytes = bytes; form_is = refl; parsed = parsed; told = told; refused_is = refused.1 })

-- each text has an answer, so each task has a tree, or its text is none
tree_is_known :
    (roll : Roll) (task : ℕ) (form : Form)
    → ¬ ¬ (((tree : TaskTree) × IsTreeOf roll form tree) ⊎ ((e : Refused) × IsNoTask roll task form e))
tree_is_known roll task (linear factor addend) unknown = unknown (inl (linear_tree (first_word roll roll.this) factor addend, refl))
tree_is_known roll task (text bytes) unknown = no_text_is_unanswered roll bytes (λ answer. unknown (tree_or_stop roll task bytes answer))

-- what isn't within is over
over_of : (n limit : ℕ) → (n ≤ limit → ⊥) → limit < n
over_of n limit over = elim (cases_lt limit n) [ inl more ↦ more | inr within ↦ absurd (over within) ]

-- a tree is within the limits, or over one
within_or_over : (left task : ℕ) (tree : TaskTree) → ((task_length tree ≤ code_limit) × (task_steps tree ≤ left)) ⊎ ((e : Refused) × IsOver left task tree e)
within_or_over left task tree = elim (at_most (task_length tree) code_limit) [
  | inl short ↦ elim (at_most (task_steps tree) left) [
    | inl quick ↦ inl (short, quick)
    | inr slow ↦ inr (
      Task task 7 (told_number (task_steps tree)),
      inr (short, over_of (task_steps tree) left slow, refl),
    )
  ]
  | inr long ↦ inr (
    Task task 6 (told_number (task_length tree)),
    inl (over_of (task_length tree) code_limit long, refl),
  )
]

module _ (roll : Roll) (forms : List Form) where
  -- what the first tasks have: allowed trees, or one of them is the first that is refused
  abbrev TreesOrRefused : ℕ → Type 0
  TreesOrRefused n =
      ((trees : List TaskTree) × (length trees ≡ n) × EachMatches (λ t form tree. IsTreeOf (turn_of t roll) form tree) forms trees × AreAllowed trees)
      ⊎ ((e : Refused) × IsFirstRefused roll forms e)

  -- the same of one task more, where it has a tree, or its text is none
  one_more :
      (n : ℕ) → suc n ≤ length forms → TreesOrRefused n
      → ((tree : TaskTree) × IsTreeOf (turn_of n roll) (get_or forms n (text [])) tree) ⊎ ((e : Refused) × IsNoTask (turn_of n roll) n (get_or forms n (text [])) e)
      → TreesOrRefused (suc n)
  one_more n low so_far known = elim so_far [
    | inr refused ↦ inr refused
    | inl so ↦
        let there = slice_get-get_or forms n (text []) (omega (arith, low)) in
        let form = get_or forms n (text []) in
        elim known [
          | inr stopped ↦ inr (stopped.0, text_first roll forms so.0 n form stopped.0 so.1 so.2 so.3 there stopped.1)
          | inl has ↦ elim (within_or_over (steps_left so.0) n has.0) [
            | inr over ↦ inr (over.0, code_first roll forms so.0 n form over.0 so.1 so.2 so.3 there has.0 has.1 over.1)
            | inl within ↦ inl (
              so.0 ++ has.0 ∷ [],
              omega (arith, so.1, length-append so.0 (has.0 ∷ [])),
              matches_more (λ t f tree. IsTreeOf (turn_of t roll) f tree) forms so.0 n form has.0 so.2 (sym so.1) there has.1,
              allowed_more so.0 has.0 so.3 within,
            )
          ]
        ]
  ]

  -- task by task
  trees_are_known : (n : ℕ) → n ≤ length forms → ¬ ¬ TreesOrRefused n
  trees_are_known zero low unknown = unknown (inl ([], refl, λ place entry there. cc, λ t tree there. cc))
  trees_are_known (suc n) low unknown =
      trees_are_known n (omega (arith, low))
      (λ so_far. tree_is_known (turn_of n roll) n (get_or forms n (text [])) (λ known. unknown (one_more n low so_far known)))

-- each task has a form where the rule of the forms is kept
lawful_form : (tasks : List Members) → ((place : ℕ) → BreaksForms tasks place → ⊥) → (k : ℕ) (task : Members) → slice_get tasks k ≡ Some task → (form : Form) × HasForm task form
lawful_form tasks kept k task there = elim (form_known task) [
  | inl has ↦ has
  | inr none ↦ absurd (kept k (record { entry = task; there = there; holds = λ form has. none (form, has) }))
]

module _ (d : Members) where
  -- what a lawful document has: a program that its tasks state, or one of them is refused
  abbrev ProgramOrRefused : Type 0
  ProgramOrRefused = ((program : ProgramTree) × IsProgramOf (sensor_names d) (tasks_of d) program) ⊎ ((e : Refused) × IsRefusedWith d e)

  program_is_known : (units : ℕ) → units_of d ≡ Some units → IsLawful d → ¬ ¬ ProgramOrRefused
  program_is_known units is lawful unknown =
      let tasks = tasks_of d in
      let kept : AreKept (task_rules d) = (kept_themes d units is lawful).1.1.1.0 in
      let found = matched (λ place task form. HasForm task form) tasks no_members (lawful_form tasks kept.1.1.1.1.0) (length tasks) (omega arith) in
      let forms = found.0 in
      let stated : AreForms tasks forms = record { as_many = found.1; each = found.2 } in
      let roll = roll_for (sensor_names d) tasks in
      trees_are_known roll forms (length forms) (omega arith) (λ known. unknown (elim known [
        | inr refused ↦ inr (refused.0, text_refused_by d refused.0 lawful (forms, stated, refused.1))
        | inl trees ↦ inl (
          record { tasks = trees.0; starts = all_starts tasks },
          record { starts = refl; forms = forms; stated = stated; trees = record { as_many = trees.1; each = trees.2 }; allowed = trees.3 },
        )
      ]))

-- the first of some tables isn't good, or all are
tables_known :
    (shapes : AllShapes) (schedules : List Schedule)
    → All (λ table. tables.IsGood table shapes) schedules ⊎ ((size : ℕ) × (row : ℕ) × (rule : ℕ) × IsFirstBadTable schedules shapes size row rule)
tables_known shapes [] = inl (λ k d low. absurd (omega (arith, low)))
tables_known shapes (table ∷ rest) = elim (tables_are_answered table shapes) [
  | inr broken ↦ inr (
    table.size,
    broken.1,
    broken.0,
    record {
      place = 0;
      earlier = λ k d low. absurd (omega (arith, low));
      here = record { entry = table; there = refl; holds = (refl, broken.2) };
    },
  )
  | inl good ↦ elim (tables_known shapes rest) [
    | inl all ↦ inl (all_more (λ t. tables.IsGood t shapes) table rest good all)
    | inr later ↦ let bad = later.3 in inr (
      later.0,
      later.1,
      later.2,
      record {
        place = suc bad.place;
        earlier = all_more (λ t. tables.IsGood t shapes) table (take bad.place rest) good bad.earlier;
        here = record { entry = bad.here.entry; there = bad.here.there; holds = bad.here.holds };
      },
    )
  ]
]

-- the data that a document states; what follows doesn't look into them
data_for : (d : Members) (units frames period : ℕ) → ProgramTree → MissionData
data_for d units frames period program = data_from d units frames period program

-- a lawful document whose program is known has an answer
answer_of :
    (d : Members) (units frames period : ℕ) → IsLawful d → units_of d ≡ Some units → frames_of d ≡ Some frames → period_of d ≡ Some period
    → ProgramOrRefused d → HasAnswer d
unfolding data_for
answer_of d units frames period lawful units_is frames_is period_is known = elim known [
  | inr refused ↦ a_refusal refused.0 refused.1
  | inl program ↦
      let mission = data_for d units frames period program.0 in
      let stated : IsStated d mission = record {
        lawful = lawful;
        units = units_is;
        frames = frames_is;
        period = period_is;
        clock = refl;
        sensors = refl;
        names = refl;
        program = program.1;
        layout = refl;
        tables = refl;
        script = refl;
      } in
      elim (tables_known (shapes_in mission) mission.tables) [
        | inr bad ↦ a_refusal (Table bad.0 bad.1 bad.2) (mission, stated, bad.3)
        | inl good ↦ elim (scripts_are_answered mission.script) [
          | inr bad ↦ a_refusal (Script bad.1 bad.0) (mission, stated, good, bad.2)
          | inl fine ↦ a_mission mission (record { stated = stated; good_tables = good; good_script = fine })
        ]
      ]
]

-- no document is without an answer: it can't be that it neither states a mission nor is refused
pub each_answered : NoDocumentIsUnanswered
each_answered d none = elim (kept_or_broken d) [
  | inr broken ↦ none (a_refusal (Scenario broken.0 broken.1) broken.2)
  | inl lawful ↦
      let units = value_of (units_of d) (λ none. lawful.1.0 0 (refl, none)) in
      let frames = value_of (frames_of d) (λ none. lawful.1.1.0 0 (refl, none)) in
      let period = value_of (period_of d) (λ none. lawful.1.1.1.1.0 0 (refl, none)) in
      program_is_known d units.0 units.1 lawful (λ known. none (answer_of d units.0 frames.0 period.0 lawful units.1 frames.1 period.1 known))
]
