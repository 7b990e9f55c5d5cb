-- The tree of the document with two catchers states its mission.
use Rattle.std.proofs.Common.{codes, ◌≡◌, ◌≢◌, ◌<◌, ◌≤◌, ◌+◌, ℕ, zero, suc, List, [], ◌∷◌, length, slice_index, sum, take, Some, None, inl, inr, refl, sym, ◌∙◌, subst, arith}
use Rattle.std.specs.List.{All, Contains, slice_get}
use Rattle.std.specs.Prelude.{◌⊎◌, map, unwrap_or}
use Rattle.std.proofs.lemmas.List.Elements.{All-cons, All-from_recursion, All-nil}
use Rattle.std.proofs.lemmas.Option.{none-some, same_Some}
use Rattle.toml.specs.Data.{get_member, table}
use Rattle.sift_base.specs.Layout.{word_limit}
use Rattle.sift_base.specs.Name.{IsName, IsNameByte, keywords}
use Rattle.sift_compile.specs.Length.{code_limit, task_length, task_steps}
use Rattle.sift_document.specs.Document.{HasOnlyKeys, IsTableOf, keys_of, tables_in}
use Rattle.sift_document.specs.Rules.{AreKept, AreMatched, HoldsOf, Rule, rule}
use Rattle.sift_document.specs.laws.Order.{kept_joined}
use Rattle.sift_flight.specs.Flight.{IsRound}
use Rattle.sift_lang.specs.Tree.{TaskTree}
use Rattle.sift_mission.specs.Data.{MissionData, shapes_in}
use Rattle.sift_mission.specs.Flown.{flown}
use Rattle.sift_mission.specs.PartsFit.{PartsFit, table_at}
use Rattle.sift_report.specs.Sheet.{sheet_of}
use Rattle.sift_report.specs.TwoCatchers.{FaultIsWithinTheHeadline, TellsOfTheFault, mission}
use Rattle.sift_scenario.specs.Laws.{OneMission}
use Rattle.sift_scenario.specs.Mission.{IsLawful, IsMission, IsStated}
use Rattle.sift_scenario.specs.Program.{AreAllowed, IsProgramOf, IsTreeOf, roll_for, steps_left, turn_of}
use Rattle.sift_scenario.specs.Root.{root_keys, root_rules, units_of, version_of}
use Rattle.sift_scenario.specs.Sensor.{sensor_names, sensor_rules}
use Rattle.sift_scenario.specs.Task.{HasForm, IsNewName, counts_of, linear, name_of, start_words, task_rules, tasks_of}
use Rattle.sift_sections.specs.Clock.{clock_rules}
use Rattle.sift_sections.specs.Fault.{AreItems, StandsAlone, changes_of, fault_rules, from_of, stated_storm, unit_of}
use Rattle.sift_sections.specs.Item.{item_keys}
use Rattle.sift_sections.specs.Table.{shed_of, table_rules}
use Rattle.sift_table.specs.Rules as tables
use Rattle.sift_jobs.specs.StatedFault.{FaultIsStated, change, fault, task, tree}

-- ---- lists of one entry

-- one entry, of which a fact doesn't hold
not_only : {A : Type 0} (x : A) (P : ℕ → A → Type 0) → ¬ P 0 x → (place : ℕ) → ¬ HoldsOf (x ∷ []) place (P place)
not_only {A} x P fails zero found = let same : x ≡ found.entry = same_Some _ _ found.there in fails (subst (P 0) (sym same) found.holds)
not_only x P fails (suc place) found = absurd (none-some found.entry found.there)

-- two entries that stand to one another as R says
one_matched : {A B : Type 0} (R : ℕ → A → B → Type 0) (x : A) (y : B) → R 0 x y → AreMatched R (x ∷ []) (y ∷ [])
one_matched {A} {B} R x y stands = record { as_many = refl; each = each }
  where
    each : (place : ℕ) (entry : B) → slice_get (y ∷ []) place ≡ Some entry → HoldsOf (x ∷ []) place (λ other. R place other entry)
    each zero entry there = record { entry = x; there = refl; holds = subst (R 0 x) (same_Some _ _ there) stands }
    each (suc place) entry there = absurd (none-some entry there)

-- ---- the rules of the root

root_known : HasOnlyKeys root_keys tree
root_known = All-from_recursion (Contains root_keys) (keys_of tree)
    ((8, omega arith, refl), ((2, omega arith, refl), ((6, omega arith, refl), ((1, omega arith, refl), tt))))

root_kept : AreKept (root_rules tree)
root_kept = (
  λ place broken. broken.1 root_known,
  (λ place broken. cc broken.1, (λ place broken. cc broken.1, (λ place broken. cc broken.1, (λ place broken. cc broken.1, tt)))),
)

-- ---- those of its task

abbrev task_keys : List (List ℕ)
task_keys = codes "name" ∷ codes "start" ∷ codes "text" ∷ codes "linear" ∷ []

task_known : HasOnlyKeys task_keys task
task_known = All-from_recursion (Contains task_keys) (keys_of task) ((3, omega arith, refl), ((0, omega arith, refl), ((1, omega arith, refl), tt)))

-- no keyword begins with the letter of this name
other_letter : (word : List ℕ) → Contains keywords word → slice_index word 0 ≢ 99
other_letter word (zero, low, e) = subst (λ w. slice_index w 0 ≢ 99) e (λ same. omega (arith, same))
other_letter word (suc zero, low, e) = subst (λ w. slice_index w 0 ≢ 99) e (λ same. omega (arith, same))
other_letter word (suc (suc zero), low, e) = subst (λ w. slice_index w 0 ≢ 99) e (λ same. omega (arith, same))
other_letter word (suc (suc (suc zero)), low, e) = subst (λ w. slice_index w 0 ≢ 99) e (λ same. omega (arith, same))
other_letter word (suc (suc (suc (suc zero))), low, e) = subst (λ w. slice_index w 0 ≢ 99) e (λ same. omega (arith, same))
other_letter word (suc (suc (suc (suc (suc zero)))), low, e) = subst (λ w. slice_index w 0 ≢ 99) e (λ same. omega (arith, same))
other_letter word (suc (suc (suc (suc (suc (suc zero))))), low, e) = subst (λ w. slice_index w 0 ≢ 99) e (λ same. omega (arith, same))
other_letter word (suc (suc (suc (suc (suc (suc (suc zero)))))), low, e) = subst (λ w. slice_index w 0 ≢ 99) e (λ same. omega (arith, same))
other_letter word (suc (suc (suc (suc (suc (suc (suc (suc zero))))))), low, e) = subst (λ w. slice_index w 0 ≢ 99) e (λ same. omega (arith, same))
other_letter word (suc (suc (suc (suc (suc (suc (suc (suc (suc k)))))))), low, e) = absurd (omega (arith, low))

count_is_name : IsName (codes "count")
count_is_name = record {
  formed = (
    (omega arith, omega arith),
    All-from_recursion IsNameByte (codes "ount")
        (inl (omega arith, omega arith), (inl (omega arith, omega arith), (inl (omega arith, omega arith), (inl (omega arith, omega arith), tt)))),
  );
  short = omega arith;
  free = λ among. other_letter (codes "count") among refl;
}

few_words : (place : ℕ) → ¬ ((place < length (counts_of (tasks_of tree))) × (word_limit < sum (take (place + 1) (counts_of (tasks_of tree)))))
few_words zero broken = let many = broken.1 in omega (arith, many)
few_words (suc place) broken = let low = broken.0 in omega (arith, low)

tasks_kept : AreKept (task_rules tree)
tasks_kept = (
  λ place broken. elim broken [
    | inl none ↦ none.1 (omega arith, omega arith)
    | inr entry ↦ not_only (table task) (λ k d. ¬ IsTableOf task_keys d) (λ fails. fails (task, refl, task_known)) place entry
  ],
  (
    not_only task (λ k entry. (name : List ℕ) → ¬ IsNewName (map name_of (take k (task ∷ []))) entry name)
        (λ none. none (codes "count") (record { stated = refl; form = count_is_name; new = λ found. let low = found.1 in absurd (omega (arith, low)) })),
    (
      not_only task (λ k entry. start_words entry ≡ None) (λ none. cc none),
      (few_words, (not_only task (λ k entry. (form : _) → ¬ HasForm entry form) (λ none. none (linear 3 1) (refl, refl, refl)), tt)),
    ),
  ),
)

-- ---- those of its fault

abbrev fault_keys : List (List ℕ)
fault_keys = codes "unit" ∷ codes "from" ∷ codes "say" ∷ codes "storm" ∷ []

change_known : HasOnlyKeys item_keys change
change_known = All-from_recursion (Contains item_keys) (keys_of change)
    ((1, omega arith, refl), ((0, omega arith, refl), ((3, omega arith, refl), ((5, omega arith, refl), ((2, omega arith, refl), tt)))))

fault_known : HasOnlyKeys fault_keys fault
fault_known = All-from_recursion (Contains fault_keys) (keys_of fault) ((1, omega arith, refl), ((2, omega arith, refl), ((0, omega arith, refl), tt)))

saying : StandsAlone (codes "say") (codes "storm") AreItems fault
saying = record {
  value = _;
  there = refl;
  right = record {
    few = record { items = _; there = refl; enough = omega arith; few = omega arith };
    known = All-cons (IsTableOf item_keys) (table change) [] (change, refl, change_known) (All-nil (IsTableOf item_keys));
  };
  alone = refl;
}

faults_kept : AreKept (fault_rules (get_member (codes "fault") tree))
faults_kept = (
  λ place broken. elim broken [
    | inl none ↦ none.1 (record { items = _; there = refl; enough = omega arith; few = omega arith })
    | inr entry ↦ not_only (table fault) (λ k d. ¬ IsTableOf fault_keys d) (λ fails. fails (fault, refl, fault_known)) place entry
  ],
  (
    not_only fault (λ k entry. (unit_of entry ≡ None) ⊎ (from_of entry ≡ None)) (λ headless. elim headless [
      | inl none ↦ cc none
      | inr none ↦ cc none
    ]),
    (
      not_only fault (λ k entry. ¬ (StandsAlone (codes "say") (codes "storm") AreItems entry
          ⊎ StandsAlone (codes "storm") (codes "say") (IsTableOf (codes "number" ∷ codes "strays" ∷ [])) entry)) (λ fails. fails (inl saying)),
      (not_only fault (λ k entry. changes_of entry ≡ None) (λ none. cc none), (not_only fault (λ k entry. stated_storm entry ≡ None) (λ none. cc none), tt)),
    ),
  ),
)

-- ---- all rules

abbrev themes : List (List Rule)
themes =
    root_rules tree ∷ clock_rules (unwrap_or (units_of tree) 0) (get_member (codes "clock") tree)
    ∷ sensor_rules (get_member (codes "sensor") tree) ∷ task_rules tree
    ∷ table_rules (unwrap_or (version_of tree) 0) (unwrap_or (units_of tree) 0) (get_member (codes "table") tree)
    ∷ fault_rules (get_member (codes "fault") tree)
    ∷ (rule 31 (λ place. HoldsOf (tables_in (get_member (codes "table") tree)) place (λ table. shed_of table ≡ None)) ∷ []) ∷ []

sensors_kept : AreKept (sensor_rules None)
sensors_kept =
    (λ place broken. broken, (λ place found. absurd (none-some found.entry found.there), (λ place found. absurd (none-some found.entry found.there), tt)))

tables_kept : (version units : ℕ) → AreKept (table_rules version units None)
tables_kept version units =
    (λ place broken. broken, (λ place found. absurd (none-some found.entry found.there), (λ place found. absurd (none-some found.entry found.there), tt)))

lawful : IsLawful tree
lawful = kept_joined themes
    (root_kept, (tt, (sensors_kept, (tasks_kept, (tables_kept 1 5, (faults_kept, ((λ place found. absurd (none-some found.entry found.there), tt), tt)))))))

-- ---- the mission

allowed : AreAllowed mission.program.tasks
allowed zero tree there = subst (λ (t : TaskTree). (task_length t ≤ code_limit) × (task_steps t ≤ steps_left [])) (same_Some _ _ there) (omega arith, omega arith)
allowed (suc t) tree there = absurd (none-some tree there)

program : IsProgramOf (sensor_names tree) (tasks_of tree) mission.program
program = record {
  starts = refl;
  forms = linear 3 1 ∷ [];
  stated = one_matched (λ place entry form. HasForm entry form) task (linear 3 1) (refl, refl, refl);
  trees = one_matched (λ place form tree. IsTreeOf (turn_of place (roll_for [] (task ∷ []))) form tree) (linear 3 1) _ refl;
  allowed = allowed;
}

stated : IsStated tree mission
stated = record {
  lawful = lawful;
  units = refl;
  frames = refl;
  period = refl;
  clock = refl;
  sensors = refl;
  names = refl;
  program = program;
  layout = refl;
  tables = refl;
  script = refl;
}

-- where its parts fit, the tree states it
is_mission : PartsFit mission → IsMission tree mission
is_mission fits = record {
  stated = stated;
  good_tables =
      let IsGood : _ = λ table. tables.IsGood table (shapes_in mission) in
      let first = (fits.tables.each 0 (omega arith)).good in
      let second = (fits.tables.each 1 (omega arith)).good in
      All-cons IsGood (table_at mission 0) (table_at mission 1 ∷ []) first (All-cons IsGood (table_at mission 1) [] second (All-nil IsGood));
  good_script = fits.script.good;
}

-- bytes with this tree state this mission alone, each flight of which tells of the fault
pub fault_is_stated : FaultIsWithinTheHeadline → OneMission → FaultIsStated
fault_is_stated within one = record {
  states = is_mission within.holds.fits;
  tells = λ bytes other strays fl version parsed states round.
      let same : tree ≡ states.0 = same_Some _ _ (sym parsed ∙ states.1.1) in
      let there = subst (λ document. IsMission document mission) same (is_mission within.holds.fits) in
      let equal : other ≡ mission = one states.0 other mission states.2 there in
      subst (λ (d : MissionData). TellsOfTheFault (sheet_of (flown d) fl version)) (sym equal)
      (within.holds.tells strays fl version (subst (λ (d : MissionData). IsRound (flown d) strays fl) equal round));
}
