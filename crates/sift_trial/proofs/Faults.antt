-- The fault of a drawn document: what its table says, and the rules that it keeps.
use Rattle.std.proofs.Common.{◌≡◌, ◌<◌, ◌≤◌, ℕ, List, [], ◌∷◌, Some, None, inl, inr, refl, arith}
use Rattle.std.proofs.lemmas.List.Elements.{All-cons, All-from_recursion, All-nil}
use Rattle.std.specs.List.{Contains}
use Rattle.std.specs.Prelude.{codes, ◌⊎◌}
use Rattle.toml.specs.Data.{Data, Members, table}
use Rattle.sift_base.specs.Draw.{draw_at}
use Rattle.sift_base.specs.Word.{word_count}
use Rattle.sift_gen.specs.Scenario.{array_of, fault_item, fault_table}
use Rattle.sift_script.specs.Script.{Change, Fault, changing}
use Rattle.sift_script.specs.declared.script.SlotKind.TheVariants.{Out}
use Rattle.sift_document.specs.Document.{HasOnlyKeys, IsTableOf, keys_of, members_of}
use Rattle.sift_document.specs.Rules.{AreKept}
use Rattle.sift_sections.specs.Fault.{AreItems, StandsAlone, changes_of, fault_in, fault_rules, from_of, stated_storm, unit_of}
use Rattle.sift_sections.specs.Item.{change_in, item_keys}
use Rattle.sift_trial.proofs.Digits.{other_units, others_read}
use Rattle.sift_trial.proofs.Tables.{not_only}
use Rattle.sift_trial.proofs.Values.{draw_below, number_read, word_read}

-- the keys that a fault may have
abbrev fault_keys : List (List ℕ)
fault_keys = codes "unit" ∷ codes "from" ∷ codes "say" ∷ codes "storm" ∷ []

-- what an item of a task's word states
abbrev pub drawn_change : (units unit task value : ℕ) → Change
drawn_change units unit task value = record { kind = Out; index = task; word = 0; to = other_units units unit; frame = None; value = Some value }

-- the fault of one such item
abbrev pub drawn_fault : (units unit from task value : ℕ) → Fault
drawn_fault units unit from task value = record { unit = unit; from = from; plan = changing (drawn_change units unit task value ∷ []) }

module _
    (units frames tasks x : ℕ) (enough : 5 ≤ units) (few : units ≤ 8) (some_frames : 20 ≤ frames) (few_frames : frames ≤ 200)
    (some_task : 1 ≤ tasks) (few_tasks : tasks ≤ 12) where
  -- the unit, its first frame, the task and the wrong value
  abbrev unit : ℕ
  unit = draw_at x 0 units

  abbrev from : ℕ
  from = draw_at x 1 frames

  abbrev task : ℕ
  task = draw_at x 2 tasks

  abbrev value : ℕ
  value = draw_at x 3 word_count

  -- its unit is one of the mission
  pub unit_there : unit < units
  unit_there = draw_below x 0 units (omega (arith, enough))

  -- so is the frame from which on it stands
  pub early : from < frames
  early = draw_below x 1 frames (omega (arith, some_frames))

  -- and the task of its item
  pub among : task < tasks
  among = draw_below x 2 tasks (omega (arith, some_task))

  -- the entries of the item, and those of the fault
  abbrev item : Members
  item = members_of (fault_item units unit task value)

  abbrev entries : Members
  entries = members_of (fault_table units frames tasks x)

  -- the value of `fault`
  abbrev pub faults_value : Data
  faults_value = array_of (fault_table units frames tasks x ∷ [])

  -- ---- what is stated

  change_stated : change_in item ≡ Some (drawn_change units unit task value)
  change_stated = rw (number_read 0 63 task (omega arith) (omega (arith, among, few_tasks)), others_read units unit enough few, word_read value (draw_below x 3 word_count (omega arith))) refl

  unit_stated : unit_of entries ≡ Some unit
  unit_stated = number_read 0 7 unit (omega arith) (omega (arith, unit_there, few))

  from_stated : from_of entries ≡ Some from
  from_stated = number_read 0 999 from (omega arith) (omega (arith, early, few_frames))

  changes_stated : changes_of entries ≡ Some (drawn_change units unit task value ∷ [])
  changes_stated = rw change_stated refl

  -- the entries state the fault that was drawn, with its one item
  pub fault_stated : fault_in entries ≡ drawn_fault units unit from task value
  fault_stated = rw (unit_stated, from_stated, changes_stated) refl

  -- ---- the rules

  item_known : HasOnlyKeys item_keys item
  item_known = All-from_recursion (Contains item_keys) (keys_of item)
      ((1, omega arith, refl), ((0, omega arith, refl), ((3, omega arith, refl), ((5, omega arith, refl), ((2, omega arith, refl), tt)))))

  fault_known : HasOnlyKeys fault_keys entries
  fault_known = All-from_recursion (Contains fault_keys) (keys_of entries) ((1, omega arith, refl), ((2, omega arith, refl), ((0, omega arith, refl), tt)))

  saying : StandsAlone (codes "say") (codes "storm") AreItems entries
  saying = record {
    value = array_of (fault_item units unit task value ∷ []);
    there = refl;
    right = record {
      few = record { items = _; there = refl; enough = omega arith; few = omega arith };
      known = All-cons (IsTableOf item_keys) (fault_item units unit task value) [] (item, refl, item_known) (All-nil (IsTableOf item_keys));
    };
    alone = refl;
  }

  -- the one fault keeps the rules of faults
  pub faults_kept : AreKept (fault_rules (Some faults_value))
  faults_kept = (
    λ place broken. elim broken [
      | inl none ↦ none.1 (record { items = _; there = refl; enough = omega arith; few = omega arith })
      | inr entry ↦ not_only (table entries) (λ k d. ¬ IsTableOf fault_keys d) (λ fails. fails (entries, refl, fault_known)) place entry
    ],
    (
      not_only entries (λ k fault. (unit_of fault ≡ None) ⊎ (from_of fault ≡ None)) (λ headless. elim headless [
        | inl none ↦ cc (unit_stated, none)
        | inr none ↦ cc (from_stated, none)
      ]),
      (
        not_only entries (λ k fault. ¬ (StandsAlone (codes "say") (codes "storm") AreItems fault
            ⊎ StandsAlone (codes "storm") (codes "say") (IsTableOf (codes "number" ∷ codes "strays" ∷ [])) fault)) (λ fails. fails (inl saying)),
        (
          not_only entries (λ k fault. changes_of fault ≡ None) (λ none. cc (changes_stated, none)),
          (not_only entries (λ k fault. stated_storm fault ≡ None) (λ none. cc), tt),
        ),
      ),
    ),
  )
