-- The tables of a mission whose parts fit: when slots are said and heard, and by whom.
use Rattle.std.proofs.Common.{◌≡◌, ℕ, ◌+◌, ◌-◌, ◌<◌, ◌≤◌, List, length, get_or, true, false, inl, inr, refl, ap, sym, ◌∙◌, subst, arith, count_by}
use Rattle.std.specs.List.{range_with_len}
use Rattle.std.proofs.lemmas.Bool.{and_parts, cases_Bool, true≢false}
use Rattle.std.proofs.lemmas.List.{get_or_default}
use Rattle.sift_base.specs.Layout.{least_units}
use Rattle.sift_base.specs.Requirement.{AreMet}
use Rattle.sift_base.specs.Shapes.{words_in}
use Rattle.sift_base.specs.declared.slots.Slot.{Slot}
use Rattle.sift_base.specs.declared.slots.Slot.TheVariants.{Clock, Sense, RelaySense, Out, Report, RelayReport}
use Rattle.sift_base.specs.Units.{has}
use Rattle.sift_base.specs.laws.Ranges.{range-has}
use Rattle.sift_table.specs.Laws.{SlotsAreHeardInTime, TasksHaveThreeExecutors}
use Rattle.sift_table.specs.Rules.{row_rules, rules_where}
use Rattle.sift_table.specs.Schedule.{Schedule, positions_of}
use Rattle.sift_table.specs.Timing.{due_in, heard_in, is_shed, task_of}
use Rattle.sift_program.specs.laws.ShapeLists.{length-shapes, words-shapes}
use Rattle.sift_mission.specs.Data.{IsConfigOf, MissionData, shapes_in}
use Rattle.sift_mission.specs.Fits.{IsTimed, HasExecutors, is_caught_in}
use Rattle.sift_mission.specs.Flown.{flown, position_in, runs_in, table_for}
use Rattle.sift_mission.specs.PartsFit.{IsTableFor, PartsFit, table_at}
use Rattle.sift_mission.specs.Timetable.{HasRowsFor}
use Rattle.sift_mission.specs.Slots.{is_held, is_silent, is_slot}
use Rattle.sift_mission.proofs.FitSlots.{is-slot}
use Rattle.sift_mission.proofs.Positions.{length-ascending, positions-filtered}
use Rattle.sift_mission.proofs.Tasks.{among-below}

module _ (d : MissionData) (fit : PartsFit d) where
  -- a configuration of the mission has no more units than the mission
  pub size-low : (us : List ℕ) → IsConfigOf (flown d) us → length us ≤ d.units
  size-low us config =
      omega (arith, length-ascending us 0 d.units config.ascending (omega arith) (λ u there. (omega arith, omega (arith, (range-has 0 d.units u (config.inside u there)).1))))

  -- there is a table for its size
  pub table-low : (us : List ℕ) → IsConfigOf (flown d) us → length us - least_units < length d.tables
  table-low us config =
      let count = fit.tables.count in let enough = config.enough in let few = size-low us config in omega arith

  -- its table is one for its size
  pub table-is : (us : List ℕ) → IsConfigOf (flown d) us → IsTableFor d (length us) (table_for d us)
  table-is us config =
      let enough = config.enough in
      let size : least_units + (length us - least_units) ≡ length us = omega arith in
      subst (λ n. IsTableFor d n (table_for d us)) size (fit.tables.each (length us - least_units) (table-low us config))

  -- a table that stands at a place is the one there; it has a row for each task, and the subframes of the mission
  pub table-placed : (i : ℕ) (table : Schedule) → i < length d.tables → table ≡ get_or d.tables i table → table_at d i ≡ table
  table-placed i table low is = get_or_default d.tables i _ table low ∙ sym is

  -- a table that stands at a place has a row for each task
  pub placed-rows : (i : ℕ) (table : Schedule) → i < length d.tables → table ≡ get_or d.tables i table → length table.run ≡ length d.program.tasks
  placed-rows i table low is =
      ap (λ (t : Schedule). length t.run) (sym (table-placed i table low is))
      ∙ ((fit.tables.each i low).good.whole.0.0 ∙ length-shapes d.program.tasks 0 d.program.tasks)

  -- a table that stands at a place has a row for each task, and as many subframes as the mission
  pub placed-has-rows : (i : ℕ) (table : Schedule) → i < length d.tables → table ≡ get_or d.tables i table → HasRowsFor d table
  placed-has-rows i table low is = record {
    rows = placed-rows i table low is;
    period = ap (λ (t : Schedule). t.period) (sym (table-placed i table low is)) ∙ (fit.tables.each i low).timed;
  }

  -- the shapes have the mission's words
  pub words-are : d.layout.words ≡ words_in (shapes_in d).tasks
  words-are = fit.layout.words ∙ sym (words-shapes d.program.tasks 0 d.program.tasks)

  -- each word's task has a shape
  pub task-below : (w : ℕ) → w < d.layout.words → task_of (shapes_in d).tasks w < length (shapes_in d).tasks
  task-below w low = let words = words-are in among-below (shapes_in d).tasks w (omega arith)

  -- a word's task meets the rules of the table's rows
  row-of : (us : List ℕ) (w : ℕ) → IsConfigOf (flown d) us → w < d.layout.words
      → AreMet (row_rules (table_for d us) (shapes_in d) (task_of (shapes_in d).tasks w))
  row-of us w config low = (table-is us config).good.rows (task_of (shapes_in d).tasks w) (task-below w low)

  -- the task of a word that isn't held meets the rules of tasks that run
  pub run-row : (us : List ℕ) (w : ℕ) → IsConfigOf (flown d) us → w < d.layout.words → is_held (flown d) us w ≡ false
      → AreMet (rules_where false (table_for d us) (shapes_in d) (task_of (shapes_in d).tasks w))
  run-row us w config low kept = rw kept at (row-of us w config low)

  module _ (in_time : SlotsAreHeardInTime) where
    -- a slot is silent just where its word is of a task that the table sheds
    is-shed : (us : List ℕ) (k : Slot) → is_silent (flown d) us k ≡ is_shed (table_for d us) (shapes_in d) k
    is-shed us Clock = refl
    is-shed us (Sense x) = refl
    is-shed us (RelaySense x) = refl
    is-shed us (Out w) = refl
    is-shed us Report = refl
    is-shed us (RelayReport s) = refl

    -- a slot's word is heard in time
    heard-in-time : (us : List ℕ) (k : Slot) → IsConfigOf (flown d) us → is_slot (flown d) k ≡ true
        → (is_silent (flown d) us k ≡ false → due_in (table_for d us) (shapes_in d) k + 2 ≤ heard_in (table_for d us) (shapes_in d) k)
        × (heard_in (table_for d us) (shapes_in d) k + 2 ≤ d.period)
    heard-in-time us k config there =
        let table = table-is us config in
        let long = fit.limits.long in
        let times = in_time (table_for d us) (shapes_in d) d.layout k table.good (omega (arith, table.timed)) words-are (is-slot d fit k there) in
        (λ said. times.0 (sym (is-shed us k) ∙ said), omega (arith, times.1, table.timed))

    -- what goes into a report is heard when it is said, or earlier
    caught-in-time : (us : List ℕ) (k : Slot) → IsConfigOf (flown d) us → is_slot (flown d) k ≡ true → is_caught_in k ≡ true
        → heard_in (table_for d us) (shapes_in d) k ≤ due_in (table_for d us) (shapes_in d) Report
    caught-in-time us Clock config there caught = let long = fit.limits.long in let table = table-is us config in omega (arith, table.timed)
    caught-in-time us (Sense x) config there caught = absurd cc
    caught-in-time us (RelaySense x) config there caught = let long = fit.limits.long in let table = table-is us config in omega (arith, table.timed)
    caught-in-time us (Out w) config there caught =
        let low = is-slot d fit (Out w) there in elim (cases_Bool (is_held (flown d) us w)) [
          | inl held ↦ let left = rw held at (row-of us w config low) in omega (arith, left.0.1)
          | inr kept ↦ let row = run-row us w config low kept in omega (arith, row.1.0)
        ]
    caught-in-time us Report config there caught = absurd cc
    caught-in-time us (RelayReport s) config there caught = absurd cc

    -- in a mission whose parts fit slots are heard in time, and no later than a word is said that wants them
    pub timed : IsTimed (flown d)
    timed = record {
      run = λ us w config low. refl;
      apart = λ us k config there. (heard-in-time us k config there).0;
      within = λ us k config there. (heard-in-time us k config there).1;
      relayed = λ us x config low. omega arith;
      agreed = λ us x w config low task kept. (run-row us w config task kept).0;
      caught = caught-in-time;
      reported = λ us s config there. omega arith;
    }

  -- each word that isn't held has three executors or more, all in the configuration, and one that is held has none
  pub executors : TasksHaveThreeExecutors → HasExecutors (flown d)
  executors laws = record {
    three = λ us w config low kept.
        let t = task_of (shapes_in d).tasks w in
        let table = table-is us config in
        let enough = (laws (table_for d us) (shapes_in d) t table.good (task-below w low)).0 kept in
        let runs = has (positions_of (table_for d us) t) in
        let sized : 3 ≤ count_by runs (range_with_len 0 (length us)) = subst (λ n. 3 ≤ count_by runs (range_with_len 0 n)) table.sized enough in
        omega (arith, positions-filtered runs us config.ascending, sized);
    none = λ us w u config low held.
        let t = task_of (shapes_in d).tasks w in elim (cases_Bool (runs_in d us t u)) [
          | inr idle ↦ idle
          | inl runs ↦
              let kept = ((laws (table_for d us) (shapes_in d) t (table-is us config).good (task-below w low)).1 (position_in us u) (and_parts _ _ runs).1).0 in
              absurd (true≢false (sym held ∙ kept))
        ];
  }
