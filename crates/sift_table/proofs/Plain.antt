-- The plain table meets the rules.
use Rattle.std.proofs.Common.{◌≡◌, ℕ, ◌+◌, ◌*◌, ◌<◌, ◌≤◌, [], length, get_or, false, arith}
use Rattle.std.proofs.lemmas.List.FromFn.{get_or-map-range_with_len, length-map-range_with_len, length-range_with_len}
use Rattle.std.specs.List.{All, range_with_len}
use Rattle.sift_base.specs.Requirement.{AreMet}
use Rattle.sift_base.specs.Shapes.{AllShapes, AreShapes, shape_at}
use Rattle.sift_base.specs.Units.{IsAscending}
use Rattle.sift_base.specs.laws.Ranges.{range-ascends, range-below}
use Rattle.sift_table.specs.Laws.{PlainTablesAreGood}
use Rattle.sift_table.specs.Rules.{ReadsPolledWords, SharesNoPosition, rules_where}
use Rattle.sift_table.specs.Schedule.{plain_of, polled_in, positions_of, run_in}

module _ (size period tasks t : ℕ) (there : t < tasks) where
  -- when a task of the plain table runs
  plain_run : run_in (plain_of size period tasks) t ≡ 4 + 2 * t
  plain_run = get_or-map-range_with_len (λ k. 4 + 2 * k) 0 tasks t t 0 there (omega arith)

  -- when it is polled
  plain_poll : polled_in (plain_of size period tasks) t ≡ 4 + 2 * t + 2
  plain_poll = get_or-map-range_with_len (λ k. 4 + 2 * k + 2) 0 tasks t t 0 there (omega arith)

  -- where it runs
  plain_positions : positions_of (plain_of size period tasks) t ≡ range_with_len 0 size
  plain_positions = get_or-map-range_with_len (λ k. range_with_len 0 size) 0 tasks t t [] there (omega arith)

-- each row of the plain table meets the rules of a row
plain_row : (size period : ℕ) (shapes : AllShapes) (t : ℕ) → 3 ≤ size → AreShapes shapes → 4 + 2 * length shapes.tasks + 6 ≤ period
    → t < length shapes.tasks → AreMet (rules_where false (plain_of size period (length shapes.tasks)) shapes t)
plain_row size period shapes t enough sound long there =
    let tasks = length shapes.tasks in
    let table = plain_of size period tasks in
    let run = plain_run size period tasks t there in
    let poll = plain_poll size period tasks t there in
    let at = plain_positions size period tasks t there in
    let few : 3 ≤ length (positions_of table t) = rw at (rw (length-range_with_len 0 size) enough) in
    let inside : All (λ p. p < size) (positions_of table t) = rw at (range-below size) in
    let ascend : IsAscending (positions_of table t) = rw at (range-ascends 0 size) in
    let reads : ReadsPolledWords table shapes t = λ k d low kept.
    let needed = get_or (shape_at shapes t).needs k d in
    let earlier : needed < t = sound.earlier t there k d low in
    omega (arith, run, plain_poll size period tasks needed (omega (arith, there, earlier)), earlier) in
    let apart : SharesNoPosition table t = λ earlier before kept same.
    absurd (omega (arith, run, same, plain_run size period tasks earlier (omega (arith, there, before)))) in
    (omega (arith, run), (omega (arith, poll), (omega (arith, run, poll), (few, (inside, (ascend, (reads, (apart, tt))))))))

-- the plain table is good in a frame that is long enough to poll its last task by the reports
pub plain_tables_are_good : PlainTablesAreGood
plain_tables_are_good size period shapes enough sound long =
    let tasks = length shapes.tasks in
    record {
      whole = (
        (
          length-map-range_with_len (λ k. 4 + 2 * k) 0 tasks,
          length-map-range_with_len (λ k. 4 + 2 * k + 2) 0 tasks,
          length-map-range_with_len (λ k. range_with_len 0 size) 0 tasks,
        ),
        ((tt, λ k d low. absurd (omega arith)), tt),
      );
      rows = λ t there. plain_row size period shapes t enough sound long there;
    }
