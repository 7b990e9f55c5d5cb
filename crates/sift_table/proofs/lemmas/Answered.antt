-- A table meets all rules, or one is the first that it breaks.
use Rattle.std.proofs.Common.{◌≡◌, ◌≤◌, ◌<◌, ◌+◌, inl, inr, ℕ, Bool, true, false, not, List, All, length, refl}
use Rattle.std.proofs.lemmas.Bool.Decides.{Decides-like}
use Rattle.std.specs.List.{list_all}
use Rattle.sift_base.specs.Shapes.{AllShapes, shape_at}
use Rattle.sift_base.specs.Units.{has}
use Rattle.sift_base.specs.laws.Requirements.{AreTested, entries_met, met_or_broken}
use Rattle.sift_base.specs.laws.Tests.{Test, ascends, at_most, both, decided, each, each_below, is_empty, is_false, less, same, where_so}
use Rattle.sift_table.specs.Laws.{TablesAreAnswered}
use Rattle.sift_table.specs.Rules.{AreApart, ReadsPolledWords, SharesNoPosition, least_executors, report_lead, row_rules, rules_where, table_rules}
use Rattle.sift_table.specs.Schedule.{Schedule, agreed_in, hearing_delay, polled_in, positions_of, run_in}
use Rattle.sift_table.proofs.Apart.{all_from_apart, apart_from_all}

-- whether lists are apart
apart : (some others : List ℕ) → Test (AreApart some others)
apart some others = (list_all (λ p. not (has others p)) some, (apart_from_all some others, all_from_apart some others))

-- whether a table meets each rule that is for the whole of it
whole_tested : (table : Schedule) (shapes : AllShapes) → AreTested (table_rules table shapes)
whole_tested table shapes =
    let tasks = length shapes.tasks in
    let lengths = both (same (length table.run) tasks) (both (same (length table.poll) tasks) (same (length table.at) tasks)) in (
      decided (lengths.0, Decides-like lengths.0 (λ h. (h.0, h.1.0, h.1.1)) (λ h. (h.0, (h.1, h.2))) lengths.1),
      (decided (both (ascends table.shed) (each (λ t. t < tasks) (λ t. less t tasks) table.shed)), tt),
    )

module _ (table : Schedule) (shapes : AllShapes) (row : ℕ) where
  -- whether what the task reads is polled
  reads : Test (ReadsPolledWords table shapes row)
  reads =
      each (λ needed. has table.shed needed ≡ false → polled_in table needed ≤ run_in table row)
      (λ needed. where_so (is_false (has table.shed needed)) (at_most (polled_in table needed) (run_in table row))) (shape_at shapes row).needs

  -- whether an earlier task shares a position
  shares : Test (SharesNoPosition table row)
  shares =
      each_below (λ earlier. has table.shed earlier ≡ false → run_in table earlier ≡ run_in table row → AreApart (positions_of table earlier) (positions_of table row))
      (λ earlier. where_so (is_false (has table.shed earlier))
      (where_so (same (run_in table earlier) (run_in table row)) (apart (positions_of table earlier) (positions_of table row)))) row

  -- whether it meets each rule of a row, of a task that is shed or runs
  row_tested : (is_shed : Bool) → AreTested (rules_where is_shed table shapes row)
  row_tested true =
      let left = both (same (run_in table row) 0) (both (same (polled_in table row) 0) (is_empty (positions_of table row))) in
      (decided (left.0, Decides-like left.0 (λ h. (h.0, h.1.0, h.1.1)) (λ h. (h.0, (h.1, h.2))) left.1), tt)
  row_tested false =
      let ps = positions_of table row in
      let inside : Test (All (λ p. p < table.size) ps) = each (λ p. p < table.size) (λ p. less p table.size) ps in
      let late = decided (at_most agreed_in (run_in table row)) in
      let early = decided (at_most (polled_in table row + report_lead) table.period) in
      let after = decided (at_most (run_in table row + hearing_delay) (polled_in table row)) in
      let enough = decided (at_most least_executors (length ps)) in
      (late, (early, (after, (enough, (decided inside, (decided (ascends ps), (decided reads, (decided shares, tt))))))))

-- a table meets all rules for given tasks, or one is the first that it breaks, in a first row
pub tables_are_answered : TablesAreAnswered
tables_are_answered table shapes = elim (met_or_broken (table_rules table shapes) (whole_tested table shapes)) [
  | inr broken ↦ inr (broken.0, 0, inl (broken.1, refl))
  | inl whole ↦ elim (entries_met (row_rules table shapes) (length shapes.tasks) (λ row. row_tested table shapes row (has table.shed row))) [
    | inl rows ↦ inl (record { whole = whole; rows = rows })
    | inr bad ↦ inr (bad.0, bad.1, inr (whole, bad.2))
  ]
]
