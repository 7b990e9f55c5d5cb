use Rattle.std.proofs.Common.{◌≡◌, ◌-◌, map}
use Rattle.std.specs.List.{range_with_len}
use Rattle.sift_table.specs.Schedule.{plain_of, schedule_of}
use Rattle.sift_sections.proofs.table.all_plain.Given as goal

-- the plain tables of the sizes so far
abbrev pub invariant-loop-size : goal.invariant-loop-size
invariant-loop-size l = map schedule_of l.tables.items ≡ map (λ size. plain_of size l.period l.tasks) (range_with_len 4 (l.size - 4))
