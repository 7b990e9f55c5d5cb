use Rattle.std.proofs.Common.{◌≡◌}
use Rattle.sift_base.specs.Shapes.{shapes_of}
use Rattle.sift_planner.specs.Drafts.{IsKept, drafted}
use Rattle.sift_planner.specs.Plans.{IsPlanned, executors_of, wanted}
use Rattle.sift_planner.proofs.planning.plan.Given as goal

-- the draft is planned for the tasks so far
abbrev pub invariant-loop-t : goal.invariant-loop-t
invariant-loop-t l =
    IsKept l.draft × (l.draft.executors ≡ executors_of (wanted l.size l.period l.copies))
    × IsPlanned (shapes_of l.shapes) (wanted l.size l.period l.copies) l.t (drafted l.draft)
