use Rattle.std.proofs.Common.{subst}
use Rattle.sift_row.specs.Row.{AreOne}
use Rattle.sift_jobs.specs.Plan.{PlanGives, PlanNumbers}
use Rattle.sift_jobs.proofs.Planned.{one_reply, own}
use Rattle.sift_jobs.proofs.plan.PlanJobCommand.keeps_its_row.Goals as goal

pub returns : goal.returns
returns g c = λ means. record {
  own = own;
  one = λ job other same bytes mission states calm.
      subst (λ (it : PlanNumbers). AreOne (PlanGives job mission) (PlanGives it mission)) same
      (λ came there. one_reply c.stated_missions_fit.ensures c.sound_programs_have_shapes.ensures
      c.one_plan_each.ensures c.one_size_without_room.ensures job bytes mission came there states);
}
