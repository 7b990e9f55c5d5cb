use Rattle.std.proofs.lemmas.Result.{IfOk-weaker}
use Rattle.toml.specs.View.{table_view}
use Rattle.sift_byz.specs.Plan.{byz_plan_of}
use Rattle.sift_byz.proofs.Answered.{complete_of, exact_of, stated_byz_plans_are_lawful}
use Rattle.sift_byz.proofs.reading.read_byz.Goals as goal

pub returns-clause-within : goal.returns-clause-within
returns-clause-within c =
    IfOk-weaker c.read_plan.result _ _ (λ plan stated. (stated_byz_plans_are_lawful (table_view c.args.document.now) (byz_plan_of plan) stated).0) c.read_plan.ensures.accepted

pub returns-clause-few : goal.returns-clause-few
returns-clause-few c =
    IfOk-weaker c.read_plan.result _ _ (λ plan stated. (stated_byz_plans_are_lawful (table_view c.args.document.now) (byz_plan_of plan) stated).1) c.read_plan.ensures.accepted

pub returns-clause-complete : goal.returns-clause-complete
returns-clause-complete c = complete_of (table_view c.args.document.now) c.read_plan.result c.read_plan.ensures.refused

pub returns-clause-exact : goal.returns-clause-exact
returns-clause-exact c =
    exact_of (table_view c.args.document.now) byz_plan_of c.read_plan.result c.read_plan.ensures.accepted c.read_plan.ensures.refused
