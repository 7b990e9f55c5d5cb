-- `plan` gives one reply, whose status is its own.
use Rattle.std.proofs.Common.{◌≡◌, ◌≤◌, inl, inr, ℕ, List, [], ◌∷◌, Contains, lit<, refl, sym, ap, ◌∙◌, subst, arith}
use Rattle.sift_base.specs.Shapes.{AreShapes}
use Rattle.sift_load.specs.Loads.{States}
use Rattle.sift_mission.specs.Data.{MissionData, shapes_in}
use Rattle.sift_mission.specs.PartsFit.{PartsFit}
use Rattle.sift_planner.specs.Plans.{ArePlannable}
use Rattle.sift_planner.specs.Sizes.{OnePlanEach, OneSizeWithoutRoom}
use Rattle.sift_planner.specs.Text.{tables_text}
use Rattle.sift_program.specs.Program.{SoundProgramsHaveShapes}
use Rattle.sift_reply.specs.Reply.{Reply, done, done_status, shared_statuses}
use Rattle.sift_scenario.specs.Laws.{StatedMissionsFit}
use Rattle.sift_jobs.specs.Plan.{PlanGives, PlanNumbers, no_room}

-- tasks of a mission can be planned
pub plannable : SoundProgramsHaveShapes → (d : MissionData) → PartsFit d → ArePlannable (shapes_in d)
plannable shapes d fit =
    let few : d.layout.sensors ≤ 8 = omega (arith, fit.layout.sensors, fit.limits.few_sensors) in
    let are : AreShapes (shapes_in d) = shapes d.layout.sensors d.program few fit.program in
    record { few_tasks = are.few_tasks; earlier = are.earlier }

module _ (fit : StatedMissionsFit) (shapes : SoundProgramsHaveShapes) (one_each : OnePlanEach) (one_refusal : OneSizeWithoutRoom) where
  -- a mission that a document states gets one reply
  pub one_reply : (job : PlanNumbers) (bytes : List ℕ) (d : MissionData) (one other : Reply) → States bytes d → PlanGives job d one → PlanGives job d other → one ≡ other
  one_reply job bytes d one other (document, reads, states) (inl (tables, plans, is)) (inl (tables', plans', is')) =
      let can = plannable shapes d (fit document d states) in
      let same = one_each (shapes_in d) d.units job.period job.copies tables tables' can plans plans' in
      is ∙ (ap (λ ts. done (tables_text ts)) same ∙ sym is')
  one_reply job bytes d one other (document, reads, states) (inl (tables, plans, is)) (inr (none, without, is')) =
      let can = plannable shapes d (fit document d states) in
      absurd ((one_refusal (shapes_in d) d.units job.period job.copies none can without).0 tables plans)
  one_reply job bytes d one other (document, reads, states) (inr (none, without, is)) (inl (tables, plans, is')) =
      let can = plannable shapes d (fit document d states) in
      absurd ((one_refusal (shapes_in d) d.units job.period job.copies none can without).0 tables plans)
  one_reply job bytes d one other (document, reads, states) (inr (none, without, is)) (inr (none', without', is')) =
      let can = plannable shapes d (fit document d states) in
      let same = (one_refusal (shapes_in d) d.units job.period job.copies none' can without').1 none without in
      is ∙ ((λ i. no_room (record { size = same.0 i; task = same.1 i })) ∙ sym is')

-- its status is 0 or 14
pub own :
    (job : PlanNumbers) (d : MissionData) (came : Reply) → PlanGives job d came
    → Contains (done_status ∷ 14 ∷ []) came.status × ¬ Contains shared_statuses came.status
own job d came (inl (tables, plans, is)) = subst
    (λ (r : Reply). Contains (done_status ∷ 14 ∷ []) r.status × ¬ Contains shared_statuses r.status) (sym is) ((0, lit< tt, refl), grind arith)
own job d came (inr (none, without, is)) = subst
    (λ (r : Reply). Contains (done_status ∷ 14 ∷ []) r.status × ¬ Contains shared_statuses r.status) (sym is) ((1, lit< tt, refl), grind arith)
