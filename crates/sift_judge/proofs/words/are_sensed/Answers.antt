use Rattle.sift_judge.proofs.Lists.{one_told}
use Rattle.sift_judge.proofs.Deciding.{fails, no_where}
use Rattle.sift_report.specs.Told.{config_told, works_in}
use Rattle.sift_mission.specs.declared.mission.MissionParts.{MissionParts}
use Rattle.sift_mission.specs.Parts.{data_of}
use Rattle.sift_mission.specs.Flown.{word_sensed}
use Rattle.sift_config.specs.Config.{reader_of}
use Rattle.std.proofs.Common.{◌≡◌, ◌<◌, ◌≤◌, ◌∙◌, ℕ, List, Some, below_more, refl, slice_index, sym, subst, true, arith}
use Rattle.sift_judge.proofs.words.are_sensed.Goals as goal

pub is_sensed-requires-clause-sensor : goal.is_sensed-requires-clause-sensor
is_sensed-requires-clause-sensor c =
    subst (λ (p : MissionParts). c.loop-x.x < p.layout.sensors) c.parts.ensures.same c.loop-x-test.true

pub loop-x-preserved : goal.loop-x-preserved
loop-x-preserved c =
    let d = data_of c.args.mission.now in
    below_more (λ x. works_in d (reader_of c.in-Some.config x) c.args.f ≡ true → slice_index c.args.agreed.now x ≡ word_sensed d x c.args.f)
    c.loop-x.x c.loop-x.invariant (c.is_sensed.ensures.0 c.if-not-is_sensed.false)

pub returns-then-not-is_sensed : goal.returns-then-not-is_sensed
returns-then-not-is_sensed c =
    let told : config_told (data_of c.args.mission.now) c.args.lines.now c.args.f ≡ Some c.in-Some.config = sym c.config_told.ensures ∙ c.in-Some.is in
    let low = subst (λ (p : MissionParts). c.loop-x.x < p.layout.sensors) c.parts.ensures.same c.loop-x-test.true in
    no_where _ (λ all. fails c.is_sensed.result _ c.is_sensed.ensures c.if-not-is_sensed.true (all c.in-Some.config c.loop-x.x told low))

pub returns : goal.returns
returns c =
    let d = data_of c.args.mission.now in
    let f = c.args.f in
    let is : config_told d c.args.lines.now f ≡ Some c.in-Some.config = sym c.config_told.ensures ∙ c.in-Some.is in
    let seen = subst (λ (p : MissionParts). p.layout.sensors ≤ c.loop-x.x) c.parts.ensures.same c.loop-x-test.false in (
      (λ t us x told low. subst (λ (vs : List ℕ). works_in d (reader_of vs x) f ≡ true → slice_index c.args.agreed.now x ≡ word_sensed d x f)
          (one_told c.in-Some.config us _ is told) (c.loop-x.invariant x (omega (arith, low, seen)))),
      (λ all. refl),
    )

pub loop-x-init : goal.loop-x-init
loop-x-init c =
    λ x low. absurd (omega (arith, low))
