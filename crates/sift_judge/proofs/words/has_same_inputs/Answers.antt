use Rattle.sift_report.specs.Headline.{TellsSameInputs}
use Rattle.sift_judge.proofs.Deciding.{no_since}
use Rattle.std.proofs.Common.{◌≡◌, ◌∙◌, ◌<◌, ℕ, List, Some, slice_index, sym, subst, true}
use Rattle.std.specs.Prelude.{◌↔◌}
use Rattle.sift_config.specs.Config.{reader_of}
use Rattle.sift_mission.specs.Flown.{word_sensed}
use Rattle.sift_mission.specs.Parts.{data_of}
use Rattle.sift_report.specs.Told.{config_told, works_in, told_at}
use Rattle.sift_judge.proofs.EachWorking.{decides_each}
use Rattle.sift_judge.proofs.words.has_same_inputs.Goals as goal

pub returns-then-all_tell_inputs : goal.returns-then-all_tell_inputs
returns-then-all_tell_inputs c =
    let d = data_of c.args.mission.now in
    let f = c.args.f in
    let lines = c.args.lines.now in
    let is = c.agreed_told-agreed.ensures in
    let law = decides_each d f (λ u. (told_at d lines f u).inputs ≡ c.agreed_told-agreed.result.now) c.deref.result.now
    (c.deref.ensures.0 ∙ c.working_at.ensures) c.all_tell_inputs.result c.all_tell_inputs.ensures in
    let sensed = subst (λ (words : List ℕ). (c.are_sensed.result ≡ true) ↔ ((us : List ℕ) (x : ℕ) → config_told d lines f ≡ Some us → x < d.layout.sensors
    → works_in d (reader_of us x) f ≡ true → slice_index words x ≡ word_sensed d x f)) is c.are_sensed.ensures in (
      (λ t. record { same = λ u w. law.0 c.if-all_tell_inputs.true u w ∙ is; sensed = sensed.0 t }),
      (λ given. sensed.1 given.sensed),
    )

pub returns-else-all_tell_inputs : goal.returns-else-all_tell_inputs
returns-else-all_tell_inputs c =
    let d = data_of c.args.mission.now in
    let f = c.args.f in
    let law = decides_each d f (λ u. (told_at d c.args.lines.now f u).inputs ≡ c.agreed_told-agreed.result.now) c.deref.result.now
    (c.deref.ensures.0 ∙ c.working_at.ensures) c.all_tell_inputs.result c.all_tell_inputs.ensures in
    no_since c.all_tell_inputs.result _ _ c.if-all_tell_inputs.false law
    (λ (given : TellsSameInputs d c.args.lines.now f) u w. given.same u w ∙ sym c.agreed_told-agreed.ensures)
