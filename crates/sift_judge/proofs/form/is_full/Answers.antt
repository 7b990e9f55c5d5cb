use Rattle.sift_mission.specs.declared.mission.MissionParts.{MissionParts}
use Rattle.sift_judge.proofs.Deciding.{no_since}
use Rattle.std.proofs.Common.{◌∙◌, ap, eq-eqb, eqb-true, sym}
use Rattle.sift_judge.proofs.form.is_full.Goals as goal

pub returns-then-inputs-from : goal.returns-then-inputs-from
returns-then-inputs-from c =
    let sensors = c.from.ensures ∙ ap (λ (p : MissionParts). p.layout.sensors) c.parts.ensures.same in
    let words = c.from-then-inputs-from.ensures ∙ ap (λ (p : MissionParts). p.layout.words) c.parts.ensures.same in (
      (λ t. (
        c.are_units_of.ensures.0 c.if-are_units_of.true,
        c.are_units_of-then-are_units_of.ensures.0 c.if-are_units_of-2.true,
        c.if-inputs-from.true ∙ sensors,
        eqb-true c.args.outputs c.from-then-inputs-from.result t ∙ words,
      )),
      (λ all. eq-eqb c.args.outputs c.from-then-inputs-from.result (all.3 ∙ sym words)),
    )

pub returns-else-inputs-from : goal.returns-else-inputs-from
returns-else-inputs-from c =
    let sensors = c.from.ensures ∙ ap (λ (p : MissionParts). p.layout.sensors) c.parts.ensures.same in (
      (λ t. absurd (c.if-inputs-from.false (eqb-true c.args.inputs c.from.result t))),
      (λ all. eq-eqb c.args.inputs c.from.result (all.2 ∙ sym sensors)),
    )

pub returns-else-are_units_of : goal.returns-else-are_units_of
returns-else-are_units_of c =
    no_since c.are_units_of.result _ _ c.if-are_units_of.false c.are_units_of.ensures (λ all. all.0)

pub returns-else-are_units_of-2 : goal.returns-else-are_units_of-2
returns-else-are_units_of-2 c =
    no_since c.are_units_of-then-are_units_of.result _ _ c.if-are_units_of-2.false c.are_units_of-then-are_units_of.ensures (λ all. all.1)
