use Rattle.std.proofs.Common.{◌≡◌, false, true, suc, ◌∙◌, sym, subst, add-one, refl, arith}
use Rattle.std.proofs.lemmas.Bool.{and_from}
use Rattle.sift_mission.specs.Parts.{flown_of}
use Rattle.sift_flight.specs.Figures.{is_sound_at, margin_before}
use Rattle.sift_flight.specs.Told.{told}
use Rattle.sift_flight.proofs.Telling.{margin_is_told, stays_lost}
use Rattle.sift_flight.proofs.figures.margin_at.Goals as goal

pub returns-then-not-is_sound_at-clause-told : goal.returns-then-not-is_sound_at-clause-told
returns-then-not-is_sound_at-clause-told c =
    let m = flown_of c.args.mission.now in
    let fl = told m c.args.flight.now in
    let lost : is_sound_at m fl c.loop-g.g ≡ false = sym c.is_sound_at.ensures ∙ c.if-not-is_sound_at.true in
    let here : margin_before m fl (suc c.loop-g.g) ≡ false = rw (lost, c.loop-g.invariant) refl in
    sym (stays_lost m fl (suc c.loop-g.g) (suc c.args.f) (omega arith) here)

pub returns-then-not-is_sound_at-clause-margin : goal.returns-then-not-is_sound_at-clause-margin
returns-then-not-is_sound_at-clause-margin c =
    let m = flown_of c.args.mission.now in
    let fl = told m c.args.flight.now in
    let same = returns-then-not-is_sound_at-clause-told c in
    let law = margin_is_told m fl c.args.f in
    ((λ t. law.0 (sym same ∙ t)), (λ has. same ∙ law.1 has))

pub loop-g-preserved : goal.loop-g-preserved
loop-g-preserved c = rw (add-one c.loop-g.g) (and_from _ _ c.loop-g.invariant (sym c.is_sound_at.ensures ∙ c.if-not-is_sound_at.false))

pub returns-clause-told : goal.returns-clause-told
returns-clause-told c =
    let m = flown_of c.args.mission.now in
    let fl = told m c.args.flight.now in
    let end : c.loop-g.g ≡ c.args.f = omega arith in
    let before : margin_before m fl c.args.f ≡ true = subst (λ g. margin_before m fl g ≡ true) end c.loop-g.invariant in
    rw before c.is_sound_at-2.ensures

pub returns-clause-margin : goal.returns-clause-margin
returns-clause-margin c =
    let m = flown_of c.args.mission.now in
    let fl = told m c.args.flight.now in
    let same = returns-clause-told c in
    let law = margin_is_told m fl c.args.f in
    ((λ t. law.0 (sym same ∙ t)), (λ has. same ∙ law.1 has))
