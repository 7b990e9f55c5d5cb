use Rattle.std.proofs.Common.{get_or, ap, ◌∙◌, arith}
use Rattle.std.proofs.lemmas.Grind.{common_steps}
use Rattle.sift_flight.proofs.Listed.{has_place, place_told, place_account}
use Rattle.sift_flight.proofs.flight.account_at.Goals as goal

pub index-requires-2 : goal.index-requires-2
index-requires-2 c =
    let at = c.index.ensures ∙ ap (λ u. get_or c.args.flight.now.accounts.items u c.index.result.now) (c.from.ensures ∙ c.get.ensures.number) in
    let there = has_place c.args.mission.now c.a_mission_flies.ensures.flyable c.args.flight.now c.args.u c.args.f
    c.requires.whole c.requires.works c.requires.frame c.index.result.now at in
    omega (arith, c.index.result.now.ok)

pub returns-clause-told : goal.returns-clause-told
returns-clause-told c =
    let at = c.index.ensures ∙ ap (λ u. get_or c.args.flight.now.accounts.items u c.index.result.now) (c.from.ensures ∙ c.get.ensures.number) in
    place_told c.args.mission.now c.a_mission_flies.ensures.flyable c.args.flight.now c.args.u c.args.f
    c.requires.whole c.requires.works c.requires.frame c.index.result.now at c.index-2.result.now c.index-2.ensures

pub returns-clause-account : goal.returns-clause-account
returns-clause-account c =
    let at = c.index.ensures ∙ ap (λ u. get_or c.args.flight.now.accounts.items u c.index.result.now) (c.from.ensures ∙ c.get.ensures.number) in
    place_account c.args.mission.now c.a_mission_flies.ensures.flyable c.args.flight.now c.args.u c.args.f
    c.requires.whole c.requires.works c.requires.frame c.index.result.now at c.index-2.result.now c.index-2.ensures

pub index-requires : goal.index-requires
index-requires c = grind (arith, common_steps)
