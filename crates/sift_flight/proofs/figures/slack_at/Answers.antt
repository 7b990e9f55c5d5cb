use Rattle.std.proofs.Common.{◌≡◌, [], map, ◌∙◌, subst, ap, ℕ, ℤ, to_z, of_z, w32, arith}
use Rattle.std.proofs.lemmas.Int.{ints}
use Rattle.std.specs.Prelude.{MatchOption}
use Rattle.std.proofs.lemmas.Grind.{common_steps}
use Rattle.sift_skew.specs.Figures.{IsSlack}
use Rattle.sift_mission.specs.Parts.{flown_of}
use Rattle.sift_flight.specs.Figures.{next_offsets_at, offsets_at, working_at}
use Rattle.sift_flight.specs.Told.{told}
use Rattle.sift_flight.proofs.Telling.{slack_found, slack_of_units}
use Rattle.sift_flight.proofs.figures.slack_at.Goals as goal

-- the slack that is found is that of the offsets
found : (c : goal.After-slack) → let m = flown_of c.args.mission.now in
    let now = offsets_at m (told m c.args.flight.now) c.args.f in
    let next = next_offsets_at m (told m c.args.flight.now) c.args.f in MatchOption c.slack.result (now ≡ []) (IsSlack m.length now next)
found c =
    let m = flown_of c.args.mission.now in
    let clk : ℕ → ℤ = λ u. ((told m c.args.flight.now).account u c.args.f).clk in
    let next_clk : ℕ → ℤ = λ u. ((told m c.args.flight.now).account u c.args.f).next_clk in
    let now = c.deref-3.ensures.0 ∙ c.offsets_of-now.ensures.offsets ∙ ap (map clk) (c.deref.ensures.0 ∙ c.working_at-working.ensures.working) in
    let next = c.deref-4.ensures.0 ∙ c.next_offsets_of-next.ensures.offsets ∙ ap (map next_clk) (c.deref-2.ensures.0 ∙ c.working_at-working.ensures.working) in
    let length : to_z w32 (of_z w32 m.length) ≡ m.length = omega (arith, ints, c.parts.ensures.fit.clock.numbers.3) in
    let figure =
    subst (λ n. MatchOption c.slack.result (c.deref-3.result.now ≡ []) (IsSlack n c.deref-3.result.now c.deref-4.result.now)) length
    (rw c.parts.ensures.same at c.slack.ensures) in
    subst (λ os. MatchOption c.slack.result (os ≡ []) (IsSlack m.length os (next_offsets_at m (told m c.args.flight.now) c.args.f))) now
    (subst (λ os. MatchOption c.slack.result (c.deref-3.result.now ≡ []) (IsSlack m.length c.deref-3.result.now os)) next figure)

pub returns-clause-told : goal.returns-clause-told
returns-clause-told c =
    let m = flown_of c.args.mission.now in
    slack_found (λ u. ((told m c.args.flight.now).account u c.args.f).clk) (working_at m (told m c.args.flight.now) c.args.f) c.slack.result
    m.length (next_offsets_at m (told m c.args.flight.now) c.args.f) (found c)

pub returns-clause-slack : goal.returns-clause-slack
returns-clause-slack c =
    let m = flown_of c.args.mission.now in
    slack_of_units (λ u. ((told m c.args.flight.now).account u c.args.f).clk) (working_at m (told m c.args.flight.now) c.args.f) c.slack.result
    m.length (next_offsets_at m (told m c.args.flight.now) c.args.f) (found c)

pub slack-requires-clause-now : goal.slack-requires-clause-now
slack-requires-clause-now c = grind (arith, common_steps)

pub slack-requires-clause-paired : goal.slack-requires-clause-paired
slack-requires-clause-paired c = grind (arith, common_steps)

pub slack-requires-clause-next : goal.slack-requires-clause-next
slack-requires-clause-next c = grind (arith, common_steps)
