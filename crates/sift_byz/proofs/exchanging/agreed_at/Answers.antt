use Rattle.std.proofs.Common.{◌≡◌, ℕ, suc, ◌/◌, ◌%◌, ◌^◌, ◌<◌, List, ◌∷◌, map, get_or, Option, None, ap, sym, ◌∙◌, arith}
use Rattle.std.proofs.lemmas.List.{get_or_default}
use Rattle.std.proofs.lemmas.Nat.{mod_below}
use Rattle.sift_vote.specs.Majority.{agreed_of}
use Rattle.sift_byz.specs.Charts.{path_in, relay_at}
use Rattle.sift_byz.specs.Plan.{all_units, byz_plan_of}
use Rattle.sift_byz.specs.Relaying.{outside}
use Rattle.sift_byz.proofs.Digits.{few_rows, relay_within}
use Rattle.sift_byz.proofs.exchanging.agreed_at.Goals as goal

-- the row and the places of the relays are in the charts
pub relays-relays-requires-clause-relayed : goal.relays-relays-requires-clause-relayed
relays-relays-requires-clause-relayed c =
    let n : ℕ = c.args.plan.now.units in
    let relayed = c.requires.relayed in
    let low : c.args.place < n ^ suc c.args.count = rw (sym relayed.shown.long) c.requires.within in
    let q_low : c.args.place % n < n = mod_below c.args.place n c.requires.range.some in
    rw c.from-units.ensures (record {
      few = few_rows n c.args.count c.args.place c.requires.range.few (omega (arith, relayed.short)) low;
      unit = q_low;
      each = rw relayed.long (λ r r_low. relay_within n c.args.count c.args.place r (c.args.place % n) c.requires.range.some low r_low q_low);
    })

-- it is agreed on from what was heard and the relays
pub returns : goal.returns
returns c =
    let is : c.index-heard-place.result ≡ get_or c.args.heard.now c.args.place None =
    c.index-heard-place.is ∙ get_or_default c.args.heard.now c.args.place c.index-heard-place.result None c.requires.within in
    let plan = byz_plan_of c.args.plan.now in
    let relays_of : ℕ → List (Option ℕ) = λ n. map (relay_at plan c.args.longer.now (c.args.place / n) (c.args.place % n))
    (outside (all_units plan) (c.args.place % n ∷ path_in n c.args.count (c.args.place / n))) in
    let relays : c.deref-2.result.now ≡ relays_of c.from-units.result =
    c.deref-2.ensures.0 ∙ rw (c.deref.ensures.0, c.path_in-path.ensures) at c.relays-relays.ensures in
    c.agree.ensures.exact ∙ ap (λ x. agreed_of (x ∷ c.deref-2.result.now)) is
    ∙ ap (λ xs. agreed_of (get_or c.args.heard.now c.args.place None ∷ xs)) (relays ∙ ap relays_of c.from-units.ensures)
