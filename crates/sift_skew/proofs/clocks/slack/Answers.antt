use Rattle.std.proofs.Common.{◌≡◌, ◌-ℤ◌, arith}
use Rattle.std.proofs.lemmas.Int.{ints}
use Rattle.sift_skew.specs.laws.Extremes.{held, slack_from}
use Rattle.sift_skew.proofs.clocks.slack.Goals as goal

-- the lowest offset in force and the highest one leave least of a subframe
pub returns : goal.returns
returns c =
    let highest = c.in_ok-highest_of_both.field-0 in
    let lowest = c.in_ok-lead.field-0 in
    let fits : held (held c.from.result -ℤ held (held highest -ℤ held lowest)) ≡ c.args.length -ℤ (highest -ℤ lowest) =
    omega (arith, ints, c.in_ok-highest_of_both.ensures.in_range, c.in_ok-lead.ensures.in_range) in
    rw fits (slack_from c.args.length c.args.now.now c.args.next.now highest lowest
    c.in_ok-highest_of_both.ensures.highest c.in_ok-lead.ensures.lowest)
