use Rattle.std.proofs.Common.{◌≡◌, ◌-ℤ◌, arith}
use Rattle.std.proofs.lemmas.Int.{ints}
use Rattle.sift_skew.specs.laws.Extremes.{held, skew_from}
use Rattle.sift_skew.proofs.clocks.skew.Goals as goal

-- the highest and the lowest offset are farthest apart
pub returns : goal.returns
returns c =
    let highest = c.in_ok-highest.field-0 in
    let lowest = c.in_ok-lowest.field-0 in
    let fits : held (held highest -ℤ held lowest) ≡ highest -ℤ lowest =
    omega (arith, ints, c.in_ok-highest.ensures.in_range, c.in_ok-lowest.ensures.in_range) in
    rw fits (skew_from c.args.offsets.now highest lowest c.in_ok-highest.ensures.highest c.in_ok-lowest.ensures.lowest)
