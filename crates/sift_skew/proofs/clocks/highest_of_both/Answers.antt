use Rattle.std.proofs.Common.{◌≡◌, arith, ◌∙◌, w64, to_z, of_z}
use Rattle.std.specs.Int.{int_max}
use Rattle.std.proofs.lemmas.Int.{ints}
use Rattle.std.proofs.lemmas.Grind.{common_steps}
use Rattle.sift_skew.specs.laws.Extremes.{highest-append}
use Rattle.sift_skew.proofs.clocks.highest_of_both.Goals as goal

-- the higher of two highest offsets
pub returns-clause-highest : goal.returns-clause-highest
returns-clause-highest c =
    let a = c.in_ok-highest.field-0 in
    let b = c.in_ok-highest-2.field-0 in
    let one : to_z w64 (of_z w64 a) ≡ a = omega (arith, ints, c.in_ok-highest.ensures.in_range) in
    let two : to_z w64 (of_z w64 b) ≡ b = omega (arith, ints, c.in_ok-highest-2.ensures.in_range) in
    let fits : to_z w64 (of_z w64 c.max.result) ≡ c.max.result = omega (arith, ints) in
    let higher : c.max.result ≡ int_max a b = c.max.ensures.value ∙ rw (one, two) in
    rw (fits, higher)
    (highest-append c.args.now.now c.args.next.now a b c.in_ok-highest.ensures.highest c.in_ok-highest-2.ensures.highest)

pub returns-clause-in_range : goal.returns-clause-in_range
returns-clause-in_range c = grind (arith, common_steps)
