use Rattle.std.proofs.Common.{arith}
use Rattle.std.proofs.lemmas.Grind.{common_steps}
use Rattle.sift_options.proofs.Flags.{nowhere}
use Rattle.sift_options.proofs.setting.is_one_of.Goals as goal

-- none of all options is it
pub returns : goal.returns
returns c = (λ is. cc, λ is. absurd (nowhere c.args.flags.now _ (λ k low d. c.loop-flag.invariant k (grind (arith, common_steps)) d) is))
