use Rattle.std.proofs.Common.{arith}
use Rattle.std.proofs.lemmas.Result.{IfOk-weaker}
use Rattle.sift_byz.proofs.exchanging.results_of.Goals as goal

-- each chart is made of the one before
pub hear-requires : goal.hear-requires
hear-requires c = record { range = c.requires; short = omega arith; heard = rw c.deref.ensures.value c.in_ok-own.ensures }

pub agree_on-requires : goal.agree_on-requires
agree_on-requires c = record { range = c.requires; short = omega (arith, c.from.ensures, c.requires.traitors); heard = c.in_ok-heard.ensures }

-- the last has the results
pub returns : goal.returns
returns c = IfOk-weaker c.agree_on.result _ _ (λ chart shown. record { in_range = c.requires; shown = rw c.from.ensures at shown }) c.agree_on.ensures
