use Rattle.std.proofs.Common.{arith}
use Rattle.std.proofs.lemmas.Grind.{common_steps}
use Rattle.sift_line.proofs.catch.bad_field.Goals as goal

pub returns-in_err-field-in-Two-clause-exact : goal.returns-in_err-field-in-Two-clause-exact
returns-in_err-field-in-Two-clause-exact c = grind (arith, common_steps)
