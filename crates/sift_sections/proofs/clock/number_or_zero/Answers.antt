use Rattle.std.proofs.Common.{◌∙◌}
use Rattle.sift_sections.proofs.clock.number_or_zero.Goals as goal

-- what is there is no such number
pub returns-in_err-optional_between : goal.returns-in_err-optional_between
returns-in_err-optional_between c = c.from_residual.ensures ∙ c.in_err-optional_between.ensures 0
