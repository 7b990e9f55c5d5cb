use Rattle.std.proofs.Common.{◌∙◌, ap, sym}
use Rattle.sift_base.specs.Units.{has}
use Rattle.sift_config.specs.laws.Lists.{has-members}
use Rattle.sift_config.proofs.config.Config.units.Goals as goal

-- the set holds the units of its list
pub returns-clause-set : goal.returns-clause-set
returns-clause-set c = λ u. sym (has-members c.self.inside.units u c.self.invariant.0) ∙ ap (λ us. has us u) c.self.view_is
