use Rattle.std.proofs.Common.{◌∙◌, ap, sym}
use Rattle.sift_base.specs.Units.{has}
use Rattle.sift_config.specs.laws.Lists.{has-members}
use Rattle.sift_config.proofs.config.Config.has.Goals as goal

pub returns : goal.returns
returns c = c.has.ensures ∙ sym (has-members c.self.inside.units c.args.u c.self.invariant.0) ∙ ap (λ us. has us c.args.u) c.self.view_is
