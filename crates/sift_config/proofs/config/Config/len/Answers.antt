use Rattle.std.proofs.Common.{◌∙◌, ap, sym, length}
use Rattle.sift_base.specs.laws.Sets.{len_of_members}
use Rattle.sift_config.proofs.config.Config.len.Goals as goal

pub returns-clause-length : goal.returns-clause-length
returns-clause-length c = c.from.ensures ∙ c.len.ensures ∙ sym (len_of_members c.self.inside.units c.self.invariant.0) ∙ ap length c.self.view_is
