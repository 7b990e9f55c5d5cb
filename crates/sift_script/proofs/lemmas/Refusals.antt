-- A script is refused in one way.
use Rattle.sift_base.specs.laws.Requirements.{met_unbroken, one_refused}
use Rattle.sift_script.specs.Laws.{OneBrokenRule}
use Rattle.sift_script.specs.Rules.{entry_rules}

-- a script that breaks a rule first at an entry isn't good, and breaks no other rule first, nor at another entry
pub one_broken_rule : OneBrokenRule
one_broken_rule script number at broken = (
  λ good. met_unbroken (entry_rules script at) number (good at broken.inside) broken.broken,
  λ other place again. one_refused (entry_rules script) _ number at other place broken again,
)
