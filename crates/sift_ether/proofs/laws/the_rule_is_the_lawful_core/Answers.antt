use Rattle.sift_ether.specs.TableSeats.{ranges_at}
use Rattle.sift_ether.proofs.Dealing.{story_lawful}
use Rattle.sift_ether.proofs.laws.the_rule_is_the_lawful_core.Goals as goal

pub returns : goal.returns
returns c grid s holds = story_lawful c.fresh_is_lawful.ensures c.events_keep_the_core_lawful.ensures (ranges_at grid) s holds
