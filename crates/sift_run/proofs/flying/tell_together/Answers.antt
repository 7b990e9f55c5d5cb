use Rattle.sift_alone.specs.laws.Both.{map_ok}
use Rattle.sift_alone.specs.laws.Flown.{by_several}
use Rattle.sift_run.proofs.flying.tell_together.Goals as goal

-- the text tells it of this flight
pub returns : goal.returns
returns g c = map_ok c.text.result _ _ c.text.ensures
    (λ text told. (_, by_several g.R.Rogue.allows _ c.args.order.workers _ _ c.requires.together c.in_ok-flight.ensures.round, told))
