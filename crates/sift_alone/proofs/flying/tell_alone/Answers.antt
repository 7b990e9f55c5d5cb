use Rattle.std.proofs.Common.{refl}
use Rattle.sift_alone.specs.laws.Both.{map_ok}
use Rattle.sift_alone.proofs.Asked.{asked_for}
use Rattle.sift_alone.proofs.flying.tell_alone.Goals as goal

-- the text tells it of this flight, which is in the order that was asked for
pub returns-clause-by_one : goal.returns-clause-by_one
returns-clause-by_one g c = rw (← c.order_of.ensures) (map_ok c.text.result _ _ c.text.ensures (λ text told. (
  _,
  record {
    over = c.in_ok-flight.ensures.round;
    by = record { landed = c.in_ok-flight.flight; after = c.in_ok-flight.ensures.ordered.0; ordered = c.in_ok-flight.ensures.ordered.1; is = refl };
  },
  told,
)))

-- so it is one by the workers that were asked for
pub returns-clause-told : goal.returns-clause-told
returns-clause-told g c = map_ok c.text.result _ _ (returns-clause-by_one g c) (λ text. asked_for _ _ c.args.order.workers _ _ _)
