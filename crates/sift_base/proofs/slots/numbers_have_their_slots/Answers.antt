use Rattle.sift_base.specs.laws.Numbers.{kind-of-number, number-of-kind}
use Rattle.sift_base.proofs.slots.numbers_have_their_slots.Goals as goal

pub returns : goal.returns
returns c = λ layout. (kind-of-number layout, number-of-kind layout)
