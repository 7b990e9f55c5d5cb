use Rattle.sift_bus_port.proofs.Outvoting.{majority_is, wrong_is}
use Rattle.sift_bus_port.proofs.carrying.vote_of_three.Goals as goal

pub returns-clause-majority : goal.returns-clause-majority
returns-clause-majority c = majority_is c.args.word c.args.carried c.majority-taken.result c.args.faulty c.requires
    (rw (← c.three_of-buses.ensures) c.majority-taken.ensures.found) (rw (← c.three_of-buses.ensures) c.majority-taken.ensures.exact)

pub returns-clause-wrong : goal.returns-clause-wrong
returns-clause-wrong c = wrong_is c.args.word c.args.carried c.majority-taken.result c.args.faulty c.three_of-buses.result c.wrong_of-wrong.result
    c.requires c.three_of-buses.ensures (returns-clause-majority c) c.wrong_of-wrong.ensures
