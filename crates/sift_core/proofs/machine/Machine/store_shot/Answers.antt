use Rattle.std.proofs.Common.{refl, sym, subst}
use Rattle.sift_flight.specs.Flight.{Strays}
use Rattle.sift_buffer.specs.Following.{none_more}
use Rattle.sift_core.specs.Machines.{Flies}
use Rattle.sift_core.proofs.machine.Machine.store_shot.Goals as goal

pub returns-in-Some-clause-flies : goal.returns-in-Some-clause-flies
returns-in-Some-clause-flies c = λ m w flies. rw c.in-Some.is (c.stray.ensures.flies m w flies)

pub returns-in_default-clause-flies : goal.returns-in_default-clause-flies
returns-in_default-clause-flies c = λ m w flies.
    rw c.in_default.is (subst (λ (v : Strays). Flies m v c.args.self.now) (sym (none_more w c.args.u)) flies)

pub returns-in_default-clause-stored : goal.returns-in_default-clause-stored
returns-in_default-clause-stored c = rw c.in_default.is (record { rack = refl; boards = refl })
