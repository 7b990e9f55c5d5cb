use Rattle.std.proofs.Common.{refl}
use Rattle.sift_ether.proofs.Seats.{follows_one, one_step, view_more}
use Rattle.sift_ether.proofs.port.EtherSeatPort.leave.Goals as goal

pub returns-clause-follows : goal.returns-clause-follows
returns-clause-follows c = follows_one c.args.self.now _ _ _ c.store.ensures.words c.store.ensures.seat c.store.ensures.done refl refl refl

pub returns-clause-turned : goal.returns-clause-turned
returns-clause-turned c = view_more c.args.self.now c.store.new.self _ c.store.ensures.words c.store.ensures.done

pub returns-clause-steps : goal.returns-clause-steps
returns-clause-steps c = one_step _ _ _ c.store.ensures.done
