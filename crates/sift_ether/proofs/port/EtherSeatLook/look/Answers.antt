use Rattle.std.proofs.Common.{refl}
use Rattle.sift_ether.proofs.Seats.{follows_one, one_step, view_more}
use Rattle.sift_ether.proofs.port.EtherSeatLook.look.Goals as goal

pub returns-clause-follows : goal.returns-clause-follows
returns-clause-follows c = follows_one c.args.self.now _ _ _ c.load-number.ensures.words c.load-number.ensures.seat c.load-number.ensures.done refl refl refl

pub returns-clause-looked : goal.returns-clause-looked
returns-clause-looked c = view_more c.args.self.now c.load-number.new.self _ c.load-number.ensures.words c.load-number.ensures.done

pub returns-clause-steps : goal.returns-clause-steps
returns-clause-steps c = one_step _ _ _ c.load-number.ensures.done
