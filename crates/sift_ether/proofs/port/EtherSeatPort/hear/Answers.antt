use Rattle.std.proofs.Common.{refl, sym, ap, ◌∙◌, arith}
use Rattle.std.proofs.lemmas.Grind.{common_steps}
use Rattle.sift_buffer.specs.Views.{view_with_heard}
use Rattle.sift_ether.specs.Seats.{view_of}
use Rattle.sift_ether.proofs.Seats.{follows_one, one_step, view_more}
use Rattle.sift_ether.proofs.port.EtherSeatPort.hear.Goals as goal

pub returns-clause-follows : goal.returns-clause-follows
returns-clause-follows c = follows_one c.args.self.now _ _ _ c.load-cell.ensures.words c.load-cell.ensures.seat c.load-cell.ensures.done refl refl refl

pub invariant_of-self : goal.invariant_of-self
invariant_of-self c = grind (arith, common_steps)

pub returns-clause-heard : goal.returns-clause-heard
returns-clause-heard c = view_more c.args.self.now c.load-cell.new.self _ c.load-cell.ensures.words c.load-cell.ensures.done
    ∙ ap (view_with_heard (view_of c.args.self.now) c.args.f c.args.slot c.args.from c.args.stamp) (sym c.take-word.ensures.word)

pub returns-clause-steps : goal.returns-clause-steps
returns-clause-steps c = one_step _ _ _ c.load-cell.ensures.done
