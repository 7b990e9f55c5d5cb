use Rattle.std.proofs.Common.{refl, sym, ◌∙◌}
use Rattle.sift_buffer.specs.Views.{View}
use Rattle.sift_ether.specs.Seats.{view_of}
use Rattle.sift_ether.proofs.Seats.{follows_one, one_step, view_more}
use Rattle.sift_ether.proofs.port.EtherSeatPort.stray.Goals as goal

pub returns-clause-follows : goal.returns-clause-follows
returns-clause-follows c = follows_one c.args.self.now _ _ _ c.store.ensures.words c.store.ensures.seat c.store.ensures.done refl refl refl

pub returns-clause-rest : goal.returns-clause-rest
returns-clause-rest c =
    let v : View = view_of c.args.self.now in
    let after = view_more c.args.self.now c.store.new.self _ c.store.ensures.words c.store.ensures.done in
    after ∙ (λ i. record v { conduct = record v.conduct { strays = (sym after i).conduct.strays } })

pub returns-clause-steps : goal.returns-clause-steps
returns-clause-steps c = one_step _ _ _ c.store.ensures.done
