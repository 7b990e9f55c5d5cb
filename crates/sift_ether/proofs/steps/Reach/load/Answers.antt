use Rattle.std.proofs.Common.{◌∙◌}
use Rattle.sift_ether.specs.TableSeats.{ranges_at}
use Rattle.sift_ether.proofs.Deeds.{may_load}
use Rattle.sift_ether.proofs.Seats.{has_done, still_one}
use Rattle.sift_ether.proofs.steps.Reach.load.Goals as goal

pub load-requires : goal.load-requires
load-requires g c = let x = c.args.self.now in (
  x.table.same,
  rw x.table.wide c.requires.word,
  may_load (ranges_at x.words.now.key) _ _ _ _ _ g.C.Told.deed x.one.sits x.one.here _ c.requires.told c.requires.may,
)

pub returns-clause-done : goal.returns-clause-done
returns-clause-done g c = let x = c.args.self.now in has_done x.seat.me _ g.C.Told.deed _ c.load.result c.requires.told (c.load.ensures.2 _ x.one.sits)

pub invariant_of-self-clause-table : goal.invariant_of-self-clause-table
invariant_of-self-clause-table g c = let x = c.args.self.now in record { same = c.load.ensures.0 ∙ x.table.same; wide = x.table.wide }

pub invariant_of-self-clause-one : goal.invariant_of-self-clause-one
invariant_of-self-clause-one g c = let x = c.args.self.now in
    still_one x.seat.me _ (ranges_at x.words.now.key) _ x.one (has_done x.seat.me _ g.C.Told.deed _ c.load.result c.requires.told (c.load.ensures.2 _ x.one.sits))
