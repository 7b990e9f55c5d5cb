use Rattle.std.proofs.Common.{arith}
use Rattle.std.proofs.lemmas.Grind.{common_steps}
use Rattle.sift_bus_port.proofs.Logs.{noted, entry_is}
use Rattle.sift_bus_port.proofs.log.BusLog.note.Goals as goal

pub returns-then-has : goal.returns-then-has
returns-then-has c = let a = c.args in
    rw (← c.has.ensures, c.if-has.true, c.index-entry.ensures.number)
    (noted a.self.now.grid.layout a.self.now.grid.frames a.f a.slot a.from a.self.now.carried.items a.self.now.wrong.items a.carried a.wrong
    (entry_is _ a.f a.slot a.from (rw (← c.has.ensures) c.if-has.true)) a.self.now.carried_long a.self.now.wrong_long)

pub invariant_of-self : goal.invariant_of-self
invariant_of-self c = grind (arith, common_steps)
