use Rattle.std.proofs.Common.{refl}
use Rattle.sift_buffer.specs.Conduct.{stray_to}
use Rattle.sift_core.proofs.StrayEvents.{stray_flies}
use Rattle.sift_core.proofs.machine.Machine.stray.Goals as goal

pub returns-clause-stored : goal.returns-clause-stored
returns-clause-stored c = record { rack = c.store.ensures; boards = refl }

pub returns-clause-flies : goal.returns-clause-flies
returns-clause-flies c = let a = c.args in
    stray_flies c.events_keep_the_core_lawful.ensures a.self.now _ a.u (stray_to a.to a.slot a.cell) (record { rack = c.store.ensures; boards = refl })
    c.requires.unit c.requires.turned c.requires.cell
