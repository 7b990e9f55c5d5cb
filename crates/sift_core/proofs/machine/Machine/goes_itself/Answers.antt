use Rattle.sift_core.proofs.MachineSteps.{unit_below}
use Rattle.sift_core.proofs.machine.Machine.goes_itself.Goals as goal

pub number_of-requires-clause-unit : goal.number_of-requires-clause-unit
number_of-requires-clause-unit g c = unit_below _ c.args.self.now c.args.u c.requires.under_way.flies c.requires.unit

pub number_of-requires-clause-lawful : goal.number_of-requires-clause-lawful
number_of-requires-clause-lawful g c = (c.requires.under_way.flies.0, c.requires.under_way.flies.1.lawful)

pub is_spent-requires-clause-flies : goal.is_spent-requires-clause-flies
is_spent-requires-clause-flies g c = c.requires.under_way.flies

pub is_spent-requires-clause-unit : goal.is_spent-requires-clause-unit
is_spent-requires-clause-unit g c = unit_below _ c.args.self.now c.args.u c.requires.under_way.flies c.requires.unit
