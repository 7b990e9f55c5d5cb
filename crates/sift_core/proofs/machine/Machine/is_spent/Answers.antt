use Rattle.std.proofs.Common.{ℕ, ◌==◌, sym, ap, ◌∙◌}
use Rattle.sift_mission.specs.Parts.{data_of, flown_of}
use Rattle.sift_core.proofs.Calls.{left_at}
use Rattle.sift_core.proofs.MachineSteps.{seat_low, seat_unit}
use Rattle.sift_core.proofs.machine.Machine.is_spent.Goals as goal

pub is_spent-requires : goal.is_spent-requires
is_spent-requires c = sym (seat_unit (flown_of c.args.mission.now) c.args.self.now c.args.u c.from.result c.index.result.now c.requires.flies c.requires.unit
    (c.from.ensures ∙ c.get.ensures.number) c.index.ensures)

pub returns : goal.returns
returns c = c.is_spent.ensures ∙ ap (λ (n : ℕ). n == 0) (sym (left_at (data_of c.args.mission.now) c.args.self.now c.args.u c.from.result c.index.result.now
    (seat_low (flown_of c.args.mission.now) c.args.self.now c.args.u c.requires.flies c.requires.unit) (c.from.ensures ∙ c.get.ensures.number) c.index.ensures))
