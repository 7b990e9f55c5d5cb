use Rattle.std.proofs.Common.{ap, subst}
use Rattle.sift_buffer.specs.Core.{Core}
use Rattle.sift_mission.specs.Parts.{data_of}
use Rattle.sift_mission.specs.declared.mission.MissionParts.{MissionParts}
use Rattle.sift_buffer.specs.Racks.{IsNewRack}
use Rattle.sift_core.specs.Courses.{lefts}
use Rattle.sift_core.specs.declared.machine.Machine.{Machine}
use Rattle.sift_core.proofs.NewMachines.{new_flies, is_new, new_lefts}
use Rattle.sift_core.proofs.Storming.{first_left}
use Rattle.sift_core.proofs.machine.Machine.make.Goals as goal

pub returns-clause-flies : goal.returns-clause-flies
returns-clause-flies c = new_flies (data_of c.args.mission.now) _ c.parts-parts.ensures.fit c.fresh_is_lawful.ensures c.new_boards_may_step.ensures
    (subst (λ (p : MissionParts). IsNewRack c.in_ok-rack.rack p.layout p.frames) c.parts-parts.ensures.same c.in_ok-rack.ensures)
    c.in_ok-seats.ensures

pub returns-clause-new : goal.returns-clause-new
returns-clause-new c = is_new (data_of c.args.mission.now) _ c.parts-parts.ensures.fit
    (subst (λ (p : MissionParts). IsNewRack c.in_ok-rack.rack p.layout p.frames) c.parts-parts.ensures.same c.in_ok-rack.ensures)
    c.in_ok-seats.ensures

pub returns-clause-calls : goal.returns-clause-calls
returns-clause-calls c = new_lefts (data_of c.args.mission.now) (record { rack = c.in_ok-rack.rack; seats = c.in_ok-seats.seats }) c.in_ok-seats.ensures

pub returns-clause-left : goal.returns-clause-left
returns-clause-left c =
    let x : Machine = record { rack = c.in_ok-rack.rack; seats = c.in_ok-seats.seats } in
    first_left (data_of c.args.mission.now) x
    (new_flies (data_of c.args.mission.now) x c.parts-parts.ensures.fit c.fresh_is_lawful.ensures c.new_boards_may_step.ensures
    (subst (λ (p : MissionParts). IsNewRack c.in_ok-rack.rack p.layout p.frames) c.parts-parts.ensures.same c.in_ok-rack.ensures)
    c.in_ok-seats.ensures)
    (λ u. ap (λ (z : Core). (z.of u).progress) c.in_ok-rack.ensures.core) (lefts (data_of c.args.mission.now) x)
    (new_lefts (data_of c.args.mission.now) x c.in_ok-seats.ensures)
