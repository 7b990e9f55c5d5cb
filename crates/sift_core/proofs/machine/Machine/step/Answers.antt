use Rattle.std.proofs.Common.{◌∙◌, refl}
use Rattle.sift_mission.specs.Parts.{flown_of}
use Rattle.sift_core.proofs.MachineSteps.{unit_below, drives_chosen, step_flies, step_stepped, step_lefts}
use Rattle.sift_core.proofs.machine.Machine.step.Goals as goal

pub choose-requires : goal.choose-requires
choose-requires c = unit_below _ c.args.self.now c.args.u c.requires.flies c.requires.unit

pub step-requires : goal.step-requires
step-requires c = drives_chosen (flown_of c.args.mission.now) c.args.self.now c.args.u c.choose.new.self c.from.result c.index_mut.result.now
    c.requires.flies c.requires.unit c.choose.ensures (c.from.ensures ∙ c.get.ensures.number) c.index_mut.ensures.value

pub returns-clause-flies : goal.returns-clause-flies
returns-clause-flies c = λ w flies. step_flies (flown_of c.args.mission.now) c.args.self.now c.args.u c.choose.new.self c.from.result c.index_mut.result.now
    c.step.result c.step.new.port c.step.new.self (record {
      keep = c.events_keep_the_core_lawful.ensures;
      flying = c.requires.flies;
      unit = c.requires.unit;
      chosen = c.choose.ensures;
      here = c.from.ensures ∙ c.get.ensures.number;
      seat = c.index_mut.ensures.value;
      drives = c.step.ensures.drives;
      steps = c.step.ensures.steps;
      follows = c.step.ensures.follows;
      left = c.step.ensures.left;
    }) _ refl w flies

pub returns-clause-stepped : goal.returns-clause-stepped
returns-clause-stepped c = step_stepped (flown_of c.args.mission.now) c.args.self.now c.args.u c.choose.new.self c.from.result c.index_mut.result.now
    c.step.result c.step.new.port c.step.new.self (record {
      keep = c.events_keep_the_core_lawful.ensures;
      flying = c.requires.flies;
      unit = c.requires.unit;
      chosen = c.choose.ensures;
      here = c.from.ensures ∙ c.get.ensures.number;
      seat = c.index_mut.ensures.value;
      drives = c.step.ensures.drives;
      steps = c.step.ensures.steps;
      follows = c.step.ensures.follows;
      left = c.step.ensures.left;
    }) _ refl

pub returns-clause-calls : goal.returns-clause-calls
returns-clause-calls c = λ d. step_lefts (flown_of c.args.mission.now) c.args.self.now c.args.u c.choose.new.self c.from.result c.index_mut.result.now
    c.step.result c.step.new.port c.step.new.self (record {
      keep = c.events_keep_the_core_lawful.ensures;
      flying = c.requires.flies;
      unit = c.requires.unit;
      chosen = c.choose.ensures;
      here = c.from.ensures ∙ c.get.ensures.number;
      seat = c.index_mut.ensures.value;
      drives = c.step.ensures.drives;
      steps = c.step.ensures.steps;
      follows = c.step.ensures.follows;
      left = c.step.ensures.left;
    }) _ refl d
