use Rattle.sift_mission.proofs.Held.{held-as, held-place, held-task, held-there}
use Rattle.sift_mission.proofs.mission.Mission.task_of.Goals as goal

pub bounds-deref-from : goal.bounds-deref-from
bounds-deref-from c =
    let held = held-as c.self.inside.parts c.args.self.now c.self.inside.slots c.self.inside.tasks.items c.self.inside.times c.self.inside.crews c.self.invariant c.self.view_is in
    rw (c.from.ensures, c.deref.ensures.0) (held-place c.args.self.now c.self.inside.tasks.items held.fit held.tasks_are c.args.w c.requires)

pub returns-clause-task : goal.returns-clause-task
returns-clause-task c =
    let held = held-as c.self.inside.parts c.args.self.now c.self.inside.slots c.self.inside.tasks.items c.self.inside.times c.self.inside.crews c.self.invariant c.self.view_is in
    rw (c.from-2.ensures, c.from.ensures, c.deref.ensures.0) (held-task c.args.self.now c.self.inside.tasks.items held.fit held.tasks_are c.args.w c.requires)

pub returns-clause-there : goal.returns-clause-there
returns-clause-there c =
    let held = held-as c.self.inside.parts c.args.self.now c.self.inside.slots c.self.inside.tasks.items c.self.inside.times c.self.inside.crews c.self.invariant c.self.view_is in
    rw (c.from-2.ensures, c.from.ensures, c.deref.ensures.0) (held-there c.args.self.now c.self.inside.tasks.items held.fit held.tasks_are c.args.w c.requires)
