use Rattle.sift_mission.specs.Parts.{flown_of}
use Rattle.sift_mission.proofs.Due.{none_heard, none_run, none_said}
use Rattle.sift_mission.proofs.mission.Mission.next_due.Goals as goal

-- what isn't heard is passed over
pub returns-in-Hearing-clause-idle : goal.returns-in-Hearing-clause-idle
returns-in-Hearing-clause-idle c = rw c.in-Hearing.is
    (none_heard (flown_of c.args.self.now) c.requires.fits c.args.config.now c.args.subframe c.args.from c.next_heard.result c.next_heard.ensures.within c.next_heard.ensures.passed)

-- what isn't run
pub returns-in-Running-clause-idle : goal.returns-in-Running-clause-idle
returns-in-Running-clause-idle c = rw c.in-Running.is
    (none_run (flown_of c.args.self.now) c.requires.fits c.args.config.now c.args.subframe c.args.from c.next_task.result c.next_task.ensures.within c.next_task.ensures.passed)

-- and what isn't said
pub returns-in-Saying-clause-idle : goal.returns-in-Saying-clause-idle
returns-in-Saying-clause-idle c = rw c.in-Saying.is
    (none_said (flown_of c.args.self.now) c.requires.fits c.args.config.now c.args.subframe c.args.from c.next_said.result c.next_said.ensures.within c.next_said.ensures.passed)

-- what is found is due
pub returns-in-Hearing-clause-found : goal.returns-in-Hearing-clause-found
returns-in-Hearing-clause-found c = rw c.in-Hearing.is c.next_heard.ensures.found

pub returns-in-Running-clause-found : goal.returns-in-Running-clause-found
returns-in-Running-clause-found c = rw c.in-Running.is c.next_task.ensures.found

pub returns-in-Saying-clause-found : goal.returns-in-Saying-clause-found
returns-in-Saying-clause-found c = rw c.in-Saying.is c.next_said.ensures.found
