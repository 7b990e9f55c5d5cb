use Rattle.std.proofs.Common.{◌∙◌, sym, arith}
use Rattle.sift_unit_frame.specs.Memories.{memory_of}
use Rattle.sift_unit.specs.Boards.{desk_of}
use Rattle.sift_unit.proofs.Passing.{slot_onward, run_onward}
use Rattle.sift_unit.proofs.board.Board.pass_running.Goals as goal

-- it is one of the mission's
pub run-requires-clause-task : goal.run-requires-clause-task
run-requires-clause-task c = record {
  config = c.requires.walks.range.config;
  task = (let few = c.if-self-tasks.false in let tasks = c.tasks.ensures.count in omega arith);
}

-- past a task that isn't run now
pub returns-then-self-run_in-clause-onward : goal.returns-then-self-run_in-clause-onward
returns-then-self-run_in-clause-onward c =
    let part = c.requires.at.part in
    slot_onward _ c.requires.walks.fits (desk_of c.args.self.now) c.requires.walks.range c.requires.at.slot
    (record { hears = λ p. absurd (omega arith); runs = λ p low s. c.if-self-run_in.true (s ∙ sym c.run_in.ensures); says = λ p. absurd (omega arith) })

-- past a task that was run
pub returns-clause-onward : goal.returns-clause-onward
returns-clause-onward c = run_onward _ c.requires.walks.fits (desk_of c.args.self.now) c.requires.walks.range (memory_of c.run.new.self)
    (record {
      part = c.requires.at.part;
      slot = (let few = c.if-self-tasks.false in let tasks = c.tasks.ensures.count in omega arith);
      subframe = c.if-self-run_in.false ∙ c.run_in.ensures;
    }) c.run.ensures.made _ c.run.ensures.before
