use Rattle.std.proofs.Common.{rules}
use Rattle.sift_program.proofs.lemmas.Frames.{words_held-range}
use Rattle.sift_program.proofs.ideal.hold.Goals as goal

pub returns : goal.returns
returns c = rw (words_held-range c.args.last.now _ c.args.task.now.outputs c.requires.held) (search rules)
