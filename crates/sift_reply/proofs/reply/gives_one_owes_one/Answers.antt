use Rattle.sift_reply.proofs.Explained.{one_owed}
use Rattle.sift_reply.proofs.reply.gives_one_owes_one.Goals as goal

pub returns : goal.returns
returns g c = λ means job bytes alone one other. one_owed (g.J.Job.duty means job).limit (g.J.Job.duty means job).gives bytes one other alone
