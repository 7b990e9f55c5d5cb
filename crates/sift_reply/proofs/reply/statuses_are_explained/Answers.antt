use Rattle.sift_reply.proofs.Explained.{statuses_are_explained}
use Rattle.sift_reply.proofs.reply.statuses_are_explained.Goals as goal

pub returns : goal.returns
returns g c = λ means. statuses_are_explained (record { asks = g.C.Asked.asks means; duty = g.C.Job.duty means })
