use Rattle.sift_byz.proofs.Answered.{one_refusal}
use Rattle.sift_byz.proofs.vectors.one_refusal.Goals as goal

pub returns : goal.returns
returns c = one_refusal
