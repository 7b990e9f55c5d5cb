use Rattle.std.proofs.Common.{inr, refl}
use Rattle.sift_buffer.proofs.LedgerLemmas.{flies_below, full_at}
use Rattle.sift_buffer.proofs.acts.Acts.note_turned.Goals as goal

pub invariant_of-self : goal.invariant_of-self
invariant_of-self c = full_at _ _ _ c.self.invariant _ _ (inr ((flies_below _ _ c.self.view_is c.self.invariant.stage c.requires).0, refl))
