use Rattle.std.proofs.Common.{◌<◌, inl, ap, ◌∙◌, arith}
use Rattle.sift_buffer.specs.Conduct.{last_progress}
use Rattle.sift_buffer.specs.Ledgers.{Ledger}
use Rattle.sift_buffer.proofs.LedgerLemmas.{full_at}
use Rattle.sift_buffer.proofs.acts.Acts.note_entered.Goals as goal

pub invariant_of-self : goal.invariant_of-self
invariant_of-self c =
    let below : c.args.self.now.progress < last_progress = c.requires.below in
    full_at _ _ _ c.self.invariant _ _
    (inl (ap (λ (l : Ledger). l.left) c.self.view_is ∙ c.requires.flies, omega (arith, below, ap (λ (l : Ledger). l.progress) c.self.view_is)))
