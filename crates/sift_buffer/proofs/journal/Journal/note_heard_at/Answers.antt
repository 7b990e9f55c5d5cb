use Rattle.sift_buffer.proofs.Notes.{heard_noted}
use Rattle.sift_buffer.proofs.journal.Journal.note_heard_at.Goals as goal

pub returns : goal.returns
returns c = rw (← c.self.view_is) (λ f k q within at. rw at (heard_noted _ c.args.word c.self.invariant f k q within))
