use Rattle.sift_buffer.proofs.Notes.{said_noted}
use Rattle.sift_buffer.proofs.journal.Journal.note_said_at.Goals as goal

pub returns : goal.returns
returns c = rw (← c.self.view_is) (λ f k q within at. rw at (said_noted _ c.args.word c.self.invariant f k q within))
