use Rattle.std.proofs.Common.{◌∙◌}
use Rattle.sift_buffer.specs.Tables.{entry_number}
use Rattle.sift_buffer.specs.Journals.{ranges_in}
use Rattle.sift_buffer.proofs.Notes.{entry_of}
use Rattle.sift_buffer.proofs.journal.Journal.note_heard.Goals as goal

pub returns : goal.returns
returns c =
    let a = c.args in
    let number = c.index-entry.ensures.number ∙ (λ i. entry_number (ranges_in (c.self.view_is i)) a.f a.slot a.from) in
    c.note_heard_at.ensures a.f a.slot a.from (entry_of a.self.now a.f a.slot a.from c.requires) number
