use Rattle.std.proofs.Common.{◌≤◌, arith, sym, subst, ◌∙◌, length-set}
use Rattle.sift_buffer.specs.Ranges.{IsPlace}
use Rattle.sift_buffer.specs.Conduct.{last_progress}
use Rattle.sift_buffer.specs.Journals.{Pages, ranges_in}
use Rattle.sift_buffer.specs.Ledgers.{Ledger}
use Rattle.sift_buffer.proofs.LedgerLemmas.{flies_below, ledger_said, noted_said}
use Rattle.sift_buffer.proofs.Words.{words_said}
use Rattle.sift_buffer.proofs.acts.Acts.note_said.Goals as goal

-- the stamp is no greater than a list keeps
pub kept-requires : goal.kept-requires
kept-requires c =
    let low : c.args.self.now.progress ≤ last_progress = (flies_below _ _ c.self.view_is c.self.invariant.stage c.requires.flies).1 in
    let near = c.requires.near in omega arith

pub returns : goal.returns
returns c =
    let a = c.args in let full = c.self.invariant in let pages : Pages = c.note_said_at.new.self in
    let place = subst (λ (l : Ledger). IsPlace (ranges_in l.pages) l.pages.unit a.to a.slot a.f) (sym c.self.view_is) c.requires.place in
    let noted = noted_said _ _ _ full a.f a.slot a.to a.stamp a.word pages place c.requires.stamp _ c.index-entry.ensures.number c.note_said_at.ensures in
    rw (← c.self.view_is, c.index-entry.ensures.number, c.kept.ensures)
    (ledger_said _ _ _ full a.f a.slot a.to a.stamp a.word pages place c.requires.stamp noted)

pub invariant_of-self : goal.invariant_of-self
invariant_of-self c =
    let a = c.args in let full = c.self.invariant in let pages : Pages = c.note_said_at.new.self in
    let place = subst (λ (l : Ledger). IsPlace (ranges_in l.pages) l.pages.unit a.to a.slot a.f) (sym c.self.view_is) c.requires.place in
    let noted = noted_said _ _ _ full a.f a.slot a.to a.stamp a.word pages place c.requires.stamp _ c.index-entry.ensures.number c.note_said_at.ensures in
    rw (c.index-entry.ensures.number, c.kept.ensures) (record {
      layout_is = noted.owner.layout_is ∙ full.layout_is;
      frames_are = noted.owner.frames_are ∙ full.frames_are;
      said = length-set _ _ _ ∙ full.said;
      asked = full.asked;
      heard_at = full.heard_at;
      seen = full.seen;
      stage = full.stage;
      words = words_said _ _ full.words a.f a.slot a.to a.stamp a.word noted
          (ledger_said _ _ _ full a.f a.slot a.to a.stamp a.word pages place c.requires.stamp noted).conduct;
    })
