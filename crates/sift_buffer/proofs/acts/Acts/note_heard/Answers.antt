use Rattle.std.proofs.Common.{◌≤◌, arith, sym, subst, ◌∙◌, length-set}
use Rattle.sift_buffer.specs.Ranges.{IsPlace}
use Rattle.sift_buffer.specs.Conduct.{last_progress}
use Rattle.sift_buffer.specs.Journals.{Pages, ranges_in}
use Rattle.sift_buffer.specs.Ledgers.{Ledger}
use Rattle.sift_buffer.proofs.LedgerLemmas.{flies_below, ledger_heard, noted_heard}
use Rattle.sift_buffer.proofs.Words.{words_heard}
use Rattle.sift_buffer.proofs.acts.Acts.note_heard.Goals as goal

-- neither number is greater than a list keeps
pub kept-requires : goal.kept-requires
kept-requires c =
    let low : c.args.self.now.progress ≤ last_progress = (flies_below _ _ c.self.view_is c.self.invariant.stage c.requires.flies).1 in
    let past = c.requires.past in omega arith

pub kept-requires-2 : goal.kept-requires-2
kept-requires-2 c = let low = (flies_below _ _ c.self.view_is c.self.invariant.stage c.requires.flies).0 in omega arith

pub returns : goal.returns
returns c =
    let a = c.args in let full = c.self.invariant in let pages : Pages = c.note_heard_at.new.self in
    let place = subst (λ (l : Ledger). IsPlace (ranges_in l.pages) l.pages.unit a.from a.slot a.f) (sym c.self.view_is) c.requires.place in
    let noted = noted_heard _ _ _ full a.f a.slot a.from a.stamp a.word pages place c.requires.stamp _ c.index-entry.ensures.number c.note_heard_at.ensures in
    rw (← c.self.view_is, c.index-entry.ensures.number, c.kept.ensures, c.kept-2.ensures)
    (ledger_heard _ _ _ full a.f a.slot a.from a.stamp a.word pages place c.requires.stamp noted)

pub invariant_of-self : goal.invariant_of-self
invariant_of-self c =
    let a = c.args in let full = c.self.invariant in let pages : Pages = c.note_heard_at.new.self in
    let place = subst (λ (l : Ledger). IsPlace (ranges_in l.pages) l.pages.unit a.from a.slot a.f) (sym c.self.view_is) c.requires.place in
    let noted = noted_heard _ _ _ full a.f a.slot a.from a.stamp a.word pages place c.requires.stamp _ c.index-entry.ensures.number c.note_heard_at.ensures in
    rw (c.index-entry.ensures.number, c.kept.ensures, c.kept-2.ensures) (record {
      layout_is = noted.owner.layout_is ∙ full.layout_is;
      frames_are = noted.owner.frames_are ∙ full.frames_are;
      said = full.said;
      asked = length-set _ _ _ ∙ full.asked;
      heard_at = length-set _ _ _ ∙ full.heard_at;
      seen = full.seen;
      stage = full.stage;
      words = words_heard _ _ full.words a.f a.slot a.from a.stamp a.word noted
          (ledger_heard _ _ _ full a.f a.slot a.from a.stamp a.word pages place c.requires.stamp noted).conduct;
    })
