-- A ledger with one word more tells one saying or hearing more.
use Rattle.std.proofs.Common.{◌≡◌, ℕ, ◌≤◌, ◌==◌, ◌&&◌, Bool, true, false, if◌then◌else◌, List, length, slice_set, Option, Some, sym, refl, ap, ◌∙◌, subst, arith, ne_eqb}
use Rattle.sift_base.specs.declared.slots.Layout.{Layout}
use Rattle.sift_buffer.specs.Ranges.{Ranges, IsPlace}
use Rattle.sift_buffer.specs.Conduct.{never, last_progress, saying, hearing, put_at, with_said, with_heard}
use Rattle.sift_buffer.specs.Tables.{ranges_of, IsEntry, entry_count, entry_number, entry_at}
use Rattle.sift_buffer.specs.Journals.{Pages, ranges_in, said_in, heard_in, IsJournalOf, NotesSaid, NotesHeard, NotesSaidAt, NotesHeardAt}
use Rattle.sift_buffer.specs.Lawful.{HasStage}
use Rattle.sift_buffer.specs.Ledgers.{Ledger, saying_of, hearing_of, sayings_by, hearings_by, conduct_in, Becomes}
use Rattle.sift_buffer.specs.Sizes.{IsFull}
use Rattle.sift_buffer.proofs.Sound.{flies_low}
use Rattle.sift_buffer.proofs.Notes.{entry_of}
use Rattle.sift_buffer.proofs.lemmas.Tables.{entry_set}

-- three functions with new values at one place, seen through another function
put_all : {A B C D : Type 0} (F : A → B → C → D) (a : ℕ → ℕ → ℕ → A) (b : ℕ → ℕ → ℕ → B) (c : ℕ → ℕ → ℕ → C)
    (f k q : ℕ) (x : A) (y : B) (z : C) (f' k' q' : ℕ) →
    F (put_at a f k q x f' k' q') (put_at b f k q y f' k' q') (put_at c f k q z f' k' q')
    ≡ put_at (λ f k q. F (a f k q) (b f k q) (c f k q)) f k q (F x y z) f' k' q'
put_all {D} F a b c f k q x y z f' k' q' = go (f' == f && k' == k && q' == q)
  where
    go : (t : Bool) → F (if t then x else a f' k' q') (if t then y else b f' k' q') (if t then z else c f' k' q')
        ≡ (if t then F x y z else F (a f' k' q') (b f' k' q') (c f' k' q'))
    go true = refl
    go false = refl

-- a stamp from 1 on is one that was said
saying_is : (s : ℕ) (w : Option ℕ) → 1 ≤ s → saying_of s w ≡ Some (saying s w)
saying_is s w one = rw (ne_eqb s 0 (λ e. omega arith)) refl

-- or asked for
hearing_is : (s h : ℕ) (w : Option ℕ) → 1 ≤ s → hearing_of s h w ≡ Some (hearing s h w)
hearing_is s h w one = rw (ne_eqb s 0 (λ e. omega arith)) refl

-- one word more among the sayings
sayings_put : (r : Ranges) (stamps : List ℕ) (words : ℕ → ℕ → ℕ → Option ℕ) (f k q s : ℕ) (w : Option ℕ) → IsEntry r f k q →
    length stamps ≡ entry_count r → 1 ≤ s →
    sayings_by r (slice_set stamps (entry_number r f k q) s) (put_at words f k q w) ≡ put_at (sayings_by r stamps words) f k q (Some (saying s w))
sayings_put r stamps words f k q s w entry long one i f' k' q' = (
    (λ j. saying_of (entry_set 0 r stamps f k q s entry long j f' k' q') (put_at words f k q w f' k' q'))
    ∙ (put_all (λ s _ w. saying_of s w) (entry_at 0 r stamps) (entry_at 0 r stamps) words f k q s s w f' k' q'
    ∙ (λ j. put_at (sayings_by r stamps words) f k q (saying_is s w one j) f' k' q'))) i

-- and among the hearings
hearings_put : (r : Ranges) (asked at : List ℕ) (words : ℕ → ℕ → ℕ → Option ℕ) (f k q s h : ℕ) (w : Option ℕ) → IsEntry r f k q →
    length asked ≡ entry_count r → length at ≡ entry_count r → 1 ≤ s →
    hearings_by r (slice_set asked (entry_number r f k q) s) (slice_set at (entry_number r f k q) h) (put_at words f k q w)
    ≡ put_at (hearings_by r asked at words) f k q (Some (hearing s h w))
hearings_put r asked at words f k q s h w entry long wide one i f' k' q' = (
    (λ j. hearing_of (entry_set 0 r asked f k q s entry long j f' k' q') (entry_set 0 r at f k q h entry wide j f' k' q') (put_at words f k q w f' k' q'))
    ∙ (put_all hearing_of (entry_at 0 r asked) (entry_at 0 r at) words f k q s h w f' k' q'
    ∙ (λ j. put_at (hearings_by r asked at words) f k q (hearing_is s h w one j) f' k' q'))) i

-- a unit that flies, by a ledger or by one that is the same, is at the last progress or before
pub flies_below : (l l' : Ledger) → l ≡ l' → HasStage (conduct_in l) → l'.left ≡ never → (l.progress ≤ last_progress) × (l'.progress ≤ last_progress)
flies_below l l' same stage flies =
    let low : l.progress ≤ last_progress = flies_low (conduct_in l) stage (ap (λ (x : Ledger). x.left) same ∙ flies) in
    (low, subst (λ (x : Ledger). x.progress ≤ last_progress) same low)

-- a full ledger at other numbers, which tell that the unit flies or has turned
pub full_at : (l : Ledger) (layout : Layout) (frames : ℕ) → IsFull l layout frames → (progress left : ℕ) →
    HasStage (record (conduct_in l) { progress = progress; left = left }) → IsFull (record l { progress = progress; left = left }) layout frames
full_at l layout frames full progress left stage = record {
  layout_is = full.layout_is;
  frames_are = full.frames_are;
  said = full.said;
  asked = full.asked;
  heard_at = full.heard_at;
  seen = full.seen;
  stage = stage;
  words = record { said = full.words.said; heard = full.words.heard };
}

module _ (l : Ledger) (layout : Layout) (frames : ℕ) (full : IsFull l layout frames) (f k q s : ℕ) (w : Option ℕ) (pages : Pages)
    (place : IsPlace (ranges_in l.pages) l.pages.unit q k f) (one : 1 ≤ s) where
  -- the ranges of the lists
  abbrev r : Ranges
  r = ranges_of layout frames

  -- they are the journal's
  ranges_are : ranges_in l.pages ≡ r
  ranges_are i = ranges_of (full.layout_is i) (full.frames_are i)

  -- and after a note as well
  now_are : IsJournalOf pages l.pages.layout l.pages.unit l.pages.frames → ranges_in pages ≡ ranges_in l.pages
  now_are owner i = ranges_of (owner.layout_is i) (owner.frames_are i)

  -- the entry is there
  entry : IsEntry r f k q
  entry = subst (λ (x : Ranges). IsEntry x f k q) ranges_are (record { frame = place.frame; slot = place.cell.slot; unit = place.cell.unit })

  -- the journal counts it by the same number
  number_is : entry_number r f k q ≡ entry_number (ranges_in l.pages) f k q
  number_is i = entry_number (sym ranges_are i) f k q

  -- what a note at this number notes as said
  pub noted_said : (i : ℕ) → i ≡ entry_number r f k q → NotesSaidAt l.pages pages i w → NotesSaid l.pages pages f k q w
  noted_said i is noted = noted f k q (entry_of l.pages f k q place) (is ∙ number_is)

  -- and as heard
  pub noted_heard : (i : ℕ) → i ≡ entry_number r f k q → NotesHeardAt l.pages pages i w → NotesHeard l.pages pages f k q w
  noted_heard i is noted = noted f k q (entry_of l.pages f k q place) (is ∙ number_is)

  -- a list with another number there
  abbrev set : List ℕ → ℕ → List ℕ
  set xs n = slice_set xs (entry_number r f k q) n

  -- the ledger after a saying
  pub ledger_said : NotesSaid l.pages pages f k q w → Becomes l (record l { pages = pages; said = set l.said s }) (with_said (conduct_in l) f k q s w)
  ledger_said noted =
      let same = now_are noted.owner in
      let stamped : sayings_by (ranges_in pages) (set l.said s) (said_in pages)
      ≡ put_at (sayings_by (ranges_in l.pages) l.said (said_in l.pages)) f k q (Some (saying s w)) =
      (λ i. sayings_by ((same ∙ ranges_are) i) (set l.said s) (noted.said i))
      ∙ (sayings_put r l.said (said_in l.pages) f k q s w entry full.said one
      ∙ (λ i. put_at (sayings_by (sym ranges_are i) l.said (said_in l.pages)) f k q (Some (saying s w)))) in record {
        owner = noted.owner;
        conduct = λ i. record (conduct_in l) { said = stamped i; heard = hearings_by (same i) l.asked l.heard_at (noted.heard i) };
      }

  -- the ledger after a hearing
  pub ledger_heard : NotesHeard l.pages pages f k q w →
      Becomes l (record l { pages = pages; asked = set l.asked s; heard_at = set l.heard_at l.progress }) (with_heard (conduct_in l) f k q s w)
  ledger_heard noted =
      let same = now_are noted.owner in
      let h : ℕ = l.progress in
      let words = heard_in l.pages in
      let stamped : hearings_by (ranges_in pages) (set l.asked s) (set l.heard_at h) (heard_in pages)
      ≡ put_at (hearings_by (ranges_in l.pages) l.asked l.heard_at words) f k q (Some (hearing s h w)) =
      (λ i. hearings_by ((same ∙ ranges_are) i) (set l.asked s) (set l.heard_at h) (noted.heard i))
      ∙ (hearings_put r l.asked l.heard_at words f k q s h w entry full.asked full.heard_at one
      ∙ (λ i. put_at (hearings_by (sym ranges_are i) l.asked l.heard_at words) f k q (Some (hearing s h w)))) in record {
        owner = noted.owner;
        conduct = λ i. record (conduct_in l) { said = sayings_by (same i) l.said (noted.said i); heard = stamped i };
      }
