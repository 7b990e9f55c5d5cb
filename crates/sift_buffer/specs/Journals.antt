-- What a contract sees of a journal: whose it is, and the words that its unit said and heard.
use Rattle.std.specs.Prelude.{◌≡◌, ℕ, List, [], Option, None, option_and_then}
use Rattle.sift_base.specs.declared.slots.Layout.{Layout}
use Rattle.sift_buffer.specs.Ranges.{Ranges}
use Rattle.sift_buffer.specs.Conduct.{Conduct, put_at}
use Rattle.sift_buffer.specs.Tables.{ranges_of, IsEntry, entry_number, entry_at}

-- a journal: the layout, the unit, the number of frames, and the words said and heard, each for every frame, slot and unit
pub record Pages : Type 0 where
  pub layout : Layout
  pub unit : ℕ
  pub frames : ℕ
  pub said : List (Option ℕ)
  pub heard : List (Option ℕ)

-- an empty journal, which stands for that of a unit that isn't there
abbrev pub no_pages : Pages
no_pages = record { layout = record { units = 0; sensors = 0; words = 0 }; unit = 0; frames = 0; said = []; heard = [] }

-- the numbers of units, slots and frames of a journal
abbrev pub ranges_in : Pages → Ranges
ranges_in j = ranges_of j.layout j.frames

-- the word that the unit said in a frame and slot to a unit, or absence
abbrev pub said_in : Pages → ℕ → ℕ → ℕ → Option ℕ
said_in j = entry_at None (ranges_in j) j.said

-- the word that the unit heard in a frame and slot from a unit, or absence
abbrev pub heard_in : Pages → ℕ → ℕ → ℕ → Option ℕ
heard_in j = entry_at None (ranges_in j) j.heard

-- it is a journal of this layout, unit and number of frames
pub record IsJournalOf (j : Pages) (layout : Layout) (unit frames : ℕ) : Type 0 where
  pub layout_is : j.layout ≡ layout
  pub unit_is : j.unit ≡ unit
  pub frames_are : j.frames ≡ frames

-- and nothing was said or heard
pub record IsBlank (j : Pages) (layout : Layout) (unit frames : ℕ) : Type 0 where
  pub owner : IsJournalOf j layout unit frames
  pub said : said_in j ≡ (λ _ _ _. None)
  pub heard : heard_in j ≡ (λ _ _ _. None)

-- it has just the words of this conduct: absence where nothing was said, and where nothing was heard
pub record HasWordsOf (d : Conduct) (j : Pages) : Type 0 where
  pub said : (f k q : ℕ) → said_in j f k q ≡ option_and_then (λ act. act.word) (d.said f k q)
  pub heard : (f k p : ℕ) → heard_in j f k p ≡ option_and_then (λ act. act.word) (d.heard f k p)

-- one word more was noted as said, and nothing else changed
pub record NotesSaid (old new : Pages) (f k q : ℕ) (word : Option ℕ) : Type 0 where
  pub owner : IsJournalOf new old.layout old.unit old.frames
  pub said : said_in new ≡ put_at (said_in old) f k q word
  pub heard : heard_in new ≡ heard_in old

-- one word more was noted as heard, and nothing else changed
pub record NotesHeard (old new : Pages) (f k p : ℕ) (word : Option ℕ) : Type 0 where
  pub owner : IsJournalOf new old.layout old.unit old.frames
  pub said : said_in new ≡ said_in old
  pub heard : heard_in new ≡ put_at (heard_in old) f k p word

-- one word more was noted as said, in the frame and slot and to the unit whose entry has this number
abbrev pub NotesSaidAt : Pages → Pages → ℕ → Option ℕ → Type 0
NotesSaidAt old new entry word = (f k q : ℕ) → IsEntry (ranges_in old) f k q → entry ≡ entry_number (ranges_in old) f k q → NotesSaid old new f k q word

-- and as heard
abbrev pub NotesHeardAt : Pages → Pages → ℕ → Option ℕ → Type 0
NotesHeardAt old new entry word = (f k p : ℕ) → IsEntry (ranges_in old) f k p → entry ≡ entry_number (ranges_in old) f k p → NotesHeard old new f k p word
