-- What a contract sees of the acts that a unit keeps: its journal with stamps, and what it knows.
use Rattle.std.specs.Prelude.{◌≡◌, ℕ, ◌==◌, if◌then◌else◌, List, [], slice_index, Option, Some, None}
use Rattle.sift_base.specs.declared.slots.Layout.{Layout}
use Rattle.sift_buffer.specs.Ranges.{Ranges}
use Rattle.sift_buffer.specs.Conduct.{Saying, Hearing, Stray, Conduct, saying, hearing}
use Rattle.sift_buffer.specs.Tables.{entry_at}
use Rattle.sift_buffer.specs.Journals.{Pages, ranges_in, said_in, heard_in, IsJournalOf, HasWordsOf}

-- a ledger: the journal; the progress number, and where the unit turned the progress at which it left; the numbers seen; and for each frame,
-- slot and unit the stamp said, the stamp asked for and the progress at that hearing, each 0 where there was none. It keeps no strays
pub record Ledger : Type 0 where
  pub pages : Pages
  pub progress : ℕ
  pub left : ℕ
  pub seen : List ℕ
  pub said : List ℕ
  pub asked : List ℕ
  pub heard_at : List ℕ

-- the saying of a word with a stamp, where there was one
abbrev pub saying_of : ℕ → Option ℕ → Option Saying
saying_of s w = if s == 0 then None else Some (saying s w)

-- the hearing of a word with a stamp at a progress, where there was one
abbrev pub hearing_of : ℕ → ℕ → Option ℕ → Option Hearing
hearing_of s h w = if s == 0 then None else Some (hearing s h w)

-- the sayings that a list of stamps and the words tell
abbrev pub sayings_by : Ranges → List ℕ → (ℕ → ℕ → ℕ → Option ℕ) → ℕ → ℕ → ℕ → Option Saying
sayings_by r stamps words f k q = saying_of (entry_at 0 r stamps f k q) (words f k q)

-- the hearings that a list of stamps, a list of progress numbers and the words tell
abbrev pub hearings_by : Ranges → List ℕ → List ℕ → (ℕ → ℕ → ℕ → Option ℕ) → ℕ → ℕ → ℕ → Option Hearing
hearings_by r asked at words f k p = hearing_of (entry_at 0 r asked f k p) (entry_at 0 r at f k p) (words f k p)

-- the conduct that the ledger tells, and no strays
abbrev pub conduct_in : Ledger → Conduct
conduct_in l = record {
  progress = l.progress;
  left = l.left;
  seen = slice_index l.seen;
  said = sayings_by (ranges_in l.pages) l.said (said_in l.pages);
  heard = hearings_by (ranges_in l.pages) l.asked l.heard_at (heard_in l.pages);
  strays = [];
}

-- the conduct that the ledger tells, with these strays of its unit
abbrev pub conduct_with : Ledger → List Stray → Conduct
conduct_with l strays = record (conduct_in l) { strays = strays }

-- a ledger of this layout, unit and number of frames, that tells this conduct
pub record Tells (l : Ledger) (layout : Layout) (unit frames : ℕ) (d : Conduct) : Type 0 where
  pub owner : IsJournalOf l.pages layout unit frames
  pub conduct : conduct_in l ≡ d

-- the ledger of the same unit that tells another conduct
abbrev pub Becomes : Ledger → Ledger → Conduct → Type 0
Becomes old new d = Tells new old.pages.layout old.pages.unit old.pages.frames d

-- the journal has just the words of the conduct that the ledger tells
abbrev pub HasItsWords : Ledger → Type 0
HasItsWords l = HasWordsOf (conduct_in l) l.pages
