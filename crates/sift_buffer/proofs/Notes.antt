-- A word written into a journal is noted there.
use Rattle.std.proofs.Common.{ℕ, Option, None, slice_set, refl}
use Rattle.sift_buffer.specs.Ranges.{IsPlace}
use Rattle.sift_buffer.specs.Tables.{IsEntry, entry_number}
use Rattle.sift_buffer.specs.Journals.{Pages, ranges_in, NotesSaid, NotesHeard}
use Rattle.sift_buffer.specs.Sizes.{IsSized}
use Rattle.sift_buffer.proofs.lemmas.Tables.{entry_set}

-- the entry of a place is there
pub entry_of : (j : Pages) (f k q : ℕ) → IsPlace (ranges_in j) j.unit q k f → IsEntry (ranges_in j) f k q
entry_of j f k q place = record { frame = place.frame; slot = place.cell.slot; unit = place.cell.unit }

module _ (j : Pages) (word : Option ℕ) (sized : IsSized j) (f k q : ℕ) (within : IsEntry (ranges_in j) f k q) where
  -- as said
  pub said_noted : NotesSaid j (record j { said = slice_set j.said (entry_number (ranges_in j) f k q) word }) f k q word
  said_noted = record {
    owner = record { layout_is = refl; unit_is = refl; frames_are = refl };
    said = entry_set None (ranges_in j) j.said f k q word within sized.said;
    heard = refl;
  }

  -- as heard
  pub heard_noted : NotesHeard j (record j { heard = slice_set j.heard (entry_number (ranges_in j) f k q) word }) f k q word
  heard_noted = record {
    owner = record { layout_is = refl; unit_is = refl; frames_are = refl };
    said = refl;
    heard = entry_set None (ranges_in j) j.heard f k q word within sized.heard;
  }
