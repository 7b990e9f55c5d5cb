-- A cell: one number that carries a stamp, a mark of presence, and a word.
use Rattle.sift_base.specs.Word.{word_count}
use Rattle.std.specs.Prelude.{◌≡◌, ◌≢◌, ℕ, ◌+◌, ◌*◌, ◌/◌, ◌%◌, ◌<◌, ◌==◌, ◌&&◌, IsTrue, Option, Some, None, if◌then◌else◌}

-- what one stamp counts in a cell
abbrev pub stamp_weight : ℕ
stamp_weight = 131072

-- what the mark of presence counts in a cell, above each word
abbrev pub presence_weight : ℕ
presence_weight = 65536

-- a place holds a word or is absent: each word is one of the computer's memory
abbrev pub IsWord : Option ℕ → Type 0
IsWord None = Unit {0}
IsWord (Some word) = word < word_count

-- the part of a cell that tells presence and word; an absent word is unmarked and 0
abbrev pub content_of : Option ℕ → ℕ
content_of None = 0
content_of (Some word) = presence_weight + word

-- the cell that carries this stamp with a word or with absence
abbrev pub packed : ℕ → Option ℕ → ℕ
packed stamp word = stamp * stamp_weight + content_of word

-- the cell is present, and carries this stamp
abbrev pub CarriesWord : ℕ → ℕ → Type 0
CarriesWord cell stamp = (cell / stamp_weight ≡ stamp) × IsTrue ((cell % stamp_weight) / presence_weight == 1)

-- what is taken of a cell by a stamp: its word, which stands below the mark of presence, where it is present with this stamp; else absence
unfoldable pub taken : ℕ → ℕ → Option ℕ
taken cell stamp =
    if (cell / stamp_weight == stamp) && ((cell % stamp_weight) / presence_weight == 1) then Some (cell % presence_weight) else None

-- what was packed is taken by its own stamp, and by no other
pub record PackingIsTaken : Type 0 where
  pub own : (stamp : ℕ) (word : Option ℕ) → IsWord word → taken (packed stamp word) stamp ≡ word
  pub other : (stamp wanted : ℕ) (word : Option ℕ) → IsWord word → wanted ≢ stamp → taken (packed stamp word) wanted ≡ None
