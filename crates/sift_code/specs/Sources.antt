-- Where the instructions that only push a word read it. No public clause cites this module.
use Rattle.std.specs.Prelude.{◌≡◌, ℕ, List, [], ◌∷◌, length, map, slice_index, slice_index_or}
use Rattle.std.specs.Borrow.{Bor}
use Rattle.sift_code.specs.declared.instr.Instr.{Instr}
use Rattle.sift_code.specs.declared.instr.Instr.TheVariants.{Push, Sense, Now, Last}
use Rattle.sift_code.specs.declared.instr.Source.{Source}
use Rattle.sift_code.specs.Machine.{Inputs}

-- a word of the instruction's own is added to the 0 of list 0; the others are read from the lists of what was sensed or voted
abbrev pub source_of : Instr → Source
source_of (Push w) = record { list = 0; at = 0; plus = w }
source_of (Sense x) = record { list = 1; at = x; plus = 0 }
source_of (Now w) = record { list = 2; at = w; plus = 0 }
source_of (Last w) = record { list = 3; at = w; plus = 0 }
source_of _ = record { list = 4; at = 0; plus = 0 }

-- the words of a list
abbrev pub words_at : List (Bor (List ℕ)) → ℕ → List ℕ
words_at lists k = slice_index_or (map (λ list. list.now) lists) k []

-- a word is the sum of the word at the source's place and the source's own, where one of them is 0
pub record IsWordAt (lists : List (Bor (List ℕ))) (s : Source) (word : ℕ) : Type 0 where
  pub own : slice_index (words_at lists s.list) s.at ≡ 0 → word ≡ s.plus
  pub there : s.plus ≡ 0 → word ≡ slice_index (words_at lists s.list) s.at

-- the lists that a run reads: a 0 alone, the words sensed, those voted in this frame, and those voted in the frame before
pub record AreLists (lists : List (Bor (List ℕ))) : Type 0 where
  pub four : length lists ≡ 4
  pub zero : words_at lists 0 ≡ 0 ∷ []

-- the three lists of what was sensed or voted
abbrev pub inputs_of : List (Bor (List ℕ)) → Inputs
inputs_of lists = record { sensed = words_at lists 1; made = words_at lists 2; last = words_at lists 3 }
