-- What is told of a bus, by how many words it got wrong in each frame.
use Rattle.std.specs.Prelude.{codes, ℕ, List, [], ◌∷◌, ◌++◌, Bool, nat_eq, nat_lt, if◌then◌else◌}
use Rattle.std.specs.Fmt.{decimal}
use Rattle.std.specs.List.{concat, flat_map, list_any, range_with_len}

-- the line of a frame in which a bus got so many words wrong
abbrev pub frame_line : (bus f words : ℕ) → List ℕ
frame_line bus f words = concat (codes "f=" ∷ decimal f ∷ codes " bus=" ∷ decimal bus ∷ codes " words=" ∷ decimal words ∷ codes "\n" ∷ [])

-- the same, and nothing where it got none wrong
abbrev pub frame_text : (bus f words : ℕ) → List ℕ
frame_text bus f words = if nat_eq words 0 then [] else frame_line bus f words

-- the last line: the bus is bad, or none is
abbrev pub end_line : (bus : ℕ) → (bad : Bool) → List ℕ
end_line bus bad = concat (codes "buses bad=" ∷ (if bad then decimal bus else codes "-") ∷ codes "\n" ∷ [])

module _ (bus frames : ℕ) (words : ℕ → ℕ) where
  -- it got a word wrong in some frame
  abbrev pub is_bad : Bool
  is_bad = list_any (λ f. nat_lt 0 (words f)) (range_with_len 0 frames)

  -- a line for each frame in which it got words wrong, and whether there is one
  abbrev pub words_text : List ℕ
  words_text = flat_map (λ f. frame_text bus f (words f)) (range_with_len 0 frames) ++ end_line bus is_bad
