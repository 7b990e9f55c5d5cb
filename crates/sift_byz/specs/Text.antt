-- The text of vectors: a line for each unit, which says that it lies or has its vector.
use Rattle.std.specs.Prelude.{codes, ℕ, List, ◌++◌, map, if◌then◌else◌}
use Rattle.std.specs.Fmt.{decimal}
use Rattle.std.specs.List.{flat_map, join_with_byte}
use Rattle.std.specs.Str.{byte}
use Rattle.sift_byz.specs.Plan.{ByzPlanData, all_units, tells_some, vector}
use Rattle.sift_line.specs.Part.{word_text}

-- words, with commas between them
abbrev pub words_text : List ℕ → List ℕ
words_text words = join_with_byte (byte ",") (map word_text words)

-- the line of a unit: that it is a traitor, or its vector
abbrev pub line_text : ByzPlanData → (u : ℕ) → (vector : List ℕ) → List ℕ
line_text plan u vector =
    codes "u=" ++ decimal u ++ (if tells_some plan.lies u then codes " liar" else codes " vector=" ++ words_text vector) ++ codes "\n"

-- the lines of all units, with their vectors
abbrev pub text_of : ByzPlanData → List ℕ
text_of plan = flat_map (λ u. line_text plan u (vector plan u)) (all_units plan)
