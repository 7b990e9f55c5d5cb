-- The text of a run: how far apart its working clocks were in each round.
use Rattle.std.specs.Prelude.{codes, ◌≡◌, ℕ, ◌+◌, ◌<◌, List, [], ◌∷◌, ◌++◌, length, ℤ, ◌≤ℤ◌}
use Rattle.std.specs.Fmt.{decimal, signed_decimal}
use Rattle.std.specs.List.{AllZip}
use Rattle.sift_skew.specs.Figures.{AreInRange, IsHighest, IsSkew}
use Rattle.sift_clocklab.specs.Laboratory.{Laboratory}
use Rattle.sift_clocklab.specs.Skew.{IsKept}

-- the line of a round
abbrev pub round_line : ℕ → ℤ → List ℕ
round_line round skew = codes "round=" ++ (decimal round ++ (codes " skew=" ++ (signed_decimal skew ++ codes "\n")))

-- the lines of rounds that follow one another, from this one on
abbrev pub round_lines : ℕ → List ℤ → List ℕ
round_lines round [] = []
round_lines round (skew ∷ skews) = round_line round skew ++ round_lines (round + 1) skews

-- the last line: how many clocks there were, and how many of them faulty, the largest skew, and the bound that it had
abbrev pub last_line : ℕ → ℕ → ℤ → ℤ → List ℕ
last_line n m most bound = codes "clocks n=" ++ (decimal n ++ (codes " m=" ++ (decimal m ++ (codes " most="
    ++ (signed_decimal most ++ (codes " bound=" ++ (signed_decimal bound ++ codes "\n")))))))

-- the text of a run with these offsets: a line with the skew of each round, the start included, and the last one with the
-- largest of all
pub record IsTextOf (lab : Laboratory) (offsets : List (List ℤ)) (text : List ℕ) : Type 0 where
  pub skews : List ℤ
  pub of_rounds : AllZip IsSkew offsets skews
  pub most : ℤ
  pub largest : IsHighest skews most
  pub lines : text ≡ round_lines 0 skews ++ last_line lab.n lab.m most lab.skew

-- there are offsets, and their skew is told
pub record HasSkew (offsets : List ℤ) : Type 0 where
  pub some : 0 < length offsets
  pub in_range : AreInRange offsets

-- ---- laws

-- a run has one text
abbrev pub OneTextOfARun : Type 0
OneTextOfARun =
    (lab : Laboratory) (offsets : List (List ℤ)) (a b : List ℕ) → IsTextOf lab offsets a → IsTextOf lab offsets b
    → a ≡ b

-- where a run is kept, the largest skew is no more than the bound
abbrev pub MostIsWithinTheBound : Type 0
MostIsWithinTheBound =
    (lab : Laboratory) (offsets : List (List ℤ)) (text : List ℕ) → IsKept lab offsets
    → (told : IsTextOf lab offsets text) →
    told.most ≤ℤ lab.skew
