-- How a pool lays out its spans: one after another, from the first word to the last. Of this module public clauses cite `pieces` alone.
use Rattle.std.specs.Prelude.{◌≡◌, ℕ, ◌+◌, List, [], ◌∷◌, length, map, take, drop, sum}
use Rattle.sift_pool.specs.Region.{Region, Extent}

-- how many words each span has
abbrev pub lengths : List Extent → List ℕ
lengths extents = map (λ extent. extent.len) extents

-- the words, cut into pieces of these lengths
abbrev pub pieces : List ℕ → List ℕ → List (List ℕ)
pieces [] words = []
pieces (n ∷ ns) words = take n words ∷ pieces ns (drop n words)

-- the region whose spans are cut from these words
abbrev pub laid_region : ℕ → ℕ → List Extent → List ℕ → Region
laid_region capacity room extents words =
    record { capacity = capacity; room = room; spans = pieces (lengths extents) words }

-- spans of these lengths one after another, the first of them with this number and this start
abbrev pub extents_from : ℕ → ℕ → List ℕ → List Extent
extents_from number start [] = []
extents_from number start (n ∷ ns) =
    record { number = number; start = start; len = n } ∷ extents_from (number + 1) (start + n) ns

-- the spans lie one after another, and take up all the words
pub record IsLaid (extents : List Extent) (words : List ℕ) : Type 0 where
  pub in_order : extents ≡ extents_from 0 0 (lengths extents)
  pub whole : sum (lengths extents) ≡ length words
