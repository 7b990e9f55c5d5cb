-- Rows of cells, as worked out by hand.
use Rattle.std.proofs.Common.{◌≡◌, ◌^◌, ◌-◌, Some, None, [], ◌∷◌, refl}
use Rattle.sift_buffer.specs.Cell.{packed, taken}

-- a stamp and a word, or absence, are packed: 64000 is the last stamp
cells : packed 0 None ∷ packed 1 None ∷ packed 1 (Some 0) ∷ packed 3 (Some 65535) ∷ packed 64000 (Some 7) ∷ []
    ≡ 0 ∷ 131072 ∷ 196608 ∷ 524287 ∷ 8388673543 ∷ []
cells = refl

-- a cell gives its word to its own stamp: absence isn't word 0
own : taken 196608 1 ∷ taken 524287 3 ∷ taken 8388673543 64000 ∷ [] ≡ Some 0 ∷ Some 65535 ∷ Some 7 ∷ []
unfolding taken
own = refl

-- and to no other: to none where nothing was stored or absence was, to no stamp of an earlier or a later frame, nor to one
-- that a word's bits would make; of a stray of all bits nothing is taken
others : taken 0 0 ∷ taken 131072 1 ∷ taken 196608 2 ∷ taken 524287 7 ∷ taken (2 ^ 64 - 1) (2 ^ 32 - 1) ∷ []
    ≡ None ∷ None ∷ None ∷ None ∷ None ∷ []
unfolding taken
others = refl
