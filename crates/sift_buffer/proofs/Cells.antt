-- What a packed cell gives back.
use Rattle.std.proofs.Common.{◌≡◌, ◌≢◌, ℕ, ◌+◌, ◌*◌, ◌/◌, ◌%◌, ◌<◌, ◌≤◌, Option, Some, None, refl, sym, ap, ◌∙◌, arith, eq-eqb, ne_eqb}
use Rattle.std.proofs.lemmas.Nat.{div-mul-add, mod-mul-add}
use Rattle.sift_buffer.specs.Cell.{stamp_weight, presence_weight, content_of, packed, taken, IsWord, PackingIsTaken}

-- the content is less than one stamp counts
content_low : (w : Option ℕ) → IsWord w → content_of w < stamp_weight
content_low None h = omega arith
content_low (Some w) h = omega arith

-- a cell gives its own stamp the word that it was packed with
pub taken_same : (s : ℕ) (w : Option ℕ) → IsWord w → taken (packed s w) s ≡ w
unfolding taken
taken_same s None h = rw (div-mul-add s stamp_weight 0 (omega arith), mod-mul-add s stamp_weight 0 (omega arith), eq-eqb s s refl) refl
taken_same s (Some w) h =
    let low : presence_weight + w < stamp_weight = omega arith in
    let mark : (presence_weight + w) / presence_weight ≡ 1 = div-mul-add 1 presence_weight w h in
    let as_words : s * stamp_weight + (presence_weight + w) ≡ (s * 2 + 1) * presence_weight + w = omega arith in
    let word : (s * stamp_weight + (presence_weight + w)) % presence_weight ≡ w =
    ap (λ (n : ℕ). n % presence_weight) as_words ∙ mod-mul-add (s * 2 + 1) presence_weight w h in
    rw (div-mul-add s stamp_weight (presence_weight + w) low, mod-mul-add s stamp_weight (presence_weight + w) low, eq-eqb s s refl, mark, word) refl

-- and nothing to another stamp
pub taken_other : (s wanted : ℕ) (w : Option ℕ) → IsWord w → wanted ≢ s → taken (packed s w) wanted ≡ None
unfolding taken
taken_other s wanted w h other = rw (div-mul-add s stamp_weight (content_of w) (content_low w h), ne_eqb s wanted (λ e. other (sym e))) refl

-- nothing is taken of a cell in which nothing was stored, by any stamp from 1 on
pub taken_zero : (s : ℕ) → 1 ≤ s → taken 0 s ≡ None
taken_zero s h = taken_other 0 s None tt (λ e. omega arith)

-- the law of packed cells
pub packing : PackingIsTaken
packing = record { own = taken_same; other = taken_other }
