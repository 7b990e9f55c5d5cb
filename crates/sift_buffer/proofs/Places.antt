-- Each cell has a place of its own among the shared words, behind the progress numbers.
use Rattle.std.proofs.Common.{◌≡◌, ◌≢◌, ℕ, ◌+◌, ◌*◌, ◌/◌, ◌%◌, ◌<◌, sym, ap, ◌∙◌, arith, mul_comm}
use Rattle.std.proofs.lemmas.Nat.{div-mul-add, mod-mul-add, mul-add-lt}
use Rattle.sift_buffer.specs.Ranges.{Ranges, shared_words, place}

-- a row and a column are told by their number
pub split_row : (a b a' b' w : ℕ) → b < w → b' < w → a * w + b ≡ a' * w + b' → (a ≡ a') × (b ≡ b')
split_row a b a' b' w h h' e = (
  sym (div-mul-add a w b h) ∙ (ap (λ (n : ℕ). n / w) e ∙ div-mul-add a' w b' h'),
  sym (mod-mul-add a w b h) ∙ (ap (λ (n : ℕ). n % w) e ∙ mod-mul-add a' w b' h'),
)

-- different cells have different places
pub place_apart : (r : Ranges) (p q k p' q' k' : ℕ) → q < r.units → k < r.slots → q' < r.units → k' < r.slots →
    place r p q k ≡ place r p' q' k' → (p ≡ p') × (q ≡ q') × (k ≡ k')
place_apart r p q k p' q' k' hq hk hq' hk' e =
    let rows : (p * r.units + q) * r.slots + k ≡ (p' * r.units + q') * r.slots + k' = omega arith in
    let slots = split_row (p * r.units + q) k (p' * r.units + q') k' r.slots hk hk' rows in
    let units = split_row p q p' q' r.units hq hq' slots.0 in
    (units.0, units.1, slots.1)

-- each place is one of the shared words
pub place_low : (r : Ranges) (p q k : ℕ) → p < r.units → q < r.units → k < r.slots → place r p q k < shared_words r
place_low r p q k hp hq hk =
    let pair : p * r.units + q < r.units * r.units = mul-add-lt p r.units q r.units hp hq in
    let cell : (p * r.units + q) * r.slots + k < r.slots * (r.units * r.units) =
    mul-add-lt (p * r.units + q) r.slots k (r.units * r.units) pair hk in
    omega (arith, mul_comm r.slots (r.units * r.units))

-- and behind the progress numbers
pub place_high : (r : Ranges) (p q k n : ℕ) → n < r.units → place r p q k ≢ n
place_high r p q k n h e = omega arith
