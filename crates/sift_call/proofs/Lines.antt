-- The first line of a text, and the lines of the rest.
use Rattle.std.proofs.Common.{◌≡◌, inl, inr, ℕ, ◌<◌, ◌+◌, ◌==◌, List, [], ◌∷◌, Bool, length, suc, take, drop, refl, arith}
use Rattle.std.specs.List.{position_or_len, before_first, after_first}
use Rattle.std.proofs.lemmas.Bool.{cases_Bool}
use Rattle.sift_call.specs.Words.{begun_with, line_end, lines}

-- a byte ends a line
abbrev ends : ℕ → Bool
ends byte = byte == line_end

-- what stands before a place and after it, one byte on
moved : (byte : ℕ) (bytes : List ℕ) (n : ℕ) → (take (1 + n) (byte ∷ bytes) ≡ byte ∷ take n bytes) × (drop (1 + n + 1) (byte ∷ bytes) ≡ drop (n + 1) bytes)
moved byte bytes n =
    let one : 1 + n ≡ suc n = omega arith in
    let two : 1 + n + 1 ≡ suc (n + 1) = omega arith in
    (rw one refl, rw two refl)

-- the first line ends at the first line feed
pub cut : (bytes : List ℕ) → position_or_len ends bytes < length bytes → lines bytes ≡ before_first ends bytes ∷ lines (after_first ends bytes)
cut [] low = absurd (omega (arith, low))
cut (byte ∷ bytes) low =
    elim (cases_Bool (ends byte)) [
      | inl is ↦ rw is refl
      | inr other ↦
          let rest : lines bytes ≡ before_first ends bytes ∷ lines (after_first ends bytes) = cut bytes (let less = rw other at low in omega (arith, less)) in
          let next = moved byte bytes (position_or_len ends bytes) in
          rw other (rw rest (rw next.0 (rw next.1 refl)))
    ]

-- the one line of a text without a line feed, if it has a byte
abbrev alone : List ℕ → List (List ℕ)
alone [] = []
alone (byte ∷ bytes) = (byte ∷ bytes) ∷ []

begun : (byte : ℕ) (bytes : List ℕ) → begun_with byte (alone bytes) ≡ (byte ∷ bytes) ∷ []
begun byte [] = refl
begun byte (next ∷ more) = refl

uncut : (bytes : List ℕ) → position_or_len ends bytes ≡ length bytes → lines bytes ≡ alone bytes
uncut [] none = refl
uncut (byte ∷ bytes) none =
    elim (cases_Bool (ends byte)) [
      | inl is ↦ absurd (let e = rw is at none in omega (arith, e))
      | inr other ↦
          let rest : lines bytes ≡ alone bytes = uncut bytes (let e = rw other at none in omega (arith, e)) in
          rw other (rw rest (begun byte bytes))
    ]

-- a text without a line feed is its one line
pub last_line : (bytes : List ℕ) → 0 < length bytes → position_or_len ends bytes ≡ length bytes → lines bytes ≡ bytes ∷ []
last_line [] some none = absurd (omega (arith, some))
last_line (byte ∷ bytes) some none = uncut (byte ∷ bytes) none
