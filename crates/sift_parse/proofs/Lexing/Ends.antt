-- Bytes that end a word or a number, and words before them.
use Rattle.std.proofs.Common.{◌≡◌, ℕ, ◌<◌, ◌⊎◌, inl, inr, List, [], ◌∷◌, ◌++◌, length, take, drop, refl, sym, subst, arith, length-append}
use Rattle.std.specs.Char.{IsAsciiAlphabetic, digit_value}
use Rattle.std.specs.Str.{byte}
use Rattle.std.proofs.lemmas.Str.Parse.{digit_from_value}
use Rattle.std.proofs.Math.Seq.{take-append_seam, drop-append_seam, get_or-append_seam}
use Rattle.sift_base.specs.Name.{HasNameForm, IsNameByte}
use Rattle.sift_parse.specs.Lexeme.{Lexeme, word, IsLexeme}
use Rattle.sift_parse.specs.Written.{IsLexemeAt, BeginsLetter}
use Rattle.sift_parse.proofs.Lexing.Fronts.{words-found}
use Rattle.sift_parse.proofs.Lexing.Words.{front-byte, name-bytes}

-- ---- bytes that end a word or a number

-- a byte with which no word, no number and no sign goes on, as a blank, a dot and a `;`
abbrev pub Ends : ℕ → Type 0
Ends b = (b < 48) ⊎ (b ≡ 59)

ends-name : (b : ℕ) → Ends b → IsNameByte b → ⊥
ends-name b (inl h) (inl x) = omega arith
ends-name b (inl h) (inr (inl x)) = omega arith
ends-name b (inl h) (inr (inr x)) = omega arith
ends-name b (inr h) (inl x) = omega arith
ends-name b (inr h) (inr (inl x)) = omega arith
ends-name b (inr h) (inr (inr x)) = omega arith

-- a byte that ends words and numbers is no letter and no `_`
pub ends-letter : (b : ℕ) → Ends b → IsAsciiAlphabetic b ⊎ (b ≡ byte "_") → ⊥
ends-letter b (inl h) (inl (inl x)) = omega arith
ends-letter b (inl h) (inl (inr x)) = omega arith
ends-letter b (inl h) (inr x) = omega arith
ends-letter b (inr h) (inl (inl x)) = omega arith
ends-letter b (inr h) (inl (inr x)) = omega arith
ends-letter b (inr h) (inr x) = omega arith

-- a byte that ends words and numbers is no decimal digit
pub ends-digit : (b : ℕ) → Ends b → digit_value b < 10 → ⊥
ends-digit b (inl h) x = let d = digit_from_value b x in omega arith
ends-digit b (inr h) x = let d = digit_from_value b x in omega arith

-- no byte above `;` is one that ends words and numbers
pub ends-low : (b c : ℕ) → Ends b → c ≡ b → 59 < c → ⊥
ends-low b c (inl h) e lt = omega arith
ends-low b c (inr h) e lt = omega arith

-- ---- words

begins_letter : (w rest : List ℕ) → HasNameForm w → BeginsLetter (w ++ rest)
begins_letter [] rest h = absurd h
begins_letter (b ∷ w) rest h = h.0

-- where the parts of joined bytes are the lexeme and what follows it
pub parted : (w rest : List ℕ) (l : List ℕ → Lexeme) → IsLexemeAt (w ++ rest) (l (take (length w) (w ++ rest))) (length w)
    → IsLexeme (w ++ rest) (l w) rest
parted w rest l x =
    subst (λ t. IsLexeme (w ++ rest) (l w) t) (drop-append_seam w rest)
    (subst (λ v. IsLexeme (w ++ rest) (l v) (drop (length w) (w ++ rest))) (take-append_seam w rest) x.lexeme)

-- a word before a byte that ends it
pub word-front : (w : List ℕ) (b : ℕ) (rest : List ℕ) → HasNameForm w → Ends b → IsLexeme (w ++ (b ∷ rest)) (word w) (b ∷ rest)
word-front w b rest form ends =
    let long = length-append w (b ∷ rest) in
    parted w (b ∷ rest) word (words-found (w ++ (b ∷ rest)) (length w) (begins_letter w (b ∷ rest) form) (record {
      within = omega arith;
      each = λ k lt. subst IsNameByte (sym (front-byte (w ++ (b ∷ rest)) w (b ∷ rest) k refl lt)) (name-bytes w form k lt);
      stops = λ lt x. ends-name b ends (subst IsNameByte (get_or-append_seam w b rest 0) x);
    }))
