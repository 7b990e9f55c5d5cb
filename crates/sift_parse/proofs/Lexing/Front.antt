-- The lexeme at the front of a text: a number before a byte that ends it, and a sign of one byte.
use Rattle.std.proofs.Common.{◌≡◌, ℕ, ◌+◌, ◌<◌, ◌≤◌, ◌⊎◌, inl, inr, ◌==◌, false, List, [], ◌∷◌, ◌++◌, length, take, codes, refl, sym, ap, ◌∙◌, subst, arith, length-append}
use Rattle.std.specs.Char.{digit_value}
use Rattle.std.specs.Str.{byte}
use Rattle.std.specs.Str.Parse.{digits_value, AllDigits}
use Rattle.std.proofs.lemmas.Bool.Decides.{nat_tests}
use Rattle.std.proofs.lemmas.Str.Parse.{digit_from_value}
use Rattle.std.proofs.Math.Seq.{drop-append_seam, get_or-append_seam}
use Rattle.sift_lang.specs.declared.tree.Op.TheVariants.{Shl, Shr, Eq}
use Rattle.sift_parse.specs.declared.token.Sign.TheVariants.{Assign}
use Rattle.sift_parse.specs.Lexeme.{Lexeme, word, numeral, operator, mark, IsLexeme, is_blank, after_gap}
use Rattle.sift_parse.specs.Written.{kept, SpellsSign, IsLexemeAt, Continues, BeginsDigit, ten}
use Rattle.sift_parse.proofs.Lexing.Fronts.{NoWord, sign-lexeme}
use Rattle.sift_parse.proofs.Lexing.Longest.{number-at}
use Rattle.sift_parse.proofs.Lexing.Words.{front-byte, digit-bytes}
use Rattle.sift_parse.proofs.Lexing.Ends.{Ends, ends-letter, ends-digit, ends-low, parted}

-- ---- numbers

begins_digit : (ds rest : List ℕ) → 0 < length ds → AllDigits 10 ds → BeginsDigit (ds ++ rest)
begins_digit [] rest some h = absurd (omega arith)
begins_digit (d ∷ ds) rest some h = digit_from_value d h.0

no_prefix : (ds : List ℕ) (b : ℕ) (rest : List ℕ) → 0 < length ds → AllDigits 10 ds → Ends b → take 2 (ds ++ (b ∷ rest)) ≡ codes "0x" → ⊥
no_prefix [] b rest some h ends e = omega arith
no_prefix (d ∷ []) b rest some h ends e = let same : 120 ≡ b = cc in ends-low b 120 ends same (omega arith)
no_prefix (d ∷ c ∷ ds) b rest some h ends e =
    let same : c ≡ 120 = cc in
    let second : digit_value 120 < 10 = subst (λ c. digit_value c < 10) same h.1.0 in
    omega arith

-- a decimal number before a byte that ends it
pub number-front : (ds : List ℕ) (n b : ℕ) (rest : List ℕ) → 0 < length ds → AllDigits 10 ds → kept (digits_value 10 ds) ≡ n → Ends b
    → IsLexeme (ds ++ (b ∷ rest)) (numeral n) (b ∷ rest)
number-front ds n b rest some all value ends =
    let text = ds ++ (b ∷ rest) in
    let long = length-append ds (b ∷ rest) in
    let x = number-at text 10 0 (length ds) (begins_digit ds (b ∷ rest) some all)
    (ten (length ds) (λ e lt h. no_prefix ds b rest some all ends e) (record {
      within = omega arith;
      each = λ k lt. subst (λ c. digit_value c < 10) (sym (front-byte text ds (b ∷ rest) k refl lt)) (digit-bytes 10 ds all k lt);
      stops = λ lt x. ends-digit b ends (subst (λ c. digit_value c < 10) (get_or-append_seam ds b rest 0) x);
    }))
    (λ h. ends-letter b ends (subst Continues (drop-append_seam ds (b ∷ rest)) h)) in
    let same : 0 + length ds ≡ length ds = omega arith in
    subst (λ m. IsLexeme text (numeral m) (b ∷ rest)) value
    (parted ds (b ∷ rest) (λ v. numeral (kept (digits_value 10 v)))
    (subst (IsLexemeAt text (numeral (kept (digits_value 10 (take (length ds) text))))) same x))

-- ---- signs

-- what follows the byte makes no longer sign with it
abbrev pub IsAlone : ℕ → List ℕ → Type 0
IsAlone c [] = Unit {0}
IsAlone c (b ∷ rest) = (c < 60) ⊎ Ends b

two_bytes : (c x y : ℕ) (next front back : List ℕ) → IsAlone c next → c ∷ next ≡ front ++ back → front ≡ x ∷ y ∷ [] → 59 < x → 59 < y → ⊥
two_bytes c x y [] front back h e f lx ly = let g : c ∷ [] ≡ x ∷ y ∷ back = e ∙ ap (λ l. l ++ back) f in cc
two_bytes c x y (b ∷ rest) front back (inl h) e f lx ly =
    let g : c ∷ b ∷ rest ≡ x ∷ y ∷ back = e ∙ ap (λ l. l ++ back) f in let same : c ≡ x = cc in omega arith
two_bytes c x y (b ∷ rest) front back (inr h) e f lx ly =
    let g : c ∷ b ∷ rest ≡ x ∷ y ∷ back = e ∙ ap (λ l. l ++ back) f in let same : y ≡ b = cc in ends-low b y h same ly

one : (front : List ℕ) (c : ℕ) → front ≡ c ∷ [] → length front ≤ 1
one front c e = let n : length front ≡ 1 = ap length e in omega arith

one_byte : (other : Lexeme) (c : ℕ) (next front back : List ℕ) → IsAlone c next → c ∷ next ≡ front ++ back → SpellsSign other front
    → length front ≤ 1
one_byte (word w) c next front back h e s = absurd s
one_byte (numeral n) c next front back h e s = absurd s
one_byte (operator Shl) c next front back h e s = absurd (two_bytes c 60 60 next front back h e s (omega arith) (omega arith))
one_byte (operator Shr) c next front back h e s = absurd (two_bytes c 62 62 next front back h e s (omega arith) (omega arith))
one_byte (operator Eq) c next front back h e s = absurd (two_bytes c 61 61 next front back h e s (omega arith) (omega arith))
one_byte (operator op) c next front back h e s = one front _ s
one_byte (mark Assign) c next front back h e s = one front _ s
one_byte (mark s) c next front back h e spelt = one front _ spelt

-- a sign of one byte, alone
pub sign-front : (l : Lexeme) (c : ℕ) (next : List ℕ) → SpellsSign l (c ∷ []) → NoWord (c ∷ []) → IsAlone c next
    → IsLexeme (c ∷ next) l next
sign-front l c next spells none alone = (sign-lexeme (c ∷ next) l 1 none (record {
  some = omega arith;
  within = omega arith;
  spells = spells;
  longest = λ other front back e s. one_byte other c next front back alone e s;
})).lexeme

-- ---- gaps

-- no gap begins with a byte of a word or a number
pub no_gap : (b : ℕ) (bs : List ℕ) → 48 ≤ b → after_gap (b ∷ bs) ≡ b ∷ bs
no_gap b bs le =
    let blank : is_blank b ≡ false = grind (arith, nat_tests) in
    let comment : (b == byte "#") ≡ false = grind (arith, nat_tests) in
    rw (blank, comment) refl
