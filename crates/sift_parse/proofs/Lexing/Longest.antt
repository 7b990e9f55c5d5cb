-- A number at the front is the longest run of its digits.
use Rattle.std.proofs.Common.{◌≡◌, ℕ, ◌+◌, ◌<◌, List, [], ◌∷◌, ◌++◌, length, take, drop, slice_index, sym, ap, ◌∙◌, subst, arith}
use Rattle.std.specs.Char.{IsAsciiDigit, digit_value}
use Rattle.std.specs.Str.Parse.{digits_value}
use Rattle.std.proofs.Math.Seq.{drop-append_seam}
use Rattle.sift_parse.specs.Lexeme.{Lexeme, word, numeral, operator, mark, MayStandBefore, IsLexeme}
use Rattle.sift_parse.specs.Written.{kept, IsLexemeAt, NoLexemeAt, Continues, BeginsDigit, IsNumberAt, ten, sixteen}
use Rattle.sift_parse.proofs.Lexing.Words.{Begun, begun, front-within, run-take}
use Rattle.sift_parse.proofs.Lexing.Digits.{IsLongest, number-longest}

parted-by : (n : ℕ) (next : List ℕ) → ¬ Continues next → MayStandBefore (numeral n) next
parted-by n [] h = tt
parted-by n (b ∷ next) h = h

unparted : (n : ℕ) (next : List ℕ) → Continues next → MayStandBefore (numeral n) next → ⊥
unparted n [] h p = h
unparted n (b ∷ next) h p = p h

rest-drop : (text front rest : List ℕ) → text ≡ front ++ rest → rest ≡ drop (length front) text
rest-drop text front rest e = sym (ap (drop (length front)) e ∙ drop-append_seam front rest)

lexeme-of-longest : (text : List ℕ) (n size : ℕ) (next : List ℕ) → IsLongest text n size next → ¬ Continues next
    → IsLexemeAt text (numeral n) size
lexeme-of-longest text n size next x h = record {
  some = (let s = x.some in omega (arith, x.long));
  within = (let w = front-within text x.spelled next x.split in omega (arith, x.long));
  lexeme =
      record {
        spelled = x.spelled;
        split = x.split
            ∙ ap (λ l. x.spelled ++ l) (rest-drop text x.spelled next x.split ∙ ap (λ k. drop k text) x.long);
        spells = x.spells;
        longest = x.longest;
        parted = subst (MayStandBefore (numeral n)) (rest-drop text x.spelled next x.split ∙ ap (λ k. drop k text) x.long)
            (parted-by n next h);
      };
}

none-of-longest : (b : ℕ) (ts : List ℕ) (n size : ℕ) (next : List ℕ) → IsAsciiDigit b → IsLongest (b ∷ ts) n size next → Continues next
    → (l : Lexeme) (rest : List ℕ) → (y : IsLexeme (b ∷ ts) l rest) → Begun l b → ⊥
none-of-longest b ts n size next digit x h (word w) rest y k = omega arith
none-of-longest b ts n size next digit x h (operator op) rest y k = k.1 digit
none-of-longest b ts n size next digit x h (mark s) rest y k = k.1 digit
none-of-longest b ts n size next digit x h (numeral m) rest y k =
    let up = x.longest (numeral m) y.spelled rest y.split y.spells in
    let down = y.longest (numeral n) x.spelled next x.split x.spells in
    let long : length y.spelled ≡ length x.spelled = omega arith in
    let same : rest ≡ next = rest-drop (b ∷ ts) y.spelled rest y.split ∙ (ap (λ k. drop k (b ∷ ts)) long ∙ sym (rest-drop (b ∷ ts) x.spelled next x.split)) in
    unparted m next h (subst (MayStandBefore (numeral m)) same y.parted)

-- a number that nothing goes on with is the lexeme at the front
pub number-at : (text : List ℕ) (radix start n : ℕ) → BeginsDigit text → IsNumberAt text radix start n
    → ¬ Continues (drop n (drop start text)) → IsLexemeAt text (numeral (kept (digits_value radix (take n (drop start text))))) (start + n)
number-at text radix start n d p h = lexeme-of-longest text _ (start + n) (drop n (drop start text)) (number-longest text radix start n d p) h

-- a number that is gone on with is no lexeme
pub number-none : (text : List ℕ) (radix start n : ℕ) → BeginsDigit text → IsNumberAt text radix start n
    → Continues (drop n (drop start text)) → NoLexemeAt text
number-none [] radix start n d p h l rest y = d
number-none (b ∷ ts) radix start n d p h l rest y =
    none-of-longest b ts _ (start + n) (drop n (drop start (b ∷ ts))) d (number-longest (b ∷ ts) radix start n d p) h l rest y
    (begun l b ts y.spelled rest y.spells y.split)

-- the digits of a number are digits of its radix, and its parts are within the text
pub number-digits : (text : List ℕ) (radix start n : ℕ) → IsNumberAt text radix start n → (k : ℕ) → k < length (take n (drop start text))
    → digit_value (slice_index (take n (drop start text)) k) < radix
number-digits text radix start n (ten m bare run) = run-take (λ b. digit_value b < 10) text m run
number-digits text radix start n (sixteen m some run) = run-take (λ b. digit_value b < 16) (drop 2 text) m run.run
