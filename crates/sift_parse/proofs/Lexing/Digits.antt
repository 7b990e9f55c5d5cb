-- Digits at the front are the longest lexeme there.
use Rattle.std.proofs.Common.{◌≡◌, ℕ, ◌+◌, ◌<◌, ◌≤◌, inl, inr, List, [], ◌∷◌, ◌++◌, length, take, drop, slice_index, codes, refl, sym, ap, ◌∙◌, subst, arith, append_assoc, length-append}
use Rattle.std.specs.Char.{IsAsciiDigit, digit_value}
use Rattle.std.specs.Str.Parse.{digits_value, AllDigits}
use Rattle.std.proofs.lemmas.List.{take-append-drop, length-take-le}
use Rattle.std.proofs.lemmas.Str.{digit_value_digit}
use Rattle.sift_parse.specs.Lexeme.{Lexeme, word, numeral, operator, mark, IsNumeral, Spells}
use Rattle.sift_parse.specs.Written.{kept, IsRun, BeginsDigit, NoHex, IsNumberAt, ten, sixteen}
use Rattle.sift_parse.proofs.Lexing.Words.{Begun, begun, unless, front-byte, within-run, digit-bytes, all-digits, run-take}

-- ---- numbers

-- the longest lexeme at the front is a number, whatever follows it
pub record IsLongest (text : List ℕ) (n size : ℕ) (next : List ℕ) : Type 0 where
  pub spelled : List ℕ
  pub long : length spelled ≡ size
  pub split : text ≡ spelled ++ next
  pub spells : Spells (numeral n) spelled
  pub some : 0 < length spelled
  pub longest : (other : Lexeme) (front back : List ℕ) → text ≡ front ++ back → Spells other front → length front ≤ length spelled

-- only numbers begin with a digit
digit-longest : (b : ℕ) (ts : List ℕ) (n : ℕ) → IsAsciiDigit b
    → ((m : ℕ) (front back : List ℕ) → b ∷ ts ≡ front ++ back → Spells (numeral m) front → length front ≤ n)
    → (other : Lexeme) (front back : List ℕ) → b ∷ ts ≡ front ++ back → Spells other front → Begun other b → length front ≤ n
digit-longest b ts n digit num (word w) front back e h k = absurd (omega arith)
digit-longest b ts n digit num (numeral m) front back e h k = num m front back e h
digit-longest b ts n digit num (operator op) front back e h k = absurd (k.1 digit)
digit-longest b ts n digit num (mark s) front back e h k = absurd (k.1 digit)

hex-parts : (text front back : List ℕ) (m : ℕ) (h : (written : List ℕ) × (front ≡ codes "0x" ++ written) × IsNumeral 16 written m) → text ≡ front ++ back
    → (w : List ℕ) × (text ≡ codes "0x" ++ (w ++ back)) × (length front ≡ 2 + length w) × (0 < length w) × AllDigits 16 w
hex-parts text front back m h e = (
  h.0,
  e ∙ (ap (λ l. l ++ back) h.1 ∙ append_assoc (codes "0x") h.0 back),
  ap length h.1
      ∙ length-append (codes "0x") h.0,
  h.2.some,
  h.2.digits,
)

ten-number : (b : ℕ) (ts : List ℕ) (n : ℕ) → NoHex (b ∷ ts) → IsRun (λ b. digit_value b < 10) (b ∷ ts) n → (m : ℕ) (front back : List ℕ)
    → b ∷ ts ≡ front ++ back → Spells (numeral m) front → length front ≤ n
ten-number b ts n bare run m front back e (inl h) = within-run (λ b. digit_value b < 10) (b ∷ ts) front back n run e (digit-bytes 10 front h.digits)
ten-number b ts n bare run m front back e (inr h) = absurd (never (hex-parts (b ∷ ts) front back m h e))
  where
    never-by : (w : List ℕ) → b ∷ ts ≡ codes "0x" ++ (w ++ back) → 0 < length w → AllDigits 16 w → ⊥
    never-by [] f some digits = omega arith
    never-by (x ∷ xs) f some digits =
        bare (ap (take 2) f) (let g : length (b ∷ ts) ≡ length (codes "0x" ++ ((x ∷ xs) ++ back)) = ap length f in omega arith)
        (subst (λ l. digit_value (slice_index l 2) < 16) (sym f) digits.0)

    never : (w : List ℕ) × (b ∷ ts ≡ codes "0x" ++ (w ++ back)) × (length front ≡ 2 + length w) × (0 < length w) × AllDigits 16 w → ⊥
    never p = never-by p.0 p.1 p.3 p.4

ten-longest : (b : ℕ) (ts : List ℕ) (n : ℕ) → IsAsciiDigit b → NoHex (b ∷ ts) → IsRun (λ b. digit_value b < 10) (b ∷ ts) n
    → IsLongest (b ∷ ts) (kept (digits_value 10 (take n (b ∷ ts)))) (0 + n) (drop n (b ∷ ts))
ten-longest b ts n digit bare run =
    let long : length (take n (b ∷ ts)) ≡ n = length-take-le n (b ∷ ts) run.within in
    let first : digit_value b < 10 = omega (arith, digit_value_digit b digit) in
    let some : 0 < n =
    unless 1 n (λ lt. run.stops (omega arith)
    (let z : n ≡ 0 = omega arith in subst (λ k. digit_value (slice_index (b ∷ ts) k) < 10) (sym z) first)) in
    record {
      spelled = take n (b ∷ ts);
      long = omega arith;
      split = sym (take-append-drop n (b ∷ ts));
      spells = inl (record { some = omega arith; digits = all-digits 10 (take n (b ∷ ts)) (run-take (λ b. digit_value b < 10) (b ∷ ts) n run); value = refl });
      some = omega arith;
      longest =
          λ other front back e h. (let w = digit-longest b ts n digit (ten-number b ts n bare run) other front back e h
          (begun other b ts front back h e) in omega arith);
    }

sixteen-number : (ts : List ℕ) (n : ℕ) → IsRun (λ b. digit_value b < 16) ts n → (m : ℕ) (front back : List ℕ)
    → 48 ∷ 120 ∷ ts ≡ front ++ back → Spells (numeral m) front → length front ≤ 2 + n
sixteen-number ts n run m front back e (inl h) =
    let one =
    unless (length front) 1
    (λ lt. (let x : digit_value (slice_index front 1) < 10 = digit-bytes 10 front h.digits 1 lt in
    let y : digit_value 120 < 10 = subst (λ b. digit_value b < 10) (sym (front-byte (48 ∷ 120 ∷ ts) front back 1 e lt)) x in
    omega arith)) in
    omega arith
sixteen-number ts n run m front back e (inr h) =
    let p = hex-parts (48 ∷ 120 ∷ ts) front back m h e in
    let tail : ts ≡ p.0 ++ back = (let f = p.1 in cc) in
    let w = within-run (λ b. digit_value b < 16) ts p.0 back n run tail (digit-bytes 16 p.0 p.4) in
    omega (arith, p.2)

sixteen-longest : (ts : List ℕ) (n : ℕ) → 0 < n → IsRun (λ b. digit_value b < 16) ts n
    → IsLongest (48 ∷ 120 ∷ ts) (kept (digits_value 16 (take n ts))) (2 + n) (drop n ts)
sixteen-longest ts n some run =
    let long : length (take n ts) ≡ n = length-take-le n ts run.within in
    record {
      spelled = 48 ∷ 120 ∷ take n ts;
      long = omega arith;
      split = ap (λ l. 48 ∷ 120 ∷ l) (sym (take-append-drop n ts));
      spells =
          inr (take n ts, refl, record { some = omega arith; digits = all-digits 16 (take n ts) (run-take (λ b. digit_value b < 16) ts n run); value = refl });
      some = omega arith;
      longest =
          λ other front back e h. (let w = digit-longest 48 (120 ∷ ts) (2 + n) (omega arith, omega arith)
          (sixteen-number ts n run) other front back e h (begun other 48 (120 ∷ ts) front back h e) in omega arith);
    }

prefix-split : (text : List ℕ) → take 2 text ≡ codes "0x" → text ≡ 48 ∷ 120 ∷ drop 2 text
prefix-split text e = sym (take-append-drop 2 text) ∙ ap (λ l. l ++ drop 2 text) e

-- the digits at the front, with their `0x` where it is there, are the longest lexeme: what is kept of their number
pub number-longest : (text : List ℕ) (radix start n : ℕ) → BeginsDigit text → IsNumberAt text radix start n
    → IsLongest text (kept (digits_value radix (take n (drop start text)))) (start + n) (drop n (drop start text))
number-longest [] radix start n d p = absurd d
number-longest (b ∷ ts) radix start n d (ten m bare run) = ten-longest b ts m d bare run
number-longest (b ∷ ts) radix start n d (sixteen m some run) =
    subst (λ l. IsLongest l (kept (digits_value 16 (take m (drop 2 (b ∷ ts))))) (2 + m) (drop m (drop 2 (b ∷ ts))))
    (sym (prefix-split (b ∷ ts) run.prefixed)) (sixteen-longest (drop 2 (b ∷ ts)) m some run.run)
