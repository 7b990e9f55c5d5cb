-- The first byte of a lexeme tells its kind, and a word is the longest run of the bytes of names.
use Rattle.std.proofs.Common.{◌≡◌, ℕ, zero, suc, ◌+◌, ◌<◌, ◌≤◌, ◌⊎◌, inl, inr, List, [], ◌∷◌, ◌++◌, length, take, drop, slice_index, codes, refl, sym, ap, ◌∙◌, subst, arith, append_assoc, length-append}
use Rattle.std.specs.Char.{IsAsciiLowercase, IsAsciiDigit, digit_value}
use Rattle.std.specs.Str.Parse.{AllDigits}
use Rattle.std.specs.List.{All}
use Rattle.std.proofs.lemmas.List.{take-append-drop, length-take-le, get_or_append_left}
use Rattle.std.proofs.lemmas.Str.Parse.{digit_from_value}
use Rattle.sift_base.specs.Name.{HasNameForm, IsNameByte}
use Rattle.sift_lang.specs.declared.tree.Op.{Op}
use Rattle.sift_lang.specs.declared.tree.Op.TheVariants.{Add, Sub, Mul, Div, Rem, And, Or, Xor, Shl, Shr, Lt, Eq}
use Rattle.sift_parse.specs.declared.token.Sign.{Sign}
use Rattle.sift_parse.specs.declared.token.Sign.TheVariants.{Assign, OpenParen, CloseParen, OpenBrace, CloseBrace, Comma, Dot, Semicolon}
use Rattle.sift_parse.specs.Lexeme.{Lexeme, word, numeral, operator, mark, operator_bytes, sign_bytes, IsNumeral, Spells}
use Rattle.sift_parse.specs.Written.{IsLexemeAt, IsRun}

-- ---- the first byte tells the kind

-- the kind of lexeme that begins with this byte
abbrev pub Begun : Lexeme → ℕ → Type 0
Begun (word w) b = IsAsciiLowercase b
Begun (numeral n) b = IsAsciiDigit b
Begun (operator op) b = ¬ IsAsciiLowercase b × ¬ IsAsciiDigit b
Begun (mark s) b = ¬ IsAsciiLowercase b × ¬ IsAsciiDigit b

other_byte : (b c : ℕ) → b ≡ c → (c < 48) ⊎ ((57 < c) × (c < 97)) ⊎ (122 < c) → ¬ IsAsciiLowercase b × ¬ IsAsciiDigit b
other_byte b c e (inl h) = (λ x. omega arith, λ x. omega arith)
other_byte b c e (inr (inl h)) = (λ x. omega arith, λ x. omega arith)
other_byte b c e (inr (inr h)) = (λ x. omega arith, λ x. omega arith)

operator-begun : (op : Op) (b : ℕ) (ts back : List ℕ) → b ∷ ts ≡ operator_bytes op ++ back → ¬ IsAsciiLowercase b × ¬ IsAsciiDigit b
operator-begun Add b ts back e = other_byte b 43 (cc) (inl (omega arith))
operator-begun Sub b ts back e = other_byte b 45 (cc) (inl (omega arith))
operator-begun Mul b ts back e = other_byte b 42 (cc) (inl (omega arith))
operator-begun Div b ts back e = other_byte b 47 (cc) (inl (omega arith))
operator-begun Rem b ts back e = other_byte b 37 (cc) (inl (omega arith))
operator-begun And b ts back e = other_byte b 38 (cc) (inl (omega arith))
operator-begun Or b ts back e = other_byte b 124 (cc) (inr (inr (omega arith)))
operator-begun Xor b ts back e = other_byte b 94 (cc) (inr (inl (omega arith, omega arith)))
operator-begun Shl b ts back e = other_byte b 60 (cc) (inr (inl (omega arith, omega arith)))
operator-begun Shr b ts back e = other_byte b 62 (cc) (inr (inl (omega arith, omega arith)))
operator-begun Lt b ts back e = other_byte b 60 (cc) (inr (inl (omega arith, omega arith)))
operator-begun Eq b ts back e = other_byte b 61 (cc) (inr (inl (omega arith, omega arith)))

sign-begun : (s : Sign) (b : ℕ) (ts back : List ℕ) → b ∷ ts ≡ sign_bytes s ++ back → ¬ IsAsciiLowercase b × ¬ IsAsciiDigit b
sign-begun Assign b ts back e = other_byte b 61 (cc) (inr (inl (omega arith, omega arith)))
sign-begun OpenParen b ts back e = other_byte b 40 (cc) (inl (omega arith))
sign-begun CloseParen b ts back e = other_byte b 41 (cc) (inl (omega arith))
sign-begun OpenBrace b ts back e = other_byte b 123 (cc) (inr (inr (omega arith)))
sign-begun CloseBrace b ts back e = other_byte b 125 (cc) (inr (inr (omega arith)))
sign-begun Comma b ts back e = other_byte b 44 (cc) (inl (omega arith))
sign-begun Dot b ts back e = other_byte b 46 (cc) (inl (omega arith))
sign-begun Semicolon b ts back e = other_byte b 59 (cc) (inr (inl (omega arith, omega arith)))

word-begun : (b : ℕ) (ts front back : List ℕ) → HasNameForm front → b ∷ ts ≡ front ++ back → IsAsciiLowercase b
word-begun b ts [] back h e = absurd h
word-begun b ts (x ∷ xs) back h e = let same : x ≡ b = cc in subst IsAsciiLowercase same h.0

decimal-begun : (b : ℕ) (ts front back : List ℕ) (n : ℕ) → IsNumeral 10 front n → b ∷ ts ≡ front ++ back → IsAsciiDigit b
decimal-begun b ts [] back n h e = absurd (let s = h.some in omega arith)
decimal-begun b ts (x ∷ xs) back n h e = let same : x ≡ b = cc in subst IsAsciiDigit same (digit_from_value x h.digits.0)

hex-begun : (b : ℕ) (ts front back : List ℕ) (n : ℕ) (h : (written : List ℕ) × (front ≡ codes "0x" ++ written) × IsNumeral 16 written n) → b ∷ ts ≡ front ++ back → IsAsciiDigit b
hex-begun b ts front back n h e =
    let f : b ∷ ts ≡ codes "0x" ++ (h.0 ++ back) = e ∙ (ap (λ l. l ++ back) h.1 ∙ append_assoc (codes "0x") h.0 back) in
    let same : b ≡ 48 = cc in
    (omega arith, omega arith)

-- the first byte of a lexeme is a lower-case letter for a word, a digit for a number, and neither for an operator or another sign
pub begun : (l : Lexeme) (b : ℕ) (ts front back : List ℕ) → Spells l front → b ∷ ts ≡ front ++ back → Begun l b
begun (word w) b ts front back h e = word-begun b ts front back h.0 e
begun (numeral n) b ts front back (inl h) e = decimal-begun b ts front back n h e
begun (numeral n) b ts front back (inr h) e = hex-begun b ts front back n h e
begun (operator op) b ts front back h e = operator-begun op b ts back (e ∙ ap (λ l. l ++ back) h)
begun (mark s) b ts front back h e = sign-begun s b ts back (e ∙ ap (λ l. l ++ back) h)

-- ---- runs

-- a number that isn't below another is that one at least
pub unless : (m n : ℕ) → (n < m → ⊥) → m ≤ n
unless m n h = omega arith

-- each byte of what begins a text is the text's byte at the same place
pub front-byte : (text front back : List ℕ) (k : ℕ) → text ≡ front ++ back → k < length front → slice_index text k ≡ slice_index front k
front-byte text front back k e lt = ap (λ l. slice_index l k) e ∙ get_or_append_left front back 0 k lt

-- what begins a text is no longer than the text
pub front-within : (text front back : List ℕ) → text ≡ front ++ back → length front ≤ length text
front-within text front back e = let h : length text ≡ length front + length back = ap length e ∙ length-append front back in omega arith

-- what begins the text and has P at each byte is within the run of P
pub within-run : (P : ℕ → Type 0) (text front back : List ℕ) (n : ℕ) → IsRun P text n → text ≡ front ++ back
    → ((k : ℕ) → k < length front → P (slice_index front k)) → length front ≤ n
within-run P text front back n run e each =
    unless (length front) n
    (λ lt. run.stops (let w = front-within text front back e in omega arith)
    (subst P (sym (front-byte text front back n e lt)) (each n lt)))

-- each byte of a word that has the form of a name is one that a name may hold
pub name-bytes : (front : List ℕ) → HasNameForm front → (k : ℕ) → k < length front → IsNameByte (slice_index front k)
name-bytes [] h k lt = absurd h
name-bytes (x ∷ xs) h zero lt = inl h.0
name-bytes (x ∷ xs) h (suc k) lt = h.1 k 0 (omega arith)

-- where all bytes are digits of a radix, each has a value below that radix
pub digit-bytes : (radix : ℕ) (front : List ℕ) → AllDigits radix front → (k : ℕ) → k < length front
    → digit_value (slice_index front k) < radix
digit-bytes radix [] h k lt = absurd (omega arith)
digit-bytes radix (x ∷ xs) h zero lt = h.0
digit-bytes radix (x ∷ xs) h (suc k) lt = digit-bytes radix xs h.1 k (omega arith)

-- bytes of which each has a digit's value below a radix are all digits of that radix
pub all-digits : (radix : ℕ) (front : List ℕ) → ((k : ℕ) → k < length front → digit_value (slice_index front k) < radix)
    → AllDigits radix front
all-digits radix [] h = tt
all-digits radix (x ∷ xs) h = (h 0 (omega arith), all-digits radix xs (λ k lt. h (suc k) (omega arith)))

all-bytes : (P : ℕ → Type 0) (xs : List ℕ) → ((k : ℕ) → k < length xs → P (slice_index xs k)) → All P xs
all-bytes P [] h k d lt = absurd (omega arith)
all-bytes P (x ∷ xs) h zero d lt = h 0 (omega arith)
all-bytes P (x ∷ xs) h (suc k) d lt = all-bytes P xs (λ k lt. h (suc k) (omega arith)) k d (omega arith)

-- a run's bytes at its front
pub run-take : (P : ℕ → Type 0) (text : List ℕ) (n : ℕ) → IsRun P text n → (k : ℕ) → k < length (take n text)
    → P (slice_index (take n text) k)
run-take P text n run k lt =
    let long : length (take n text) ≡ n = length-take-le n text run.within in
    subst P (front-byte text (take n text) (drop n text) k (sym (take-append-drop n text)) lt) (run.each k (omega arith))

-- ---- words

word-longest : (b : ℕ) (ts : List ℕ) (n : ℕ) → IsAsciiLowercase b → IsRun IsNameByte (b ∷ ts) n → (other : Lexeme) (front back : List ℕ)
    → b ∷ ts ≡ front ++ back → Spells other front → Begun other b → length front ≤ n
word-longest b ts n lower run (word w) front back e h k = within-run IsNameByte (b ∷ ts) front back n run e (name-bytes front h.0)
word-longest b ts n lower run (numeral m) front back e h k = absurd (omega arith)
word-longest b ts n lower run (operator op) front back e h k = absurd (k.0 lower)
word-longest b ts n lower run (mark s) front back e h k = absurd (k.0 lower)

-- the run of a name's bytes from a lower-case letter on is the lexeme at the front: a word
pub word-at : (b : ℕ) (ts : List ℕ) (n : ℕ) → IsAsciiLowercase b → IsRun IsNameByte (b ∷ ts) n
    → IsLexemeAt (b ∷ ts) (word (take n (b ∷ ts))) n
word-at b ts zero lower run = absurd (run.stops (omega arith) (inl lower))
word-at b ts (suc m) lower run = record {
  some = omega arith;
  within = run.within;
  lexeme = record {
    spelled = b ∷ take m ts;
    split = sym (take-append-drop (suc m) (b ∷ ts));
    spells = ((lower, all-bytes IsNameByte (take m ts) (λ k lt. run-take IsNameByte (b ∷ ts) (suc m) run (suc k) (omega arith))), refl);
    longest =
        λ other front back e h. (let long : length (take (suc m) (b ∷ ts)) ≡ suc m = length-take-le (suc m) (b ∷ ts) run.within in
        let w = word-longest b ts (suc m) lower run other front back e h (begun other b ts front back h e) in omega arith);
    parted = tt;
  };
}
