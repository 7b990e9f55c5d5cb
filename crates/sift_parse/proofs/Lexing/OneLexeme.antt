-- A text is lexed in one way only: each lexeme and each rest is determined.
use Rattle.std.proofs.Common.{◌≡◌, ℕ, ◌+◌, ◌<◌, inl, inr, ◌==◌, if◌then◌else◌, List, [], ◌∷◌, ◌++◌, length, codes, refl, sym, ap, ◌∙◌, subst, arith, length-append}
use Rattle.std.specs.Char.{IsAsciiDigit, digit_value}
use Rattle.std.specs.Str.Parse.{digits_value, AllDigits}
use Rattle.std.proofs.lemmas.Str.Parse.{digit_from_value}
use Rattle.sift_base.specs.Name.{HasNameForm}
use Rattle.sift_lang.specs.declared.tree.Op.{Op}
use Rattle.sift_lang.specs.declared.tree.Op.TheVariants.{Add, Sub, Mul, Div, Rem, And, Or, Xor, Shl, Shr, Lt, Eq}
use Rattle.sift_parse.specs.declared.token.Sign.{Sign}
use Rattle.sift_parse.specs.declared.token.Sign.TheVariants.{Assign, OpenParen, CloseParen, OpenBrace, CloseBrace, Comma, Dot, Semicolon}
use Rattle.sift_parse.specs.Lexeme.{Lexeme, word, numeral, operator, mark, operator_bytes, sign_bytes, IsNumeral, Spells}
use Rattle.sift_parse.specs.Written.{kept}
use Rattle.sift_parse.proofs.Lexing.Fronts.{NoWord}

-- ---- bytes spell one lexeme

-- the lexeme of a sign of one byte, and of two
abbrev one_byte : ℕ → Lexeme
one_byte b =
    if b == 43 then operator Add else (if b == 45 then operator Sub else (if b == 42 then operator Mul else (if b == 47 then operator Div else
    (if b == 37 then operator Rem else (if b == 38 then operator And else (if b == 124 then operator Or else (if b == 94 then operator Xor else
    (if b == 60 then operator Lt else (if b == 61 then mark Assign else (if b == 40 then mark OpenParen else (if b == 41 then mark CloseParen else
    (if b == 123 then mark OpenBrace else
    (if b == 125 then mark CloseBrace else (if b == 44 then mark Comma else (if b == 46 then mark Dot else mark Semicolon)))))))))))))))

abbrev sign_read : List ℕ → Lexeme
sign_read (b ∷ []) = one_byte b
sign_read (b ∷ _) = if b == 60 then operator Shl else (if b == 62 then operator Shr else operator Eq)
sign_read [] = numeral 0

sign_read-operator : (op : Op) → sign_read (operator_bytes op) ≡ operator op
sign_read-operator Add = refl
sign_read-operator Sub = refl
sign_read-operator Mul = refl
sign_read-operator Div = refl
sign_read-operator Rem = refl
sign_read-operator And = refl
sign_read-operator Or = refl
sign_read-operator Xor = refl
sign_read-operator Shl = refl
sign_read-operator Shr = refl
sign_read-operator Lt = refl
sign_read-operator Eq = refl

sign_read-mark : (s : Sign) → sign_read (sign_bytes s) ≡ mark s
sign_read-mark Assign = refl
sign_read-mark OpenParen = refl
sign_read-mark CloseParen = refl
sign_read-mark OpenBrace = refl
sign_read-mark CloseBrace = refl
sign_read-mark Comma = refl
sign_read-mark Dot = refl
sign_read-mark Semicolon = refl

-- no operator begins with a lower-case letter or a digit
pub operator-no_word : (op : Op) → NoWord (operator_bytes op)
operator-no_word Add = (λ x. omega arith, λ x. omega arith)
operator-no_word Sub = (λ x. omega arith, λ x. omega arith)
operator-no_word Mul = (λ x. omega arith, λ x. omega arith)
operator-no_word Div = (λ x. omega arith, λ x. omega arith)
operator-no_word Rem = (λ x. omega arith, λ x. omega arith)
operator-no_word And = (λ x. omega arith, λ x. omega arith)
operator-no_word Or = (λ x. omega arith, λ x. omega arith)
operator-no_word Xor = (λ x. omega arith, λ x. omega arith)
operator-no_word Shl = (λ x. omega arith, λ x. omega arith)
operator-no_word Shr = (λ x. omega arith, λ x. omega arith)
operator-no_word Lt = (λ x. omega arith, λ x. omega arith)
operator-no_word Eq = (λ x. omega arith, λ x. omega arith)

-- no sign begins with a lower-case letter or a digit
pub mark-no_word : (s : Sign) → NoWord (sign_bytes s)
mark-no_word Assign = (λ x. omega arith, λ x. omega arith)
mark-no_word OpenParen = (λ x. omega arith, λ x. omega arith)
mark-no_word CloseParen = (λ x. omega arith, λ x. omega arith)
mark-no_word OpenBrace = (λ x. omega arith, λ x. omega arith)
mark-no_word CloseBrace = (λ x. omega arith, λ x. omega arith)
mark-no_word Comma = (λ x. omega arith, λ x. omega arith)
mark-no_word Dot = (λ x. omega arith, λ x. omega arith)
mark-no_word Semicolon = (λ x. omega arith, λ x. omega arith)

-- a number's first byte is a digit
decimal-digit : (b : ℕ) (bs : List ℕ) (n : ℕ) → Spells (numeral n) (b ∷ bs) → IsAsciiDigit b
decimal-digit b bs n (inl h) = digit_from_value b h.digits.0
decimal-digit b bs n (inr h) = let e : b ≡ 48 = (let f = h.1 in cc) in (omega arith, omega arith)

word-number : (bytes : List ℕ) (n : ℕ) → HasNameForm bytes → Spells (numeral n) bytes → ⊥
word-number [] n h x = h
word-number (b ∷ bs) n h x = let d = decimal-digit b bs n x in omega (arith, h.0)

word-sign : (bytes : List ℕ) → HasNameForm bytes → NoWord bytes → ⊥
word-sign [] h x = h
word-sign (b ∷ bs) h x = x.0 h.0

number-sign : (bytes : List ℕ) (n : ℕ) → Spells (numeral n) bytes → NoWord bytes → ⊥
number-sign [] n (inl h) x = absurd (let s = h.some in omega arith)
number-sign [] n (inr h) x = let f : 0 ≡ 2 + length h.0 = ap length h.1 ∙ length-append (codes "0x") h.0 in omega arith
number-sign (b ∷ bs) n h x = x.1 (decimal-digit b bs n h)

-- `x` is no decimal digit
decimal-hexadecimal : (bytes : List ℕ) (m : ℕ) (written : List ℕ) → IsNumeral 10 bytes m → bytes ≡ codes "0x" ++ written → ⊥
decimal-hexadecimal bytes m written d e =
    let all : AllDigits 10 (codes "0x" ++ written) = subst (AllDigits 10) e d.digits in
    let second : digit_value 120 < 10 = all.1.0 in
    omega arith

one_number : (bytes : List ℕ) (m n : ℕ) → Spells (numeral m) bytes → Spells (numeral n) bytes → m ≡ n
one_number bytes m n (inl x) (inl y) = x.value ∙ sym y.value
one_number bytes m n (inl x) (inr y) = absurd (decimal-hexadecimal bytes m y.0 x y.1)
one_number bytes m n (inr x) (inl y) = absurd (decimal-hexadecimal bytes n x.0 y x.1)
one_number bytes m n (inr x) (inr y) =
    let both : codes "0x" ++ x.0 ≡ codes "0x" ++ y.0 = sym x.1 ∙ y.1 in
    let same : x.0 ≡ y.0 = cc in
    x.2.value ∙ (ap (λ w. kept (digits_value 16 w)) same ∙ sym y.2.value)

-- the same bytes spell one lexeme at most
pub one_spelling : (l m : Lexeme) (bytes : List ℕ) → Spells l bytes → Spells m bytes → l ≡ m
one_spelling (word w) (word v) bytes x y = ap word (x.1 ∙ sym y.1)
one_spelling (word w) (numeral n) bytes x y = absurd (word-number bytes n x.0 y)
one_spelling (word w) (operator op) bytes x y = absurd (word-sign bytes x.0 (subst NoWord (sym y) (operator-no_word op)))
one_spelling (word w) (mark s) bytes x y = absurd (word-sign bytes x.0 (subst NoWord (sym y) (mark-no_word s)))
one_spelling (numeral n) (word v) bytes x y = absurd (word-number bytes n y.0 x)
one_spelling (numeral n) (numeral m) bytes x y = ap numeral (one_number bytes n m x y)
one_spelling (numeral n) (operator op) bytes x y = absurd (number-sign bytes n x (subst NoWord (sym y) (operator-no_word op)))
one_spelling (numeral n) (mark s) bytes x y = absurd (number-sign bytes n x (subst NoWord (sym y) (mark-no_word s)))
one_spelling (operator op) (word v) bytes x y = absurd (word-sign bytes y.0 (subst NoWord (sym x) (operator-no_word op)))
one_spelling (operator op) (numeral n) bytes x y = absurd (number-sign bytes n y (subst NoWord (sym x) (operator-no_word op)))
one_spelling (operator op) (operator oq) bytes x y = sym (sign_read-operator op) ∙ (ap sign_read (sym x ∙ y) ∙ sign_read-operator oq)
one_spelling (operator op) (mark s) bytes x y = sym (sign_read-operator op) ∙ (ap sign_read (sym x ∙ y) ∙ sign_read-mark s)
one_spelling (mark s) (word v) bytes x y = absurd (word-sign bytes y.0 (subst NoWord (sym x) (mark-no_word s)))
one_spelling (mark s) (numeral n) bytes x y = absurd (number-sign bytes n y (subst NoWord (sym x) (mark-no_word s)))
one_spelling (mark s) (operator op) bytes x y = sym (sign_read-mark s) ∙ (ap sign_read (sym x ∙ y) ∙ sign_read-operator op)
one_spelling (mark s) (mark r) bytes x y = sym (sign_read-mark s) ∙ (ap sign_read (sym x ∙ y) ∙ sign_read-mark r)
