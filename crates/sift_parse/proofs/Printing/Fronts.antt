-- The lexeme at the front of what is printed.
use Rattle.std.proofs.Common.{◌≡◌, ℕ, ◌≤◌, Bool, true, false, inl, inr, List, [], ◌∷◌, ◌++◌, refl, sym, ap, ◌∙◌, subst, arith}
use Rattle.std.specs.Fmt.{decimal}
use Rattle.std.proofs.lemmas.Fmt.{decimal_is_IsNumeral}
use Rattle.sift_parse.specs.declared.token.Sign.{Sign}
use Rattle.sift_parse.specs.declared.token.Sign.TheVariants.{Assign, OpenParen, CloseParen, OpenBrace, CloseBrace, Comma, Dot, Semicolon}
use Rattle.sift_parse.specs.Lexeme.{Lexeme, word, numeral, operator, mark, sign_bytes, IsLexeme, number_limit}
use Rattle.sift_parse.specs.Written.{kept}
use Rattle.sift_parse.specs.Pieces.{lexeme_for, printed, Piece, blank_if, text_of}
use Rattle.sift_parse.proofs.Lexing.Ends.{Ends, word-front}
use Rattle.sift_parse.proofs.Lexing.Front.{number-front}
use Rattle.sift_parse.proofs.Printing.Spacing.{Parts, IsParting, EndsOperand, MayFollow, IsFormed}
use Rattle.std.proofs.lemmas.Bool.Decides.{nat_tests}
use Rattle.sift_parse.proofs.Printing.SignFronts.{blank-ends, operator-printed, sign-printed}

-- ---- words and numbers

-- the bytes begin with one that ends a word and a number
record IsEnded (bytes : List ℕ) : Type 0 where
  pub first : ℕ
  pub rest : List ℕ
  pub split : bytes ≡ first ∷ rest
  pub ends : Ends first

-- a sign that goes on with nothing begins with a byte that ends an operand
sign-ended : (s : Sign) (rest : List ℕ) → Parts s → IsEnded (sign_bytes s ++ rest)
sign-ended Assign rest parts = absurd parts
sign-ended OpenParen rest parts = record { first = 40; rest = rest; split = refl; ends = inl (omega arith) }
sign-ended CloseParen rest parts = record { first = 41; rest = rest; split = refl; ends = inl (omega arith) }
sign-ended OpenBrace rest parts = absurd parts
sign-ended CloseBrace rest parts = absurd parts
sign-ended Comma rest parts = record { first = 44; rest = rest; split = refl; ends = inl (omega arith) }
sign-ended Dot rest parts = record { first = 46; rest = rest; split = refl; ends = inl (omega arith) }
sign-ended Semicolon rest parts = record { first = 59; rest = rest; split = refl; ends = inr refl }

-- the same of a lexeme
lexeme-ended : (l : Lexeme) (rest : List ℕ) → IsParting l → IsEnded (printed l ++ rest)
lexeme-ended (word w) rest parts = absurd parts
lexeme-ended (numeral n) rest parts = absurd parts
lexeme-ended (operator op) rest parts = absurd parts
lexeme-ended (mark s) rest parts = sign-ended s rest parts

-- what may stand after an operand ends it
ended : (blank : Bool) (l : Lexeme) (rest : List ℕ) → EndsOperand blank l → IsEnded (blank_if blank (printed l ++ rest))
ended true l rest ends = record { first = 32; rest = printed l ++ rest; split = refl; ends = blank-ends }
ended false l rest ends = lexeme-ended l rest ends

-- a number that a text may hold is kept as it is
keeps : (n : ℕ) → n ≤ number_limit → kept n ≡ n
keeps n lt = grind (arith, nat_tests)

-- a word is the first lexeme before what may follow it
word-printed : (w : List ℕ) (ps : List Piece) → IsFormed (word w) → MayFollow (word w) ps → IsLexeme (w ++ text_of ps) (word w) (text_of ps)
word-printed w [] form follow = absurd follow
word-printed w (p ∷ ps) form follow =
    let i = ended p.blank (lexeme_for p.item) (text_of ps) follow in
    subst (λ t. IsLexeme (w ++ t) (word w) t) (sym i.split) (word-front w i.first i.rest form i.ends)

-- a number is the first lexeme before what may follow it
number-printed : (n : ℕ) (ps : List Piece) → IsFormed (numeral n) → MayFollow (numeral n) ps
    → IsLexeme (decimal n ++ text_of ps) (numeral n) (text_of ps)
number-printed n [] small follow = absurd follow
number-printed n (p ∷ ps) small follow =
    let i = ended p.blank (lexeme_for p.item) (text_of ps) follow in
    let d = decimal_is_IsNumeral n (omega arith) in
    subst (λ t. IsLexeme (decimal n ++ t) (numeral n) t) (sym i.split)
    (number-front (decimal n) n i.first i.rest d.0.0 d.0.1 (ap kept d.1 ∙ keeps n small) i.ends)

-- ---- all lexemes

-- what is printed begins with its first lexeme
pub lexeme-printed : (l : Lexeme) (ps : List Piece) → IsFormed l → MayFollow l ps → IsLexeme (printed l ++ text_of ps) l (text_of ps)
lexeme-printed (word w) ps form follow = word-printed w ps form follow
lexeme-printed (numeral n) ps form follow = number-printed n ps form follow
lexeme-printed (operator op) ps form follow = operator-printed op ps follow
lexeme-printed (mark s) ps form follow = sign-printed s ps follow
