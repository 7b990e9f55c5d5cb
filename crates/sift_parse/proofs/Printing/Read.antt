-- The text of pieces is read as their lexemes.
use Rattle.std.proofs.Common.{◌≡◌, ℕ, ◌-◌, ◌<◌, Bool, true, false, List, [], ◌∷◌, ◌++◌, length, refl, sym, ap, subst, arith}
use Rattle.std.specs.Str.Parse.{AllDigits}
use Rattle.std.proofs.lemmas.Str.Parse.{digit_from_value}
use Rattle.sift_base.specs.Name.{HasNameForm}
use Rattle.sift_parse.specs.Refusal.{lexemes_of}
use Rattle.sift_parse.proofs.Lexing.Front.{no_gap}
use Rattle.std.specs.Prelude.{map}
use Rattle.std.specs.Fmt.{decimal}
use Rattle.std.proofs.lemmas.Fmt.{decimal_is_IsNumeral}
use Rattle.sift_lang.specs.declared.tree.Op.{Op}
use Rattle.sift_lang.specs.declared.tree.Op.TheVariants.{Add, Sub, Mul, Div, Rem, And, Or, Xor, Shl, Shr, Lt, Eq}
use Rattle.sift_parse.specs.declared.token.Sign.{Sign}
use Rattle.sift_parse.specs.declared.token.Sign.TheVariants.{Assign, OpenParen, CloseParen, OpenBrace, CloseBrace, Comma, Dot, Semicolon}
use Rattle.sift_parse.specs.Lexeme.{Lexeme, word, numeral, operator, mark, operator_bytes, sign_bytes, IsLexeme, after_gap, Placed, Lexes, no_lexeme, a_lexeme}
use Rattle.sift_parse.specs.Pieces.{Item, lexeme_for, printed, Piece, blank_if, text_of}
use Rattle.sift_parse.proofs.Printing.Fronts.{lexeme-printed}
use Rattle.sift_parse.proofs.Printing.Spacing.{AllFollow, IsFormed, AllFormed}

-- ---- gaps

-- no gap begins with a digit or a letter
gap-digits : (ds rest : List ℕ) → 0 < length ds → AllDigits 10 ds → after_gap (ds ++ rest) ≡ ds ++ rest
gap-digits [] rest some h = absurd (omega arith)
gap-digits (d ∷ ds) rest some h = let digit = digit_from_value d h.0 in no_gap d (ds ++ rest) digit.0

-- no gap begins with a name
gap-name : (w rest : List ℕ) → HasNameForm w → after_gap (w ++ rest) ≡ w ++ rest
gap-name [] rest h = absurd h
gap-name (b ∷ w) rest h = let lower = h.0 in no_gap b (w ++ rest) (omega arith)

-- no gap begins with an operator
operator-gap : (op : Op) (rest : List ℕ) → after_gap (operator_bytes op ++ rest) ≡ operator_bytes op ++ rest
operator-gap Add rest = refl
operator-gap Sub rest = refl
operator-gap Mul rest = refl
operator-gap Div rest = refl
operator-gap Rem rest = refl
operator-gap And rest = refl
operator-gap Or rest = refl
operator-gap Xor rest = refl
operator-gap Shl rest = refl
operator-gap Shr rest = refl
operator-gap Lt rest = refl
operator-gap Eq rest = refl

-- no gap begins with a sign
sign-gap : (s : Sign) (rest : List ℕ) → after_gap (sign_bytes s ++ rest) ≡ sign_bytes s ++ rest
sign-gap Assign rest = refl
sign-gap OpenParen rest = refl
sign-gap CloseParen rest = refl
sign-gap OpenBrace rest = refl
sign-gap CloseBrace rest = refl
sign-gap Comma rest = refl
sign-gap Dot rest = refl
sign-gap Semicolon rest = refl

-- no gap begins with a lexeme
lexeme-gap : (l : Lexeme) (rest : List ℕ) → IsFormed l → after_gap (printed l ++ rest) ≡ printed l ++ rest
lexeme-gap (word w) rest form = gap-name w rest form
lexeme-gap (numeral n) rest small = let d = decimal_is_IsNumeral n (omega arith) in gap-digits (decimal n) rest d.0.0 d.0.1
lexeme-gap (operator op) rest form = operator-gap op rest
lexeme-gap (mark s) rest form = sign-gap s rest

-- a blank is a gap
blank-gap : (blank : Bool) (bytes : List ℕ) → after_gap bytes ≡ bytes → after_gap (blank_if blank bytes) ≡ bytes
blank-gap true bytes e = e
blank-gap false bytes e = e

-- ---- the text

-- these are the lexemes of the text, which ends with them
pub record IsRead (total : ℕ) (text : List ℕ) (ls : List Lexeme) : Type 0 where
  pub placed : List Placed
  pub lexes : Lexes total text placed []
  pub same : lexemes_of placed ≡ ls

-- no lexeme is read of no byte
read_none : (total : ℕ) → IsRead total [] []
read_none total = record { placed = []; lexes = no_lexeme []; same = refl }

-- one more lexeme at the front
read_one : (total : ℕ) (text here mid : List ℕ) (l : Lexeme) (ls : List Lexeme) → after_gap text ≡ here → IsLexeme here l mid
    → IsRead total mid ls → IsRead total text (l ∷ ls)
read_one total text here mid l ls e x i = record {
  placed = record { lexeme = l; at = total - length (after_gap text) } ∷ i.placed;
  lexes = a_lexeme text mid [] l i.placed (subst (λ t. IsLexeme t l mid) (sym e) x) i.lexes;
  same = ap (λ k. l ∷ k) i.same;
}

-- the items of pieces
abbrev pub items_in : List Piece → List Item
items_in ps = map (λ p. p.item) ps

-- the text of pieces is read as their lexemes
pub pieces_read : (total : ℕ) (ps : List Piece) → AllFormed ps → AllFollow ps → IsRead total (text_of ps) (map lexeme_for (items_in ps))
pieces_read total [] formed follow = read_none total
pieces_read total (p ∷ ps) formed follow =
    let l = lexeme_for p.item in
    read_one total (text_of (p ∷ ps)) (printed l ++ text_of ps) (text_of ps) l (map lexeme_for (items_in ps))
    (blank-gap p.blank (printed l ++ text_of ps) (lexeme-gap l (text_of ps) formed.0)) (lexeme-printed l ps formed.0 follow.0)
    (pieces_read total ps formed.1 follow.1)
