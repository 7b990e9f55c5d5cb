-- Texts as a printer writes them: lexemes with what they stand for, each after a blank or directly after the one before it.
use Rattle.std.specs.Prelude.{ℕ, Bool, true, false, List, [], ◌∷◌, ◌++◌, codes}
use Rattle.std.specs.Fmt.{decimal}
use Rattle.std.specs.Str.{byte}
use Rattle.sift_lang.specs.declared.tree.Op.{Op}
use Rattle.sift_parse.specs.declared.token.Keyword.{Keyword}
use Rattle.sift_parse.specs.declared.token.Keyword.TheVariants.{Let, Out, If, Else, Repeat, Mid, Sense, Now, Last}
use Rattle.sift_parse.specs.declared.token.Sign.{Sign}
use Rattle.sift_parse.specs.Lexeme.{Lexeme, word, numeral, operator, mark, operator_bytes, sign_bytes}

-- a keyword, a name with the number of what it names, a number, an operator, or another sign
pub data Item : Type 0 where
  key : Keyword → Item
  called : List ℕ → ℕ → Item
  figure : ℕ → Item
  joined : Op → Item
  sign : Sign → Item

-- the bytes of a keyword
abbrev pub keyword_bytes : Keyword → List ℕ
keyword_bytes Let = codes "let"
keyword_bytes Out = codes "out"
keyword_bytes If = codes "if"
keyword_bytes Else = codes "else"
keyword_bytes Repeat = codes "repeat"
keyword_bytes Mid = codes "mid"
keyword_bytes Sense = codes "sense"
keyword_bytes Now = codes "now"
keyword_bytes Last = codes "last"

-- the lexeme that an item is
abbrev pub lexeme_for : Item → Lexeme
lexeme_for (key k) = word (keyword_bytes k)
lexeme_for (called w n) = word w
lexeme_for (figure n) = numeral n
lexeme_for (joined op) = operator op
lexeme_for (sign s) = mark s

-- the bytes by which a lexeme is printed: a number in decimal digits, and the others as they are
abbrev pub printed : Lexeme → List ℕ
printed (word w) = w
printed (numeral n) = decimal n
printed (operator op) = operator_bytes op
printed (mark s) = sign_bytes s

-- an item, and whether a blank stands before it
pub record Piece : Type 0 where
  pub blank : Bool
  pub item : Item

-- an item after a blank, or directly after the one before it
abbrev pub piece : Bool → Item → Piece
piece blank i = record { blank = blank; item = i }

-- an item after a blank
abbrev pub far : Item → Piece
far i = piece true i

-- an item directly after the one before it
abbrev pub near : Item → Piece
near i = piece false i

-- the bytes, after a blank where one is asked for
abbrev pub blank_if : Bool → List ℕ → List ℕ
blank_if true bytes = byte " " ∷ bytes
blank_if false bytes = bytes

-- the text of pieces
abbrev pub text_of : List Piece → List ℕ
text_of [] = []
text_of (p ∷ ps) = blank_if p.blank (printed (lexeme_for p.item) ++ text_of ps)
