-- What may stand after what in a text, after a blank or directly.
use Rattle.std.proofs.Common.{◌≡◌, ◌≤◌, Bool, true, false, List, [], ◌∷◌}
use Rattle.sift_base.specs.Name.{HasNameForm}
use Rattle.sift_lang.specs.declared.tree.Op.TheVariants.{Sub}
use Rattle.sift_parse.specs.declared.token.Sign.{Sign}
use Rattle.sift_parse.specs.declared.token.Sign.TheVariants.{Assign, OpenBrace, CloseBrace}
use Rattle.sift_parse.specs.Lexeme.{Lexeme, word, numeral, operator, mark, number_limit}
use Rattle.sift_parse.specs.Pieces.{lexeme_for, Piece}

-- the sign goes on with nothing: a word or a number may stand directly before it, and anything directly after it
abbrev pub Parts : Sign → Type 0
Parts Assign = ⊥
Parts OpenBrace = ⊥
Parts CloseBrace = ⊥
Parts s = Unit {0}

-- the lexeme is a sign that goes on with nothing
abbrev pub IsParting : Lexeme → Type 0
IsParting (mark s) = Parts s
IsParting l = ⊥

-- the lexeme may stand after a word or a number
abbrev pub EndsOperand : Bool → Lexeme → Type 0
EndsOperand true l = Unit {0}
EndsOperand false l = IsParting l

-- the second may stand after the first, with a blank between or not
abbrev pub MayStandAfter : Lexeme → Bool → Lexeme → Type 0
MayStandAfter (word w) blank l = EndsOperand blank l
MayStandAfter (numeral n) blank l = EndsOperand blank l
MayStandAfter (operator op) true l = Unit {0}
MayStandAfter (operator op) false l = op ≡ Sub
MayStandAfter (mark s) true l = Unit {0}
MayStandAfter (mark s) false l = Parts s

-- a text may end with the lexeme
abbrev pub MayEnd : Lexeme → Type 0
MayEnd (mark s) = Unit {0}
MayEnd l = ⊥

-- the pieces may follow the lexeme
abbrev pub MayFollow : Lexeme → List Piece → Type 0
MayFollow l [] = MayEnd l
MayFollow l (p ∷ ps) = MayStandAfter l p.blank (lexeme_for p.item)

-- each piece may be followed by those after it
abbrev pub AllFollow : List Piece → Type 0
AllFollow [] = Unit {0}
AllFollow (p ∷ ps) = MayFollow (lexeme_for p.item) ps × AllFollow ps

-- a word has the form of a name, and a number is one that a text may hold
abbrev pub IsFormed : Lexeme → Type 0
IsFormed (word w) = HasNameForm w
IsFormed (numeral n) = n ≤ number_limit
IsFormed l = Unit {0}

-- each lexeme of the pieces is formed so
abbrev pub AllFormed : List Piece → Type 0
AllFormed [] = Unit {0}
AllFormed (p ∷ ps) = IsFormed (lexeme_for p.item) × AllFormed ps
