-- With what a printed tree begins, and what may follow a lexeme.
use Rattle.std.proofs.Common.{◌≡◌, ℕ, suc, Bool, true, false, List, [], ◌∷◌, refl}
use Rattle.std.specs.Prelude.{nat_lt}
use Rattle.sift_lang.specs.declared.tree.Op.TheVariants.{Sub}
use Rattle.sift_lang.specs.Sound.{locals_after}
use Rattle.sift_lang.specs.Tree.{Term, number, local, sense, this_frame, last_frame, minus, binary, middle, Statement, bind, assign, output, choose, choose_else, repeat, Block, end, step}
use Rattle.sift_parse.specs.declared.token.Sign.{Sign}
use Rattle.sift_parse.specs.Grammar.{level_of}
use Rattle.sift_parse.specs.Lexeme.{Lexeme, word, numeral, operator, mark}
use Rattle.sift_parse.specs.Pieces.{joined, lexeme_for, Piece, far}
use Rattle.sift_parse.specs.Printing.{Naming, in_parens_if, left_level, print_term, print_statement, print_block}
use Rattle.sift_parse.proofs.Printing.Spacing.{Parts, EndsOperand, MayStandAfter, MayFollow}

-- ---- what begins with a blank

-- the first piece has a blank before it, or has none
abbrev pub StartsWith : Bool → List Piece → Type 0
StartsWith blank [] = ⊥
StartsWith blank (p ∷ ps) = p.blank ≡ blank

-- parentheses take the blank of what is in them
parens-first : (b : Bool) (write : Bool → List Piece → List Piece) (blank : Bool) (rest : List Piece)
    → ((blank : Bool) (rest : List Piece) → StartsWith blank (write blank rest)) → StartsWith blank (in_parens_if b write blank rest)
parens-first true write blank rest h = refl
parens-first false write blank rest h = h blank rest

-- a term begins with a blank where it is asked to
pub term-first : (N : Naming) (t : Term) (n : ℕ) (blank : Bool) (rest : List Piece) → StartsWith blank (print_term N t n blank rest)
term-first N (number k) n blank rest = refl
term-first N (local l) n blank rest = refl
term-first N (sense x) n blank rest = refl
term-first N (this_frame w) n blank rest = refl
term-first N (last_frame w) n blank rest = refl
term-first N (minus t) n blank rest = refl
term-first N (binary op t u) n blank rest =
    parens-first (nat_lt (level_of op) n)
    (λ blank rest. print_term N t (left_level (level_of op)) blank (far (joined op) ∷ print_term N u (suc (level_of op)) true rest)) blank rest
    (λ blank rest. term-first N t (left_level (level_of op)) blank (far (joined op) ∷ print_term N u (suc (level_of op)) true rest))
term-first N (middle t u v) n blank rest = refl

-- a statement begins with a blank where it is asked to
pub statement-first : (N : Naming) (s : Statement) (k : ℕ) (blank : Bool) (rest : List Piece) → StartsWith blank (print_statement N k s blank rest)
statement-first N (bind t) k blank rest = refl
statement-first N (assign l t) k blank rest = refl
statement-first N (output j t) k blank rest = refl
statement-first N (choose t b) k blank rest = refl
statement-first N (choose_else t b c) k blank rest = refl
statement-first N (repeat n b) k blank rest = refl

-- a block begins with a blank before what does
pub block-first : (N : Naming) (b : Block) (k : ℕ) (rest : List Piece) → StartsWith true rest → StartsWith true (print_block N k b rest)
block-first N end k rest h = h
block-first N (step s b) k rest h = statement-first N s k true (print_block N (locals_after k s) b rest)

-- nothing follows, or a blank
abbrev pub IsOpen : List Piece → Type 0
IsOpen [] = Unit {0}
IsOpen (p ∷ ps) = p.blank ≡ true

-- what begins with a blank is open
starts-open : (ps : List Piece) → StartsWith true ps → IsOpen ps
starts-open [] h = absurd h
starts-open (p ∷ ps) h = h

-- a block before what is open is open
pub block-open : (N : Naming) (b : Block) (k : ℕ) (rest : List Piece) → IsOpen rest → IsOpen (print_block N k b rest)
block-open N end k rest h = h
block-open N (step s b) k rest h =
    starts-open (print_block N k (step s b) rest) (statement-first N s k true (print_block N (locals_after k s) b rest))

-- ---- what may follow a lexeme

-- anything may follow after a blank
blank-follows : (l m : Lexeme) (blank : Bool) → blank ≡ true → MayStandAfter l blank m
blank-follows (word w) m true e = tt
blank-follows (numeral n) m true e = tt
blank-follows (operator op) m true e = tt
blank-follows (mark s) m true e = tt
blank-follows l m false e = cc

-- anything may follow that begins with a blank
pub far-follows : (l : Lexeme) (ps : List Piece) → StartsWith true ps → MayFollow l ps
far-follows l [] h = absurd h
far-follows l (p ∷ ps) h = blank-follows l (lexeme_for p.item) p.blank h

-- a text may end with a sign
pub open-follows : (s : Sign) (ps : List Piece) → IsOpen ps → MayFollow (mark s) ps
open-follows s [] h = tt
open-follows s (p ∷ ps) h = far-follows (mark s) (p ∷ ps) h

-- anything may follow these signs directly
parting-by : (s : Sign) (blank : Bool) (l : Lexeme) → Parts s → MayStandAfter (mark s) blank l
parting-by s true l parts = tt
parting-by s false l parts = parts

-- anything may follow a sign that goes on with nothing
pub parting-follows : (s : Sign) (ps : List Piece) → Parts s → MayFollow (mark s) ps
parting-follows s [] parts = tt
parting-follows s (p ∷ ps) parts = parting-by s p.blank (lexeme_for p.item) parts

-- anything may stand after a `-`
minus-by : (blank : Bool) (l : Lexeme) → MayStandAfter (operator Sub) blank l
minus-by true l = tt
minus-by false l = refl

-- anything may follow a `-`
pub minus-follows : (ps : List Piece) (blank : Bool) → StartsWith blank ps → MayFollow (operator Sub) ps
minus-follows [] blank h = absurd h
minus-follows (p ∷ ps) blank h = minus-by p.blank (lexeme_for p.item)

-- the pieces may follow an operand
abbrev pub FollowOperand : List Piece → Type 0
FollowOperand [] = ⊥
FollowOperand (p ∷ ps) = EndsOperand p.blank (lexeme_for p.item)

-- what may follow an operand may follow a word
pub word-follows : (w : List ℕ) (ps : List Piece) → FollowOperand ps → MayFollow (word w) ps
word-follows w [] e = absurd e
word-follows w (p ∷ ps) e = e

-- what may follow an operand may follow a number
pub number-follows : (n : ℕ) (ps : List Piece) → FollowOperand ps → MayFollow (numeral n) ps
number-follows n [] e = absurd e
number-follows n (p ∷ ps) e = e
