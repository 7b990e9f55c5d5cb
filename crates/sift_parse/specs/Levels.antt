-- What is open after lexemes: the locals that live, and the levels of blocks, parentheses and minuses.
use Rattle.std.specs.Prelude.{ℕ, zero, suc, Bool, true, false, not, ◌&&◌, if◌then◌else◌, List, [], ◌∷◌, ◌++◌, Option, Some, ◌+◌, ◌||◌, is_none}
use Rattle.sift_lang.specs.declared.tree.Op.TheVariants.{Sub}
use Rattle.sift_parse.specs.declared.token.Keyword.{Keyword}
use Rattle.sift_parse.specs.declared.token.Keyword.TheVariants.{Let, Now, Last}
use Rattle.sift_parse.specs.declared.token.Sign.TheVariants.{OpenBrace, CloseBrace, Semicolon, OpenParen, CloseParen}
use Rattle.sift_parse.specs.Lexeme.{keyword_of, keyword_in, Lexeme, word, mark, numeral, operator}

-- ---- the locals that live: those whose statement is over, and whose block isn't

-- it is the keyword `let`
abbrev pub is_let_keyword : Option Keyword → Bool
is_let_keyword (Some Let) = true
is_let_keyword _ = false

-- a `;` is among the lexemes: the statement in which they begin is over
abbrev pub ends : List Lexeme → Bool
ends [] = false
ends (mark Semicolon ∷ ls) = true
ends (l ∷ ls) = ends ls

-- a `}` among the lexemes closes none of the blocks that they open, nor of n others that are open before them: the block in which those n stand is over
abbrev pub leaves : ℕ → List Lexeme → Bool
leaves n [] = false
leaves n (mark OpenBrace ∷ ls) = leaves (suc n) ls
leaves zero (mark CloseBrace ∷ ls) = true
leaves (suc n) (mark CloseBrace ∷ ls) = leaves n ls
leaves n (l ∷ ls) = leaves n ls

-- the local of a `let` before these lexemes, where it lives after them: its statement is over, and its block isn't
abbrev pub local_by : List Lexeme → List (List ℕ)
local_by (word w ∷ ls) = if ends ls && not (leaves 0 ls) then w ∷ [] else []
local_by _ = []

-- the names of the locals that live after the lexemes, the newest first
abbrev pub living : List Lexeme → List (List ℕ)
living [] = []
living (l ∷ ls) = living ls ++ (if is_let_keyword (keyword_in (Some l)) then local_by ls else [])

-- ---- the levels: a block to its `}`, a parenthesis to its `)`, and a minus to the end of its prim

-- a `)` among the lexemes closes none of the parentheses that they open, nor of n others that are open before them
abbrev pub leaves_paren : ℕ → List Lexeme → Bool
leaves_paren n [] = false
leaves_paren n (mark OpenParen ∷ ls) = leaves_paren (suc n) ls
leaves_paren zero (mark CloseParen ∷ ls) = true
leaves_paren (suc n) (mark CloseParen ∷ ls) = leaves_paren n ls
leaves_paren n (l ∷ ls) = leaves_paren n ls

-- a task's name follows the keyword, and a dot and a number follow the name
abbrev pub reads_task : Option Keyword → Bool
reads_task (Some Now) = true
reads_task (Some Last) = true
reads_task _ = false

-- a prim may end with the lexeme after this one: a number, or a name but a task's
abbrev pub ends_prim : Option Lexeme → Lexeme → Bool
ends_prim before (word w) = is_none (keyword_of w) && not (reads_task (keyword_in before))
ends_prim before (numeral n) = true
ends_prim before l = false

-- The prim that begins these lexemes is over. It ends outside the parentheses that are open: n of them, and those that they open. Before them stands this lexeme.
abbrev pub passes_prim : ℕ → Option Lexeme → List Lexeme → Bool
passes_prim n before [] = false
passes_prim n before (mark OpenParen ∷ ls) = passes_prim (suc n) (Some (mark OpenParen)) ls
passes_prim zero before (mark CloseParen ∷ ls) = true
passes_prim (suc zero) before (mark CloseParen ∷ ls) = true
passes_prim (suc (suc n)) before (mark CloseParen ∷ ls) = passes_prim (suc n) (Some (mark CloseParen)) ls
passes_prim zero before (l ∷ ls) = ends_prim before l || passes_prim zero (Some l) ls
passes_prim (suc n) before (l ∷ ls) = passes_prim (suc n) (Some l) ls

-- an operand ends with this lexeme, so that a `-` after it is no minus before a prim
abbrev pub ends_operand : Option Lexeme → Bool
ends_operand (Some (word w)) = is_none (keyword_of w)
ends_operand (Some (numeral n)) = true
ends_operand (Some (mark CloseParen)) = true
ends_operand _ = false

-- The lexeme after this one opens a level, a `{`, a `(`, or a `-` before a prim, and it is still open after those that follow.
-- A block is open to its `}`, a parenthesis to its `)`, and a minus to the end of its prim.
abbrev pub is_open : Option Lexeme → Lexeme → List Lexeme → Bool
is_open before (mark OpenBrace) ls = not (leaves 0 ls)
is_open before (mark OpenParen) ls = not (leaves_paren 0 ls)
is_open before (operator Sub) ls = not (passes_prim 0 (Some (operator Sub)) ls) && not (ends_operand before)
is_open before l ls = false

-- how many levels the lexemes after this one leave open
abbrev pub opened : Option Lexeme → List Lexeme → ℕ
opened before [] = 0
opened before (l ∷ ls) = (if is_open before l ls then 1 else 0) + opened (Some l) ls
