-- The readers of statements with blocks, and of blocks, are lawful for the grammar.
use Rattle.std.proofs.Common.{ℕ, zero, suc, Option, Some, None, List, [], ◌∷◌, refl, arith}
use Rattle.sift_lang.specs.Tree.{Term, Statement, bind, assign, output, choose, choose_else, repeat, Block, end, step}
use Rattle.sift_parse.specs.declared.token.Keyword.TheVariants.{Let, Out, If, Else, Repeat}
use Rattle.sift_parse.specs.declared.token.Sign.TheVariants.{OpenBrace, CloseBrace}
use Rattle.sift_parse.specs.declared.token.Token.{Token}
use Rattle.sift_parse.specs.declared.token.Token.TheVariants.{Keyword, Name, Sign}
use Rattle.sift_parse.specs.Grammar.{IsExpr, IsStatement, an_if, an_if_else, a_repeat, IsBlock, no_statement, a_statement}
use Rattle.sift_parse.specs.Reading.{Outcome, found, and_then, read_name, read_number, read_index, closed_by, read}
use Rattle.sift_parse.specs.ReadingBlocks.{value_by, braced_by, else_by, if_by, some_by, statement_by, block_from, block_by, read_block}
use Rattle.sift_parse.proofs.Parsing.Laws.{Rel, Lawful, nowhere, done, default-found}
use Rattle.sift_parse.proofs.Parsing.Steps.{Then, in_turn, then_lawful, widened}
use Rattle.sift_parse.proofs.Parsing.Looks.{Picks, takes, leaves, choice, mapped}
use Rattle.sift_parse.proofs.Parsing.Signs.{NumberHere, is_number, number_lawful, Closed, closed_lawful, After, after_sign, after_lawful}
use Rattle.sift_parse.proofs.Parsing.ExprLaws.{level_lawful}
use Rattle.sift_parse.proofs.Parsing.ValueLaws.{let_lawful, assign_lawful, out_lawful}

-- ---- statements with a block

-- a block in braces
abbrev Braced : Rel Block
Braced = After Block OpenBrace (Closed Block CloseBrace IsBlock)

braced_lawful : (block : List Token → Outcome Block) → Lawful Block IsBlock block → Lawful Block Braced (braced_by block)
braced_lawful block b =
    after_lawful Block OpenBrace (Closed Block CloseBrace IsBlock) (closed_by CloseBrace block)
    (closed_lawful Block CloseBrace IsBlock block b)

-- a block in braces, which is repeated
data Repeated (k : ℕ) : List Token → Statement → List Token → Type 0 where
  repeated : (ts rest : List Token) (b : Block) → IsBlock ts b (Sign CloseBrace ∷ rest) → Repeated k (Sign OpenBrace ∷ ts) (repeat k b) rest

repeat_rule : (ts rest : List Token) (s : Statement) → Then ℕ Statement NumberHere (λ k. Repeated k) ts s rest
    → IsStatement (Keyword Repeat ∷ ts) s rest
repeat_rule ts rest s (in_turn us mid vs a b (is_number n ws) (repeated xs ys c d)) = a_repeat n xs ys c d

repeated_rule : (k : ℕ) (ts rest : List Token) (b : Block) → Braced ts b rest → Repeated k ts (repeat k b) rest
repeated_rule k ts rest b (after_sign us vs c d) = repeated us vs c d

repeat_lawful : (block : List Token → Outcome Block) → Lawful Block IsBlock block
    → Lawful Statement (λ ts s rest. IsStatement (Keyword Repeat ∷ ts) s rest)
    (λ ts. and_then (read_number ts) (λ k us. and_then (braced_by block us) (λ body rest. found (repeat k body) rest)))
repeat_lawful block b =
    widened Statement (Then ℕ Statement NumberHere (λ k. Repeated k)) (λ ts s rest. IsStatement (Keyword Repeat ∷ ts) s rest)
    (λ ts. and_then (read_number ts) (λ k us. and_then (braced_by block us) (λ body rest. found (repeat k body) rest))) repeat_rule
    (then_lawful ℕ Statement NumberHere (λ k. Repeated k) read_number
    (λ k us. and_then (braced_by block us) (λ body rest. found (repeat k body) rest)) number_lawful
    (λ k. mapped Block Statement Braced (Repeated k) (braced_by block) (repeat k) (repeated_rule k) (braced_lawful block b)))

-- an `if` after its first block
data Elsed (t : Term) (first : Block) : List Token → Statement → List Token → Type 0 where
  no_else : (rest : List Token) → Elsed t first rest (choose t first) rest
  an_else : (ts rest : List Token) (b : Block) → IsBlock ts b (Sign CloseBrace ∷ rest)
      → Elsed t first (Keyword Else ∷ Sign OpenBrace ∷ ts) (choose_else t first b) rest

else_rule : (t : Term) (first : Block) (ts rest : List Token) (b : Block) → Braced ts b rest
    → Elsed t first (Keyword Else ∷ ts) (choose_else t first b) rest
else_rule t first ts rest b (after_sign us vs c d) = an_else us vs c d

else_picks : (block : List Token → Outcome Block) (t : Term) (first : Block) → Lawful Block IsBlock block → (u : Token)
    → Picks Statement (Elsed t first) (λ ts. found (choose t first) ts) u (λ ts. else_by block t first (u ∷ ts))
else_picks block t first b (Keyword Else) =
    takes (mapped Block Statement Braced (λ ts s rest. Elsed t first (Keyword Else ∷ ts) s rest) (braced_by block) (choose_else t first)
    (else_rule t first) (braced_lawful block b))
else_picks block t first b u = leaves (λ ts. refl)

else_lawful : (block : List Token → Outcome Block) (t : Term) (first : Block) → Lawful Block IsBlock block
    → Lawful Statement (Elsed t first) (else_by block t first)
else_lawful block t first b =
    choice Statement (Elsed t first) (λ ts. found (choose t first) ts) (else_by block t first)
    (default-found Statement (Elsed t first) (choose t first) no_else) refl (else_picks block t first b)

if_rule : (ts rest : List Token) (s : Statement)
    → Then Term Statement IsExpr (λ t. Then Block Statement Braced (λ first. Elsed t first)) ts s rest
    → IsStatement (Keyword If ∷ ts) s rest
if_rule ts rest s (in_turn us mid vs t b e (in_turn us1 mid1 vs1 first b1 (after_sign us2 vs2 c d) (no_else ws))) = an_if us us2 ws t c e d
if_rule ts rest s (in_turn us mid vs t b e (in_turn us1 mid1 vs1 first b1 (after_sign us2 vs2 c d) (an_else ws xs second f))) =
    an_if_else us us2 ws xs t c second e d f

if_lawful : (expr : List Token → Outcome Term) (block : List Token → Outcome Block) → Lawful Term IsExpr expr → Lawful Block IsBlock block
    → Lawful Statement (λ ts s rest. IsStatement (Keyword If ∷ ts) s rest)
    (λ ts. and_then (expr ts) (λ t us. and_then (braced_by block us) (λ first vs. else_by block t first vs)))
if_lawful expr block e b =
    widened Statement (Then Term Statement IsExpr (λ t. Then Block Statement Braced (λ first. Elsed t first)))
    (λ ts s rest. IsStatement (Keyword If ∷ ts) s rest)
    (λ ts. and_then (expr ts) (λ t us. and_then (braced_by block us) (λ first vs. else_by block t first vs))) if_rule
    (then_lawful Term Statement IsExpr (λ t. Then Block Statement Braced (λ first. Elsed t first)) expr
    (λ t us. and_then (braced_by block us) (λ first vs. else_by block t first vs)) e
    (λ t. then_lawful Block Statement Braced (λ first. Elsed t first) (braced_by block) (λ first vs. else_by block t first vs)
    (braced_lawful block b) (λ first. else_lawful block t first b)))

-- ---- blocks

-- a statement, if one begins here: else nothing is taken
data Maybe : List Token → Option Statement → List Token → Type 0 where
  a_next : (ts rest : List Token) (s : Statement) → IsStatement ts s rest → Maybe ts (Some s) rest
  no_next : (rest : List Token) → Maybe rest None rest

some_lawful : (head : Token) (statement : List Token → Outcome Statement)
    → Lawful Statement (λ ts s rest. IsStatement (head ∷ ts) s rest) statement
    → Lawful (Option Statement) (λ ts o rest. Maybe (head ∷ ts) o rest) (some_by statement)
some_lawful head statement s =
    mapped Statement (Option Statement) (λ ts s rest. IsStatement (head ∷ ts) s rest) (λ ts o rest. Maybe (head ∷ ts) o rest) statement
    (λ s. Some s) (λ ts rest s d. a_next (head ∷ ts) rest s d) s

statement_picks : (expr : List Token → Outcome Term) (block : List Token → Outcome Block) → Lawful Term IsExpr expr
    → Lawful Block IsBlock block → (t : Token)
    → Picks (Option Statement) Maybe (λ ts. found None ts) t (λ ts. statement_by expr block (t ∷ ts))
statement_picks expr block e b (Keyword Let) =
    takes (some_lawful (Keyword Let) (λ ts. and_then (read_name ts) (λ _ us. value_by expr bind us)) (let_lawful expr e))
statement_picks expr block e b (Name l) = takes (some_lawful (Name l) (value_by expr (assign l)) (assign_lawful expr l e))
statement_picks expr block e b (Keyword Out) =
    takes (some_lawful (Keyword Out) (λ ts. and_then (read_index ts) (λ j us. value_by expr (output j) us)) (out_lawful expr e))
statement_picks expr block e b (Keyword If) = takes (some_lawful (Keyword If) (if_by expr block) (if_lawful expr block e b))
statement_picks expr block e b (Keyword Repeat) =
    takes (some_lawful (Keyword Repeat)
    (λ ts. and_then (read_number ts) (λ k us. and_then (braced_by block us) (λ body rest. found (repeat k body) rest))) (repeat_lawful block b))
statement_picks expr block e b t = leaves (λ ts. refl)

statement_lawful : (expr : List Token → Outcome Term) (block : List Token → Outcome Block) → Lawful Term IsExpr expr
    → Lawful Block IsBlock block → Lawful (Option Statement) Maybe (statement_by expr block)
statement_lawful expr block e b =
    choice (Option Statement) Maybe (λ ts. found None ts) (statement_by expr block)
    (default-found (Option Statement) Maybe None no_next) refl (statement_picks expr block e b)

-- the block after a statement, and the end of a block without one
data Stepping : Option Statement → List Token → Block → List Token → Type 0 where
  stepping : (s : Statement) (ts rest : List Token) (b : Block) → IsBlock ts b rest → Stepping (Some s) ts (step s b) rest
  ending : (rest : List Token) → Stepping None rest end rest

step_lawful : (block : List Token → Outcome Block) → Lawful Block IsBlock block → (o : Option Statement)
    → Lawful Block (Stepping o) (block_from block o)
step_lawful block b None = done Block (Stepping None) end ending
step_lawful block b (Some s) = mapped Block Block IsBlock (Stepping (Some s)) block (step s) (stepping s) b

step_rule : (ts rest : List Token) (b : Block) → Then (Option Statement) Block Maybe Stepping ts b rest → IsBlock ts b rest
step_rule ts rest b (in_turn us mid vs o c (a_next xs ys s d) (stepping q ms ws x e)) = a_statement xs ms ws s x d e
step_rule ts rest b (in_turn us mid vs o c (no_next xs) (ending ws)) = no_statement ws

block_by-lawful : (expr : List Token → Outcome Term) (block : List Token → Outcome Block) → Lawful Term IsExpr expr
    → Lawful Block IsBlock block → Lawful Block IsBlock (block_by expr block)
block_by-lawful expr block e b =
    widened Block (Then (Option Statement) Block Maybe Stepping) IsBlock (block_by expr block) step_rule
    (then_lawful (Option Statement) Block Maybe Stepping (statement_by expr block) (block_from block) (statement_lawful expr block e b)
    (step_lawful block b))

-- the reader of blocks is lawful for the grammar, whatever number bounds its calls
pub block_lawful : (fuel : ℕ) → Lawful Block IsBlock (read_block fuel)
unfolding read_block
block_lawful zero = nowhere Block IsBlock (record { back = []; made = end; rest = no_statement })
block_lawful (suc fuel) = block_by-lawful (read fuel 0) (read_block fuel) (level_lawful fuel 0 (omega arith)) (block_lawful fuel)
