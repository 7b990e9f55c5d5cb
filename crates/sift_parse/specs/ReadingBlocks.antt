-- Reading of statements and blocks by recursion, as the parser goes. No public clause cites this module.
use Rattle.std.specs.Prelude.{ℕ, zero, suc, List, [], ◌∷◌, Option, Some, None}
use Rattle.sift_lang.specs.Tree.{Term, Statement, bind, assign, output, choose, choose_else, repeat, Block, end, step}
use Rattle.sift_parse.specs.declared.token.Keyword.TheVariants.{Let, Out, If, Else, Repeat}
use Rattle.sift_parse.specs.declared.token.Sign.TheVariants.{Assign, OpenBrace, CloseBrace, Semicolon}
use Rattle.sift_parse.specs.declared.token.Token.{Token}
use Rattle.sift_parse.specs.declared.token.Token.TheVariants.{Keyword, Name}
use Rattle.sift_parse.specs.Reading.{Outcome, found, fault, and_then, read_sign, read_name, read_number, read_index, closed_by, read}

-- the expression of a statement, from its `=` to its `;`
abbrev pub valued_by : (List Token → Outcome Term) → List Token → Outcome Term
valued_by expr ts = and_then (read_sign Assign ts) (λ _ us. closed_by Semicolon expr us)

-- a statement that is made of an expression
abbrev pub value_by : (List Token → Outcome Term) → (Term → Statement) → List Token → Outcome Statement
value_by expr make ts = and_then (valued_by expr ts) (λ t rest. found (make t) rest)

-- a block in braces
abbrev pub braced_by : (List Token → Outcome Block) → List Token → Outcome Block
braced_by block ts = and_then (read_sign OpenBrace ts) (λ _ us. closed_by CloseBrace block us)

-- an `if` after its first block, from this token on
abbrev pub else_from : (List Token → Outcome Block) → Term → Block → Token → List Token → Outcome Statement
else_from block t first (Keyword Else) ts = and_then (braced_by block ts) (λ second rest. found (choose_else t first second) rest)
else_from block t first u ts = found (choose t first) (u ∷ ts)

-- an `if` after its first block
abbrev pub else_by : (List Token → Outcome Block) → Term → Block → List Token → Outcome Statement
else_by block t first [] = found (choose t first) []
else_by block t first (u ∷ ts) = else_from block t first u ts

-- an `if` after its keyword
abbrev pub if_by : (List Token → Outcome Term) → (List Token → Outcome Block) → List Token → Outcome Statement
if_by expr block ts = and_then (expr ts) (λ t us. and_then (braced_by block us) (λ first vs. else_by block t first vs))

-- a statement, that there is one
abbrev pub some_by : (List Token → Outcome Statement) → List Token → Outcome (Option Statement)
some_by statement ts = and_then (statement ts) (λ s rest. found (Some s) rest)

-- a statement that begins with this token; none where the token begins no statement
abbrev pub statement_from : (List Token → Outcome Term) → (List Token → Outcome Block) → Token → List Token → Outcome (Option Statement)
statement_from expr block (Keyword Let) ts = some_by (λ ts. and_then (read_name ts) (λ _ us. value_by expr bind us)) ts
statement_from expr block (Name l) ts = some_by (value_by expr (assign l)) ts
statement_from expr block (Keyword Out) ts = some_by (λ ts. and_then (read_index ts) (λ j us. value_by expr (output j) us)) ts
statement_from expr block (Keyword If) ts = some_by (if_by expr block) ts
statement_from expr block (Keyword Repeat) ts = some_by (λ ts. and_then (read_number ts) (λ k us. and_then (braced_by block us) (λ body rest. found (repeat k body) rest))) ts
statement_from expr block t ts = found None (t ∷ ts)

-- a statement, if one begins here, with the readers of an expression and of a block inside it
abbrev pub statement_by : (List Token → Outcome Term) → (List Token → Outcome Block) → List Token → Outcome (Option Statement)
statement_by expr block [] = found None []
statement_by expr block (t ∷ ts) = statement_from expr block t ts

-- the block of a statement and of those after it; without a statement the block ends
abbrev pub block_from : (List Token → Outcome Block) → Option Statement → List Token → Outcome Block
block_from block None ts = found end ts
block_from block (Some s) ts = and_then (block ts) (λ b rest. found (step s b) rest)

-- a block, with the readers of an expression and of a block inside it
abbrev pub block_by : (List Token → Outcome Term) → (List Token → Outcome Block) → List Token → Outcome Block
block_by expr block ts = and_then (statement_by expr block ts) (block_from block)

-- a block; the number bounds the calls
unfoldable pub read_block : ℕ → List Token → Outcome Block
read_block zero ts = fault ts
read_block (suc fuel) ts = block_by (read fuel 0) (read_block fuel) ts

-- the block, where no token is left after it
abbrev pub whole : Block → List Token → Outcome Block
whole b [] = found b []
whole b (t ∷ ts) = fault (t ∷ ts)

-- a task
abbrev pub read_task : ℕ → List Token → Outcome Block
read_task fuel ts = and_then (read_block fuel ts) whole
