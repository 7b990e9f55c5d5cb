-- The readers of statements that are made of an expression are lawful for the grammar.
use Rattle.std.proofs.Common.{ℕ, List, ◌∷◌}
use Rattle.sift_lang.specs.Tree.{Term, Statement, bind, assign, output}
use Rattle.sift_parse.specs.declared.token.Keyword.TheVariants.{Let, Out}
use Rattle.sift_parse.specs.declared.token.Sign.TheVariants.{Assign, Semicolon}
use Rattle.sift_parse.specs.declared.token.Token.{Token}
use Rattle.sift_parse.specs.declared.token.Token.TheVariants.{Keyword, Name, Sign}
use Rattle.sift_parse.specs.Grammar.{IsExpr, IsStatement, a_let, an_assignment, an_output}
use Rattle.sift_parse.specs.Reading.{Outcome, and_then, read_name, read_index, closed_by}
use Rattle.sift_parse.specs.ReadingBlocks.{valued_by, value_by}
use Rattle.sift_parse.proofs.Parsing.Laws.{Lawful}
use Rattle.sift_parse.proofs.Parsing.Steps.{Then, in_turn, then_lawful, widened}
use Rattle.sift_parse.proofs.Parsing.Looks.{mapped}
use Rattle.sift_parse.proofs.Parsing.Signs.{NameHere, is_name, name_lawful, IndexHere, is_index, index_lawful, Closed, closed_lawful, After, after_sign, after_lawful}

-- ---- statements with an expression

-- an expression from its `=` to its `;`, of which a statement is made
data Valued (make : Term → Statement) : List Token → Statement → List Token → Type 0 where
  valued : (ts rest : List Token) (t : Term) → IsExpr ts t (Sign Semicolon ∷ rest) → Valued make (Sign Assign ∷ ts) (make t) rest

valued_rule : (make : Term → Statement) (ts rest : List Token) (t : Term) → After Term Assign (Closed Term Semicolon IsExpr) ts t rest
    → Valued make ts (make t) rest
valued_rule make ts rest t (after_sign us vs a d) = valued us vs a d

value_lawful : (expr : List Token → Outcome Term) (make : Term → Statement) → Lawful Term IsExpr expr
    → Lawful Statement (Valued make) (value_by expr make)
value_lawful expr make e =
    mapped Term Statement (After Term Assign (Closed Term Semicolon IsExpr)) (Valued make) (valued_by expr) make (valued_rule make)
    (after_lawful Term Assign (Closed Term Semicolon IsExpr) (closed_by Semicolon expr) (closed_lawful Term Semicolon IsExpr expr e))

let_rule : (ts rest : List Token) (s : Statement) → Then ℕ Statement NameHere (λ _. Valued bind) ts s rest
    → IsStatement (Keyword Let ∷ ts) s rest
let_rule ts rest s (in_turn us mid vs a b (is_name n ws) (valued zs qs t d)) = a_let n zs qs t d

-- the reader of a `let` from its name on is lawful for the grammar, where that of expressions is
pub let_lawful : (expr : List Token → Outcome Term) → Lawful Term IsExpr expr
    → Lawful Statement (λ ts s rest. IsStatement (Keyword Let ∷ ts) s rest) (λ ts. and_then (read_name ts) (λ _ us. value_by expr bind us))
let_lawful expr e =
    widened Statement (Then ℕ Statement NameHere (λ _. Valued bind)) (λ ts s rest. IsStatement (Keyword Let ∷ ts) s rest)
    (λ ts. and_then (read_name ts) (λ _ us. value_by expr bind us)) let_rule
    (then_lawful ℕ Statement NameHere (λ _. Valued bind) read_name (λ _ us. value_by expr bind us) name_lawful
    (λ _. value_lawful expr bind e))

assign_rule : (l : ℕ) (ts rest : List Token) (s : Statement) → Valued (assign l) ts s rest → IsStatement (Name l ∷ ts) s rest
assign_rule l ts rest s (valued zs qs t d) = an_assignment l zs qs t d

-- the reader of an assignment from its `=` on is lawful for the grammar, where that of expressions is
pub assign_lawful : (expr : List Token → Outcome Term) (l : ℕ) → Lawful Term IsExpr expr
    → Lawful Statement (λ ts s rest. IsStatement (Name l ∷ ts) s rest) (value_by expr (assign l))
assign_lawful expr l e =
    widened Statement (Valued (assign l)) (λ ts s rest. IsStatement (Name l ∷ ts) s rest) (value_by expr (assign l)) (assign_rule l)
    (value_lawful expr (assign l) e)

out_rule : (ts rest : List Token) (s : Statement) → Then ℕ Statement IndexHere (λ j. Valued (output j)) ts s rest
    → IsStatement (Keyword Out ∷ ts) s rest
out_rule ts rest s (in_turn us mid vs a b (is_index n ws) (valued zs qs t d)) = an_output n zs qs t d

-- the reader of an output from its word's number on is lawful for the grammar, where that of expressions is
pub out_lawful : (expr : List Token → Outcome Term) → Lawful Term IsExpr expr
    → Lawful Statement (λ ts s rest. IsStatement (Keyword Out ∷ ts) s rest) (λ ts. and_then (read_index ts) (λ j us. value_by expr (output j) us))
out_lawful expr e =
    widened Statement (Then ℕ Statement IndexHere (λ j. Valued (output j))) (λ ts s rest. IsStatement (Keyword Out ∷ ts) s rest)
    (λ ts. and_then (read_index ts) (λ j us. value_by expr (output j) us)) out_rule
    (then_lawful ℕ Statement IndexHere (λ j. Valued (output j)) read_index (λ j us. value_by expr (output j) us) index_lawful
    (λ j. value_lawful expr (output j) e))
