-- A task is read whole, so its tokens have one tree; and what reading refuses offends.
use Rattle.std.proofs.Common.{◌≡◌, ℕ, zero, suc, ◌+◌, ◌≤◌, Option, Some, List, [], ◌∷◌, refl, sym, ap, ◌∙◌, arith}
use Rattle.sift_lang.specs.Tree.{Term, Statement, bind, assign, output, choose, choose_else, repeat, Block, end, step}
use Rattle.sift_parse.specs.declared.token.Keyword.TheVariants.{Else}
use Rattle.sift_parse.specs.declared.token.Sign.TheVariants.{Assign, OpenBrace, CloseBrace, Semicolon}
use Rattle.sift_parse.specs.declared.token.Token.{Token}
use Rattle.sift_parse.specs.declared.token.Token.TheVariants.{Keyword, Sign}
use Rattle.sift_parse.specs.Grammar.{IsExpr, IsStatement, a_let, an_assignment, an_output, an_if, an_if_else, a_repeat, IsBlock, no_statement, a_statement, IsTask}
use Rattle.sift_parse.specs.Reading.{Outcome, found, and_then, read}
use Rattle.sift_parse.specs.ReadingBlocks.{valued_by, value_by, braced_by, else_by, if_by, some_by, statement_by, block_from, block_by, read_block, whole, read_task}
use Rattle.sift_parse.specs.Parsing.{NoElse}
use Rattle.sift_parse.proofs.Parsing.CompleteChains.{Read, read-then, read-mapped, read-closed}
use Rattle.sift_parse.proofs.Parsing.Complete.{level_read}

-- ---- statements

value_read : (make : Term → Statement) (ts rest : List Token) (t : Term) → IsExpr ts t (Sign Semicolon ∷ rest)
    → Read Statement (λ fuel. value_by (read fuel 0) make) (Sign Assign ∷ ts) (make t) rest
value_read make ts rest t d =
    let i = read-closed Term Semicolon (λ fuel. read fuel 0) ts rest t (level_read 0 ts (Sign Semicolon ∷ rest) t d tt) in
    let j : Read Term (λ fuel. valued_by (read fuel 0)) (Sign Assign ∷ ts) t rest = record { least = i.least; from = i.from } in
    read-mapped Term Statement (λ fuel. valued_by (read fuel 0)) make (Sign Assign ∷ ts) rest t j

some_read : (R : ℕ → List Token → Outcome Statement) (ts mid : List Token) (s : Statement) → Read Statement R ts s mid
    → Read (Option Statement) (λ fuel. some_by (R fuel)) ts (Some s) mid
some_read R ts mid s r = read-mapped Statement (Option Statement) R (λ s. Some s) ts mid s r

-- a statement and the block after it
step_read : (ts mid rest : List Token) (s : Statement) (b : Block)
    → Read (Option Statement) (λ fuel. statement_by (read fuel 0) (read_block fuel)) ts (Some s) mid → Read Block read_block mid b rest
    → Read Block (λ fuel. block_by (read fuel 0) (read_block fuel)) ts (step s b) rest
step_read ts mid rest s b r q =
    read-then (Option Statement) Block (λ fuel. statement_by (read fuel 0) (read_block fuel))
    (λ fuel. block_from (read_block fuel)) ts mid rest (Some s) (step s b) r (read-mapped Block Block read_block (step s) mid rest b q)

braced_read : (ts rest : List Token) (b : Block) → Read Block read_block ts b (Sign CloseBrace ∷ rest)
    → Read Block (λ fuel. braced_by (read_block fuel)) (Sign OpenBrace ∷ ts) b rest
braced_read ts rest b r = let i = read-closed Block CloseBrace read_block ts rest b r in record { least = i.least; from = i.from }

-- a block ends here
abbrev Ends : List Token → Type 0
Ends [] = Unit {0}
Ends (Sign CloseBrace ∷ ts) = Unit {0}
Ends _ = ⊥

-- an `if` behind whose first block no `else` stands is read without a second block
pub else_by-none : (block : List Token → Outcome Block) (t : Term) (first : Block) (ts : List Token) → NoElse ts
    → else_by block t first ts ≡ found (choose t first) ts
else_by-none block t first [] n = refl
else_by-none block t first (Keyword Else ∷ ts) n = absurd n
else_by-none block t first (_ ∷ ts) n = refl

statement-no_else : (ts rest : List Token) (s : Statement) → IsStatement ts s rest → NoElse ts
statement-no_else ts rest s (a_let l us r t d) = tt
statement-no_else ts rest s (an_assignment l us r t d) = tt
statement-no_else ts rest s (an_output j us r t d) = tt
statement-no_else ts rest s (an_if us vs r t b d e) = tt
statement-no_else ts rest s (an_if_else us vs ws r t b c d e f) = tt
statement-no_else ts rest s (a_repeat k us r b d) = tt

block-no_else : (ts rest : List Token) (b : Block) → IsBlock ts b rest → NoElse rest → NoElse ts
block-no_else ts rest b (no_statement r) n = n
block-no_else ts rest b (a_statement us mid r s c d e) n = statement-no_else us mid s d

Ends-no_else : (ts : List Token) → Ends ts → NoElse ts
Ends-no_else [] e = tt
Ends-no_else (Sign CloseBrace ∷ ts) e = tt
Ends-no_else (_ ∷ ts) e = absurd e

pub read-block : (fuel : ℕ) (ts : List Token) (o : Outcome Block) → 1 ≤ fuel
    → ((f : ℕ) → fuel ≡ suc f → block_by (read f 0) (read_block f) ts ≡ o) → read_block fuel ts ≡ o
unfolding read_block
read-block zero ts o le h = absurd (omega arith)
read-block (suc f) ts o le h = h f refl

lifted : (ts rest : List Token) (b : Block) → Read Block (λ fuel. block_by (read fuel 0) (read_block fuel)) ts b rest
    → Read Block read_block ts b rest
lifted ts rest b r = record { least = suc r.least; from = λ fuel le. read-block fuel ts (found b rest) (omega arith) (λ f is. r.from f (omega arith)) }

ends_read : (ts : List Token) → Ends ts → Read Block (λ fuel. block_by (read fuel 0) (read_block fuel)) ts end ts
ends_read [] e = record { least = 0; from = λ fuel le. refl }
ends_read (Sign CloseBrace ∷ ts) e = record { least = 0; from = λ fuel le. refl }
ends_read (_ ∷ ts) e = absurd e

if_read : (ts us mid rest : List Token) (t : Term) (first : Block) (s : Statement) → IsExpr ts t (Sign OpenBrace ∷ us)
    → Read Block read_block us first (Sign CloseBrace ∷ mid) → Read Statement (λ fuel. else_by (read_block fuel) t first) mid s rest
    → Read Statement (λ fuel. if_by (read fuel 0) (read_block fuel)) ts s rest
if_read ts us mid rest t first s d i k =
    let j = level_read 0 ts (Sign OpenBrace ∷ us) t d tt in
    read-then Term Statement (λ fuel. read fuel 0)
    (λ fuel t us. and_then (braced_by (read_block fuel) us) (λ first vs. else_by (read_block fuel) t first vs)) ts
    (Sign OpenBrace ∷ us) rest t s j
    (read-then Block Statement (λ fuel. braced_by (read_block fuel)) (λ fuel first vs. else_by (read_block fuel) t first vs)
    (Sign OpenBrace ∷ us) mid rest first s (braced_read us mid first i) k)

mutual
  statement_read : (ts mid : List Token) (s : Statement) → IsStatement ts s mid → NoElse mid
      → Read (Option Statement) (λ fuel. statement_by (read fuel 0) (read_block fuel)) ts (Some s) mid
  statement_read ts mid s (a_let l us r t d) n =
      let i = some_read (λ fuel. value_by (read fuel 0) bind) (Sign Assign ∷ us) r (bind t) (value_read bind us r t d) in
      record { least = i.least; from = i.from }
  statement_read ts mid s (an_assignment l us r t d) n =
      let i = some_read (λ fuel. value_by (read fuel 0) (assign l)) (Sign Assign ∷ us) r (assign l t) (value_read (assign l) us r t d) in
      record { least = i.least; from = i.from }
  statement_read ts mid s (an_output j us r t d) n =
      let i = some_read (λ fuel. value_by (read fuel 0) (output j)) (Sign Assign ∷ us) r (output j t) (value_read (output j) us r t d) in
      record { least = i.least; from = i.from }
  statement_read ts mid s (an_if us vs r t first d e) n =
      let k : Read Statement (λ fuel. else_by (read_block fuel) t first) r (choose t first) r =
      record { least = 0; from = λ fuel le. else_by-none (read_block fuel) t first r n } in
      let i =
      some_read (λ fuel. if_by (read fuel 0) (read_block fuel)) us r (choose t first)
      (if_read us vs r r t first (choose t first) d (block_read vs (Sign CloseBrace ∷ r) first e tt) k) in
      record { least = i.least; from = i.from }
  statement_read ts mid s (an_if_else us vs ws r t first second d e f) n =
      let m =
      read-mapped Block Statement (λ fuel. braced_by (read_block fuel)) (choose_else t first) (Sign OpenBrace ∷ ws) r second
      (braced_read ws r second (block_read ws (Sign CloseBrace ∷ r) second f tt)) in
      let k : Read Statement (λ fuel. else_by (read_block fuel) t first) (Keyword Else ∷ Sign OpenBrace ∷ ws) (choose_else t first second) r =
      record { least = m.least; from = m.from } in
      let i =
      some_read (λ fuel. if_by (read fuel 0) (read_block fuel)) us r (choose_else t first second)
      (if_read us vs (Keyword Else ∷ Sign OpenBrace ∷ ws) r t first (choose_else t first second) d
      (block_read vs (Sign CloseBrace ∷ Keyword Else ∷ Sign OpenBrace ∷ ws) first e tt) k) in
      record { least = i.least; from = i.from }
  statement_read ts mid s (a_repeat k us r body d) n =
      let m =
      read-mapped Block Statement (λ fuel. braced_by (read_block fuel)) (repeat k) (Sign OpenBrace ∷ us) r body
      (braced_read us r body (block_read us (Sign CloseBrace ∷ r) body d tt)) in
      let i =
      some_read (λ fuel ts. and_then (braced_by (read_block fuel) ts) (λ body rest. found (repeat k body) rest)) (Sign OpenBrace ∷ us) r
      (repeat k body) m in
      record { least = i.least; from = i.from }

  block_read : (ts rest : List Token) (b : Block) → IsBlock ts b rest → Ends rest → Read Block read_block ts b rest
  block_read ts rest b (no_statement r) e = lifted r r end (ends_read r e)
  block_read ts rest b (a_statement us mid r s c d q) e =
      lifted us r (step s c)
      (step_read us mid r s c (statement_read us mid s d (block-no_else mid r c q (Ends-no_else r e))) (block_read mid r c q e))

-- ---- tasks

-- a task is read
pub task_read : (ts : List Token) (b : Block) → IsTask ts b → Read Block read_task ts b []
task_read ts b d = let i = block_read ts [] b d tt in record { least = i.least; from = λ fuel le. ap (λ o. and_then o whole) (i.from fuel le) }

-- tokens have one tree
pub one_tree : (ts : List Token) (a b : Block) → IsTask ts a → IsTask ts b → a ≡ b
one_tree ts a b p q =
    let i = task_read ts a p in
    let j = task_read ts b q in
    let e = sym (i.from (i.least + j.least) (omega arith)) ∙ j.from (i.least + j.least) (omega arith) in
    cc
