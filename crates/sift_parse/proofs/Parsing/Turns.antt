-- How the reader of a block goes, statement by statement, from some number of calls on.
use Rattle.std.proofs.Common.{◌≡◌, ℕ, suc, ◌+◌, ◌-◌, ◌≤◌, List, [], ◌∷◌, ◌++◌, Option, Some, None, refl, sym, ap, ◌∙◌, arith, Result, Ok, Err}
use Rattle.sift_lang.specs.Tree.{Term, Statement, Block, choose, choose_else, end, step}
use Rattle.sift_lang.specs.Tree as tree
use Rattle.sift_parse.specs.declared.token.Keyword.TheVariants.{Else}
use Rattle.sift_parse.specs.declared.token.Token.{Token}
use Rattle.sift_parse.specs.declared.token.Token.TheVariants.{Keyword}
use Rattle.sift_parse.specs.declared.token.ReadStop.{ReadStop}
use Rattle.sift_parse.specs.declared.token.ReadStop.TheVariants.{Syntax, NoMemory}
use Rattle.sift_parse.specs.Reading.{Outcome, found, fault, and_then, read}
use Rattle.sift_parse.specs.ReadingBlocks.{braced_by, else_by, if_by, statement_by, block_from, read_block}
use Rattle.sift_parse.specs.Parsing.{Settles, Reading, NoElse}
use Rattle.sift_parse.proofs.Parsing.Sequences.{reads-then, reads-then_fault}

-- a block's outcome, with these statements before it
abbrev pub following : List Statement → Outcome Block → Outcome Block
following [] o = o
following (s ∷ ss) o = and_then (following ss o) (λ b rest. found (step s b) rest)

following-more : (ss : List Statement) (s : Statement) (o : Outcome Block)
    → following (ss ++ s ∷ []) o ≡ following ss (and_then o (λ b rest. found (step s b) rest))
following-more [] s o = refl
following-more (x ∷ ss) s o = ap (λ o. and_then o (λ b rest. found (step x b) rest)) (following-more ss s o)

following-found : (ss : List Statement) (rest : List Token) → following ss (found end rest) ≡ found (tree.block_from ss) rest
following-found [] rest = refl
following-found (x ∷ ss) rest = ap (λ o. and_then o (λ b rest. found (step x b) rest)) (following-found ss rest)

following-fault : (ss : List Statement) (bad : List Token) → following ss (fault bad) ≡ fault bad
following-fault [] bad = refl
following-fault (x ∷ ss) bad = ap (λ o. and_then o (λ b rest. found (step x b) rest)) (following-fault ss bad)

-- reading a block here leads to these statements and the block after them
pub record Turns (ts : List Token) (ss : List Statement) (us : List Token) : Type 0 where
  pub more : ℕ
  pub least : ℕ
  pub from : (fuel : ℕ) → least ≤ fuel → read_block (more + fuel) ts ≡ following ss (read_block fuel us)

once : (us : List Token) (fuel : ℕ) (o : Outcome (Option Statement)) → statement_by (read fuel 0) (read_block fuel) us ≡ o
    → read_block (suc fuel) us ≡ and_then o (block_from (read_block fuel))
unfolding read_block
once us fuel o e = ap (λ o. and_then o (block_from (read_block fuel))) e

-- one more statement
pub turns-more : (ts : List Token) (ss : List Statement) (us vs : List Token) (s : Statement) → Turns ts ss us
    → Settles (Option Statement) (λ fuel. statement_by (read fuel 0) (read_block fuel)) us (found (Some s) vs) → Turns ts (ss ++ s ∷ []) vs
turns-more ts ss us vs s t r =
    record {
      more = t.more + 1;
      least = t.least + r.least;
      from = λ fuel le. (let e : t.more + 1 + fuel ≡ t.more + suc fuel = omega arith in ap (λ f. read_block f ts) e
          ∙ (t.from (suc fuel) (omega arith)
          ∙ (ap (following ss) (once us fuel (found (Some s) vs) (r.from fuel (omega arith)))
          ∙ sym (following-more ss s (read_block fuel vs)))));
    }

turns-to : (ts : List Token) (ss : List Statement) (us : List Token) (o : Outcome (Option Statement)) (p : Outcome Block) → Turns ts ss us
    → Settles (Option Statement) (λ fuel. statement_by (read fuel 0) (read_block fuel)) us o
    → ((fuel : ℕ) → following ss (and_then o (block_from (read_block fuel))) ≡ p) → Settles Block (λ fuel. read_block fuel) ts p
turns-to ts ss us o p t r ends =
    record {
      least = t.more + (t.least + (r.least + 1));
      from = λ fuel le. (let f = fuel - t.more - 1 in let e : fuel ≡ t.more + suc f = omega arith in ap (λ f. read_block f ts) e
          ∙ (t.from (suc f) (omega arith) ∙ (ap (following ss) (once us f o (r.from f (omega arith))) ∙ ends f)));
    }

-- no statement is left
pub turns-end : (ts : List Token) (ss : List Statement) (us vs : List Token) → Turns ts ss us
    → Settles (Option Statement) (λ fuel. statement_by (read fuel 0) (read_block fuel)) us (found None vs)
    → Settles Block (λ fuel. read_block fuel) ts (found (tree.block_from ss) vs)
turns-end ts ss us vs t r = turns-to ts ss us (found None vs) (found (tree.block_from ss) vs) t r (λ fuel. following-found ss vs)

-- a statement that offends
pub turns-fault : (ts : List Token) (ss : List Statement) (us bad : List Token) → Turns ts ss us
    → Settles (Option Statement) (λ fuel. statement_by (read fuel 0) (read_block fuel)) us (fault bad)
    → Settles Block (λ fuel. read_block fuel) ts (fault bad)
turns-fault ts ss us bad t r = turns-to ts ss us (fault bad) (fault bad) t r (λ fuel. following-fault ss bad)

-- ---- `if`

else-to : (t : Term) (first : Block) (ts us : List Token) (o : Outcome Block) → ts ≡ Keyword Else ∷ us
    → Settles Block (λ fuel. braced_by (read_block fuel)) us o
    → Settles Statement (λ fuel. else_by (read_block fuel) t first) ts (and_then o (λ second rest. found (choose_else t first second) rest))
else-to t first ts us o e r =
    record {
      least = r.least;
      from = λ fuel le. ap (else_by (read_block fuel) t first) e
          ∙ ap (λ o. and_then o (λ second rest. found (choose_else t first second) rest)) (r.from fuel le);
    }

-- the second block is read, or offends
pub else-found : (t : Term) (first second : Block) (ts us left : List Token) → ts ≡ Keyword Else ∷ us
    → Settles Block (λ fuel. braced_by (read_block fuel)) us (found second left)
    → Settles Statement (λ fuel. else_by (read_block fuel) t first) ts (found (choose_else t first second) left)
else-found t first second ts us left e r = else-to t first ts us (found second left) e r

-- the second block offends
pub else-fault : (t : Term) (first : Block) (ts us bad : List Token) → ts ≡ Keyword Else ∷ us
    → Settles Block (λ fuel. braced_by (read_block fuel)) us (fault bad)
    → Settles Statement (λ fuel. else_by (read_block fuel) t first) ts (fault bad)
else-fault t first ts us bad e r = else-to t first ts us (fault bad) e r

else-stopped : (t : Term) (first : Block) (ts : List Token) → NoElse ts → (fuel : ℕ)
    → else_by (read_block fuel) t first ts ≡ found (choose t first) ts
else-stopped t first [] none fuel = refl
else-stopped t first (Keyword Else ∷ ts) none fuel = absurd none
else-stopped t first (_ ∷ ts) none fuel = refl

-- there is no `else`
pub else-none : (t : Term) (first : Block) (ts us : List Token) → ts ≡ us → NoElse ts
    → Settles Statement (λ fuel. else_by (read_block fuel) t first) ts (found (choose t first) us)
else-none t first ts us same none =
    record { least = 0; from = λ fuel le. else-stopped t first ts none fuel ∙ ap (λ us. found (choose t first) us) same }

-- the test offends
pub if-test : (ts bad : List Token) → Settles Term (λ fuel. read fuel 0) ts (fault bad)
    → Settles Statement (λ fuel. if_by (read fuel 0) (read_block fuel)) ts (fault bad)
if-test ts bad r =
    reads-then_fault Term Statement (λ fuel. read fuel 0)
    (λ fuel t us. and_then (braced_by (read_block fuel) us) (λ first vs. else_by (read_block fuel) t first vs)) ts bad r

-- the first block offends
pub if-fault : (t : Term) (ts us bad : List Token) → Settles Term (λ fuel. read fuel 0) ts (found t us)
    → Settles Block (λ fuel. braced_by (read_block fuel)) us (fault bad)
    → Settles Statement (λ fuel. if_by (read fuel 0) (read_block fuel)) ts (fault bad)
if-fault t ts us bad r s =
    reads-then Term Statement (λ fuel. read fuel 0)
    (λ fuel t us. and_then (braced_by (read_block fuel) us) (λ first vs. else_by (read_block fuel) t first vs)) ts us t (fault bad) r
    (reads-then_fault Block Statement (λ fuel. braced_by (read_block fuel))
    (λ fuel first vs. else_by (read_block fuel) t first vs) us bad s)

-- what follows the first block decides
pub if-to : (t : Term) (first : Block) (ts us vs : List Token) (o : Outcome Statement) → Settles Term (λ fuel. read fuel 0) ts (found t us)
    → Settles Block (λ fuel. braced_by (read_block fuel)) us (found first vs)
    → Settles Statement (λ fuel. else_by (read_block fuel) t first) vs o
    → Settles Statement (λ fuel. if_by (read fuel 0) (read_block fuel)) ts o
if-to t first ts us vs o r s q =
    reads-then Term Statement (λ fuel. read fuel 0)
    (λ fuel t us. and_then (braced_by (read_block fuel) us) (λ first vs. else_by (read_block fuel) t first vs)) ts us t o r
    (reads-then Block Statement (λ fuel. braced_by (read_block fuel))
    (λ fuel first vs. else_by (read_block fuel) t first vs) us vs first o s q)

-- ---- results

-- what is answered by one reader is answered by another
pub answered : (A T : Type 0) (view : T → A) (R S : ℕ → List Token → Outcome A) (ts us left : List Token) (r : Result T ReadStop)
    → ((o : Outcome A) → Settles A R ts o → Settles A S us o) → Reading {A = A} {T = T} view R ts r left
    → Reading {A = A} {T = T} view S us r left
answered A T view R S ts us left (Ok e) f h = f (found (view e) left) h
answered A T view R S ts us left (Err Syntax) f h = f (fault left) h
answered A T view R S ts us left (Err NoMemory) f h = tt
