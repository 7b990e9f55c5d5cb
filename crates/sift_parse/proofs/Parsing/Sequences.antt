-- How one reader goes after another, and what is answered then.
use Rattle.std.proofs.Common.{◌≡◌, ℕ, suc, ◌+◌, List, refl, ap, ◌∙◌, subst, arith, add-one, Result, Ok, Err}
use Rattle.sift_lang.specs.declared.tree.Expr.{Expr}
use Rattle.sift_lang.specs.Tree.{Term, Block, middle, term_of}
use Rattle.sift_parse.specs.declared.token.Sign.TheVariants.{OpenParen, CloseParen, OpenBrace, CloseBrace, Comma}
use Rattle.sift_parse.specs.declared.token.Sign as signs
use Rattle.sift_parse.specs.declared.token.ReadStop.{ReadStop}
use Rattle.sift_parse.specs.declared.token.ReadStop.TheVariants.{Syntax, NoMemory}
use Rattle.sift_parse.specs.declared.token.Token.{Token}
use Rattle.sift_parse.specs.Reading.{Outcome, found, fault, and_then, read_sign, closed_by, middle_by, read}
use Rattle.sift_parse.specs.ReadingBlocks.{braced_by, read_block}
use Rattle.sift_parse.specs.Parsing.{Settles, Reading}

-- ---- one reader after another

-- where one reader finds something, the two in turn answer what the next one answers behind it
pub reads-then : (A B : Type 0) (R : ℕ → List Token → Outcome A) (S : ℕ → A → List Token → Outcome B) (ts mid : List Token) (a : A) (o : Outcome B)
    → Settles A R ts (found a mid) → Settles B (λ fuel. S fuel a) mid o → Settles B (λ fuel ts. and_then (R fuel ts) (S fuel)) ts o
reads-then A B R S ts mid a o r s =
    record {
      least = r.least + s.least;
      from = λ fuel le. ap (λ o. and_then o (S fuel)) (r.from fuel (omega arith))
          ∙ s.from fuel (omega arith);
    }

-- where the first of two readers comes to a token that offends, the two in turn come to it too
pub reads-then_fault : (A B : Type 0) (R : ℕ → List Token → Outcome A) (S : ℕ → A → List Token → Outcome B) (ts bad : List Token)
    → Settles A R ts (fault bad) → Settles B (λ fuel ts. and_then (R fuel ts) (S fuel)) ts (fault bad)
reads-then_fault A B R S ts bad r = record { least = r.least; from = λ fuel le. ap (λ o. and_then o (S fuel)) (r.from fuel le) }

-- the next level, as the code counts it
pub reads-suc : (n : ℕ) (ts : List Token) (o : Outcome Term) → Settles Term (λ fuel. read fuel (n + 1)) ts o
    → Settles Term (λ fuel. read fuel (suc n)) ts o
reads-suc n ts o r = subst (λ m. Settles Term (λ fuel. read fuel m) ts o) (add-one n) r

-- ---- a reader and the sign after it

-- the reader offends
pub closed-inner : (A : Type 0) (s : signs.Sign) (R : ℕ → List Token → Outcome A) (ts bad : List Token) → Settles A R ts (fault bad)
    → Settles A (λ fuel. closed_by s (R fuel)) ts (fault bad)
closed-inner A s R ts bad r = reads-then_fault A A R (λ fuel a us. and_then (read_sign s us) (λ _ vs. found a vs)) ts bad r

-- the reader finds something, and what stands behind it decides
pub closed-sign : (A : Type 0) (s : signs.Sign) (R : ℕ → List Token → Outcome A) (ts us : List Token) (a : A) (o : Outcome (Unit {0}))
    → Settles A R ts (found a us) → read_sign s us ≡ o → Settles A (λ fuel. closed_by s (R fuel)) ts (and_then o (λ _ vs. found a vs))
closed-sign A s R ts us a o r e =
    reads-then A A R (λ fuel a us. and_then (read_sign s us) (λ _ vs. found a vs)) ts us a (and_then o (λ _ vs. found a vs)) r
    (record { least = 0; from = λ fuel le. ap (λ o. and_then o (λ _ vs. found a vs)) e })

-- a block in braces, without the first brace
pub braced-open : (ts bad : List Token) → read_sign OpenBrace ts ≡ fault bad → Settles Block (λ fuel. braced_by (read_block fuel)) ts (fault bad)
braced-open ts bad e =
    record { least = 0; from = λ fuel le. ap (λ o. and_then o (λ _ us. closed_by CloseBrace (read_block fuel) us)) e }

-- a block in braces, behind the first brace
pub braced-rest : (ts us : List Token) (o : Outcome Block) → read_sign OpenBrace ts ≡ found tt us
    → Settles Block (λ fuel. closed_by CloseBrace (read_block fuel)) us o → Settles Block (λ fuel. braced_by (read_block fuel)) ts o
braced-rest ts us o e r =
    record {
      least = r.least;
      from = λ fuel le. ap (λ o. and_then o (λ _ us. closed_by CloseBrace (read_block fuel) us)) e ∙ r.from fuel le;
    }

-- ---- results

-- what is answered by one reader is answered by another
pub answered : (R S : ℕ → List Token → Outcome Term) (ts us left : List Token) (r : Result Expr ReadStop)
    → ((o : Outcome Term) → Settles Term R ts o → Settles Term S us o) → Reading term_of R ts r left → Reading term_of S us r left
answered R S ts us left (Ok e) f h = f (found (term_of e) left) h
answered R S ts us left (Err Syntax) f h = f (fault left) h
answered R S ts us left (Err NoMemory) f h = tt

-- ---- `mid`

-- the reader of the third part, and of the second and third
abbrev third_by : ℕ → Term → Term → List Token → Outcome Term
third_by fuel t u ws = and_then (closed_by CloseParen (read fuel 0) ws) (λ v rest. found (middle t u v) rest)

abbrev second_by : ℕ → Term → List Token → Outcome Term
second_by fuel t vs = and_then (closed_by Comma (read fuel 0) vs) (third_by fuel t)

middle-step : (ts us : List Token) (o : Outcome Term) → read_sign OpenParen ts ≡ found tt us
    → Settles Term (λ fuel us. and_then (closed_by Comma (read fuel 0) us) (second_by fuel)) us o
    → Settles Term (λ fuel. middle_by (read fuel 0)) ts o
middle-step ts us o e r =
    record {
      least = r.least;
      from = λ fuel le. ap (λ o. and_then o (λ _ us. and_then (closed_by Comma (read fuel 0) us) (second_by fuel))) e
          ∙ r.from fuel le;
    }

-- where the second part of a `mid` offends, behind its `(` and its first part, the `mid` offends there
pub middle-second : (ts us vs bad : List Token) (t : Term) → read_sign OpenParen ts ≡ found tt us
    → Settles Term (λ fuel. closed_by Comma (read fuel 0)) us (found t vs) → Settles Term (λ fuel. closed_by Comma (read fuel 0)) vs (fault bad)
    → Settles Term (λ fuel. middle_by (read fuel 0)) ts (fault bad)
middle-second ts us vs bad t e r s =
    middle-step ts us (fault bad) e
    (reads-then Term Term (λ fuel. closed_by Comma (read fuel 0)) second_by us vs t (fault bad) r
    (reads-then_fault Term Term (λ fuel. closed_by Comma (read fuel 0)) (λ fuel. third_by fuel t) vs bad s))

-- where the third part of a `mid` offends, behind its first and its second, the `mid` offends there
pub middle-third : (ts us vs ws bad : List Token) (t u : Term) → read_sign OpenParen ts ≡ found tt us
    → Settles Term (λ fuel. closed_by Comma (read fuel 0)) us (found t vs)
    → Settles Term (λ fuel. closed_by Comma (read fuel 0)) vs (found u ws)
    → Settles Term (λ fuel. closed_by CloseParen (read fuel 0)) ws (fault bad) → Settles Term (λ fuel. middle_by (read fuel 0)) ts (fault bad)
middle-third ts us vs ws bad t u e r s q =
    middle-step ts us (fault bad) e
    (reads-then Term Term (λ fuel. closed_by Comma (read fuel 0)) second_by us vs t (fault bad) r
    (reads-then Term Term (λ fuel. closed_by Comma (read fuel 0)) (λ fuel. third_by fuel t) vs ws u (fault bad) s
    (reads-then_fault Term Term (λ fuel. closed_by CloseParen (read fuel 0)) (λ fuel v rest. found (middle t u v) rest) ws bad q)))

-- a `mid` is found where its `(` is, and its three parts, each with the sign after it
pub middle-found : (ts us vs ws left : List Token) (t u v : Term) → read_sign OpenParen ts ≡ found tt us
    → Settles Term (λ fuel. closed_by Comma (read fuel 0)) us (found t vs)
    → Settles Term (λ fuel. closed_by Comma (read fuel 0)) vs (found u ws)
    → Settles Term (λ fuel. closed_by CloseParen (read fuel 0)) ws (found v left)
    → Settles Term (λ fuel. middle_by (read fuel 0)) ts (found (middle t u v) left)
middle-found ts us vs ws left t u v e r s q =
    middle-step ts us (found (middle t u v) left) e
    (reads-then Term Term (λ fuel. closed_by Comma (read fuel 0)) second_by us vs t (found (middle t u v) left) r
    (reads-then Term Term (λ fuel. closed_by Comma (read fuel 0)) (λ fuel. third_by fuel t) vs ws u (found (middle t u v) left) s
    (reads-then Term Term (λ fuel. closed_by CloseParen (read fuel 0)) (λ fuel v rest. found (middle t u v) rest) ws left v
    (found (middle t u v) left) q (record { least = 0; from = λ fuel le. refl }))))

-- where the first part of a `mid` offends, behind its `(`, the `mid` offends there
pub middle-first : (ts us bad : List Token) → read_sign OpenParen ts ≡ found tt us
    → Settles Term (λ fuel. closed_by Comma (read fuel 0)) us (fault bad) → Settles Term (λ fuel. middle_by (read fuel 0)) ts (fault bad)
middle-first ts us bad e r =
    middle-step ts us (fault bad) e (reads-then_fault Term Term (λ fuel. closed_by Comma (read fuel 0)) second_by us bad r)

-- a `mid` without its `(`
pub middle-open : (ts bad : List Token) → read_sign OpenParen ts ≡ fault bad → Settles Term (λ fuel. middle_by (read fuel 0)) ts (fault bad)
middle-open ts bad e =
    record {
      least = 0;
      from = λ fuel le. ap (λ o. and_then o (λ _ us. and_then (closed_by Comma (read fuel 0) us) (second_by fuel))) e;
    }
