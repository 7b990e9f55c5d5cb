-- By the tokens, an expression and a block end nothing that is open before them, whatever follows.
use Rattle.std.proofs.Common.{◌≡◌, ℕ, zero, suc, Bool, true, false, List, [], ◌∷◌, ◌++◌, refl, ◌∙◌}
use Rattle.sift_lang.specs.Tree.{Term, Statement, Block}
use Rattle.sift_parse.specs.declared.token.Keyword.TheVariants.{Else}
use Rattle.sift_parse.specs.declared.token.Sign.TheVariants.{OpenParen, CloseParen, OpenBrace, CloseBrace, Comma, Semicolon}
use Rattle.sift_parse.specs.declared.token.Token.{Token}
use Rattle.sift_parse.specs.declared.token.Token.TheVariants.{Keyword, Sign}
use Rattle.sift_parse.specs.Grammar.{IsPrim, a_number, a_minus, in_parens, a_local, a_middle, a_sensor, of_this_frame, of_last_frame, IsLevel, a_prim, a_chain, IsTail, no_more, compared, more, IsStatement, a_let, an_assignment, an_output, an_if, an_if_else, a_repeat, IsBlock, no_statement, a_statement}

-- ---- by the tokens, whatever follows them

-- a `;` is among the tokens: the statement in which they begin is over
abbrev pub over : List Token → Bool
over [] = false
over (Sign Semicolon ∷ ts) = true
over (t ∷ ts) = over ts

-- a `}` among the tokens closes none of the blocks that they open, nor of n others that are open before them
abbrev pub out : ℕ → List Token → Bool
out n [] = false
out n (Sign OpenBrace ∷ ts) = out (suc n) ts
out zero (Sign CloseBrace ∷ ts) = true
out (suc n) (Sign CloseBrace ∷ ts) = out n ts
out n (t ∷ ts) = out n ts

-- a `)` among the tokens closes none of the parentheses that they open, nor of n others that are open before them
abbrev pub paren_out : ℕ → List Token → Bool
paren_out n [] = false
paren_out n (Sign OpenParen ∷ ts) = paren_out (suc n) ts
paren_out zero (Sign CloseParen ∷ ts) = true
paren_out (suc n) (Sign CloseParen ∷ ts) = paren_out n ts
paren_out n (t ∷ ts) = paren_out n ts

-- these tokens, before those, end nothing
pub record Same (ts rest us : List Token) : Type 0 where
  pub statements : over (ts ++ us) ≡ over (rest ++ us)
  pub blocks : (n : ℕ) → out n (ts ++ us) ≡ out n (rest ++ us)
  pub parens : (n : ℕ) → paren_out n (ts ++ us) ≡ paren_out n (rest ++ us)

same : (rest us : List Token) → Same rest rest us
same rest us = record { statements = refl; blocks = λ n. refl; parens = λ n. refl }

then_same : (ts mid rest us : List Token) → Same ts mid us → Same mid rest us → Same ts rest us
then_same ts mid rest us a b = record { statements = a.statements ∙ b.statements; blocks = λ n. a.blocks n ∙ b.blocks n; parens = λ n. a.parens n ∙ b.parens n }

module _ (qs : List Token) where
  mutual
    prim-same : (ts rest : List Token) (t : Term) → IsPrim ts t rest → Same ts rest qs
    prim-same ts rest t (a_number x r) = record { statements = refl; blocks = λ n. refl; parens = λ n. refl }
    prim-same ts rest t (a_local l r) = record { statements = refl; blocks = λ n. refl; parens = λ n. refl }
    prim-same ts rest t (a_sensor x r) = record { statements = refl; blocks = λ n. refl; parens = λ n. refl }
    prim-same ts rest t (of_this_frame task w r) = record { statements = refl; blocks = λ n. refl; parens = λ n. refl }
    prim-same ts rest t (of_last_frame task w r) = record { statements = refl; blocks = λ n. refl; parens = λ n. refl }
    prim-same ts rest t (a_minus us r u d) = let i = prim-same us rest u d in record { statements = i.statements; blocks = i.blocks; parens = i.parens }
    prim-same ts rest t (in_parens us r u d) =
        let i = level-same 0 us (Sign CloseParen ∷ rest) u d in
        record { statements = i.statements; blocks = i.blocks; parens = λ n. i.parens (suc n) }
    prim-same ts rest t (a_middle us vs ws r u v w d e f) =
        let i = level-same 0 us (Sign Comma ∷ vs) u d in
        let j = level-same 0 vs (Sign Comma ∷ ws) v e in
        let k = level-same 0 ws (Sign CloseParen ∷ rest) w f in
        record {
          statements = i.statements ∙ j.statements ∙ k.statements;
          blocks = λ n. i.blocks n ∙ j.blocks n
              ∙ k.blocks n;
          parens = λ n. i.parens (suc n) ∙ j.parens (suc n) ∙ k.parens (suc n);
        }

    -- an expression's tokens end no statement, block or parenthesis that is open before them, whatever follows
    pub level-same : (m : ℕ) (ts rest : List Token) (t : Term) → IsLevel m ts t rest → Same ts rest qs
    level-same m ts rest t (a_prim us r u d) = prim-same ts rest t d
    level-same m ts rest t (a_chain k us mid r x u lt d e) = then_same ts mid rest qs (level-same (suc m) ts mid x d) (tail-same m x mid t rest e)

    tail-same : (m : ℕ) (x : Term) (ts : List Token) (t : Term) (rest : List Token) → IsTail m x ts t rest → Same ts rest qs
    tail-same m x ts t rest (no_more k y r) = same rest qs
    tail-same m x ts t rest (compared op y z us r lv d) =
        let i = level-same 1 us rest z d in record { statements = i.statements; blocks = i.blocks; parens = i.parens }
    tail-same m x ts t rest (more k op y z u us mid r lt lv d f) =
        let i = then_same us mid rest qs (level-same (suc m) us mid z d) (tail-same m _ mid t rest f) in
        record { statements = i.statements; blocks = i.blocks; parens = i.parens }

  mutual
    statement-same : (ts rest : List Token) (s : Statement) → IsStatement ts s rest → (n : ℕ) → out n (ts ++ qs) ≡ out n (rest ++ qs)
    statement-same ts rest s (a_let l us r t d) n = (level-same 0 us (Sign Semicolon ∷ rest) t d).blocks n
    statement-same ts rest s (an_assignment l us r t d) n = (level-same 0 us (Sign Semicolon ∷ rest) t d).blocks n
    statement-same ts rest s (an_output j us r t d) n = (level-same 0 us (Sign Semicolon ∷ rest) t d).blocks n
    statement-same ts rest s (an_if us vs r t first d a) n =
        (level-same 0 us (Sign OpenBrace ∷ vs) t d).blocks n ∙ block-same vs (Sign CloseBrace ∷ rest) first a (suc n)
    statement-same ts rest s (an_if_else us vs ws r t first second d a c) n =
        (level-same 0 us (Sign OpenBrace ∷ vs) t d).blocks n
        ∙ block-same vs (Sign CloseBrace ∷ Keyword Else ∷ Sign OpenBrace ∷ ws) first a (suc n)
        ∙ block-same ws (Sign CloseBrace ∷ rest) second c (suc n)
    statement-same ts rest s (a_repeat k us r body a) n = block-same us (Sign CloseBrace ∷ rest) body a (suc n)

    -- a block's tokens end no block that is open before them, whatever follows
    pub block-same : (ts rest : List Token) (b : Block) → IsBlock ts b rest → (n : ℕ) → out n (ts ++ qs) ≡ out n (rest ++ qs)
    block-same ts rest b (no_statement r) n = refl
    block-same ts rest b (a_statement us mid r s x d a) n = statement-same ts mid s d n ∙ block-same mid rest x a n
