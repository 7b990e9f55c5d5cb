-- The tokens of a task, and those that begin one, are tidy.
use Rattle.std.proofs.Common.{◌≡◌, ℕ, suc, Bool, true, false, List, [], ◌∷◌, ◌++◌, refl, sym, subst}
use Rattle.sift_lang.specs.Tree.{Term, Statement, Block}
use Rattle.sift_parse.specs.declared.token.Keyword.TheVariants.{Else}
use Rattle.sift_parse.specs.declared.token.Sign.TheVariants.{Assign, CloseParen, OpenBrace, CloseBrace, Comma, Semicolon}
use Rattle.sift_parse.specs.declared.token.Token.{Token}
use Rattle.sift_parse.specs.declared.token.Token.TheVariants.{Keyword, Sign}
use Rattle.sift_parse.specs.Grammar.{IsPrim, a_number, a_minus, in_parens, a_local, a_middle, a_sensor as sensor_prim, of_this_frame, of_last_frame, IsLevel, a_prim, a_chain, IsTail, no_more, compared, more, IsExpr, IsStatement, a_let, an_assignment, an_output, an_if, an_if_else, a_repeat, IsBlock, no_statement, a_statement, Begins}
use Rattle.sift_parse.proofs.Places.Tidy.{Open, State, bare, start, done, next, OnlyBraces, Tidy, brace, paren, minus}

pub tidy-front : (s : State) (xs ys : List Token) → Tidy s (xs ++ ys) → Tidy s xs
tidy-front s [] ys h = tt
tidy-front s (x ∷ xs) ys h = (h.0, tidy-front (next s x) xs ys h.1)

bare-twice : (ls : List Open) → bare (bare ls) ≡ bare ls
bare-twice [] = refl
bare-twice (brace ∷ ls) = refl
bare-twice (paren ∷ ls) = refl
bare-twice (minus ∷ ls) = bare-twice ls

module _ (b : Bool) where
  mutual
    prim-tidy : (ts rest : List Token) (t : Term) → IsPrim ts t rest → (L : List Open) → Tidy (done (bare L) b) rest → Tidy (start L b) ts
    prim-tidy ts rest t (a_number n r) L k = (tt, k)
    prim-tidy ts rest t (a_local l r) L k = (tt, k)
    prim-tidy ts rest t (sensor_prim x r) L k = (tt, (tt, k))
    prim-tidy ts rest t (of_this_frame task w r) L k = (tt, (tt, (tt, (tt, k))))
    prim-tidy ts rest t (of_last_frame task w r) L k = (tt, (tt, (tt, (tt, k))))
    prim-tidy ts rest t (a_minus us r u d) L k = (tt, prim-tidy us rest u d (minus ∷ L) k)
    prim-tidy ts rest t (in_parens us r u d) L k = (tt, level-tidy 0 us (Sign CloseParen ∷ rest) u d (paren ∷ L) (tt, k))
    prim-tidy ts rest t (a_middle us vs ws r u v w d e f) L k =
        let third = level-tidy 0 ws (Sign CloseParen ∷ rest) w f (paren ∷ L) (tt, k) in
        let second = level-tidy 0 vs (Sign Comma ∷ ws) v e (paren ∷ L) (tt, third) in
        (tt, (tt, level-tidy 0 us (Sign Comma ∷ vs) u d (paren ∷ L) (tt, second)))

    level-tidy : (n : ℕ) (ts rest : List Token) (t : Term) → IsLevel n ts t rest → (L : List Open) → Tidy (done (bare L) b) rest
        → Tidy (start L b) ts
    level-tidy n ts rest t (a_prim us r u d) L k = prim-tidy ts rest t d L k
    level-tidy n ts rest t (a_chain m us mid r x u lt d e) L k = level-tidy (suc n) ts mid x d L (tail-tidy n x mid t rest e (bare L) (bare-twice L) k)

    tail-tidy : (n : ℕ) (x : Term) (ts : List Token) (t : Term) (rest : List Token) → IsTail n x ts t rest → (L : List Open) → bare L ≡ L
        → Tidy (done L b) rest → Tidy (done L b) ts
    tail-tidy n x ts t rest (no_more m y r) L e k = k
    tail-tidy n x ts t rest (compared op y z us r lv d) L e k = (tt, level-tidy 1 us rest z d L (subst (λ l. Tidy (done l b) rest) (sym e) k))
    tail-tidy n x ts t rest (more m op y z u us mid r lt lv d f) L e k =
        (tt, level-tidy (suc n) us mid z d L (subst (λ l. Tidy (done l b) mid) (sym e) (tail-tidy n _ mid t rest f L e k)))

pub braces-bare : (ls : List Open) → OnlyBraces ls → bare ls ≡ ls
braces-bare [] h = refl
braces-bare (brace ∷ ls) h = refl
braces-bare (paren ∷ ls) h = absurd h
braces-bare (minus ∷ ls) h = absurd h

expr-tidy : (b : Bool) (ts rest : List Token) (t : Term) → IsExpr ts t rest → (L : List Open) → OnlyBraces L → Tidy (done L b) rest
    → Tidy (start L b) ts
expr-tidy b ts rest t d L e k = level-tidy b 0 ts rest t d L (subst (λ l. Tidy (done l b) rest) (sym (braces-bare L e)) k)

mutual
  statement-tidy : (ts rest : List Token) (s : Statement) → IsStatement ts s rest → (L : List Open) → OnlyBraces L
      → Tidy (start L false) rest → Tidy (start L false) ts
  statement-tidy ts rest s (a_let l us r t d) L e k = (refl, ((refl, e), (tt, expr-tidy true us (Sign Semicolon ∷ rest) t d L e (tt, k))))
  statement-tidy ts rest s (an_assignment l us r t d) L e k =
      let h : Tidy (done L false) (Sign Assign ∷ us) = (tt, expr-tidy false us (Sign Semicolon ∷ rest) t d L e (tt, k)) in
      (tt, subst (λ m. Tidy (done m false) (Sign Assign ∷ us)) (sym (braces-bare L e)) h)
  statement-tidy ts rest s (an_output j us r t d) L e k =
      let h : Tidy (done L false) (Sign Assign ∷ us) = (tt, expr-tidy false us (Sign Semicolon ∷ rest) t d L e (tt, k)) in
      (tt, (tt, subst (λ m. Tidy (done m false) (Sign Assign ∷ us)) (sym (braces-bare L e)) h))
  statement-tidy ts rest s (an_if us vs r t first d a) L e k =
      (tt, expr-tidy false us (Sign OpenBrace ∷ vs) t d L e ((refl, e), block-tidy vs (Sign CloseBrace ∷ rest) first a (brace ∷ L) e ((refl, tt), k)))
  statement-tidy ts rest s (an_if_else us vs ws r t first second d a c) L e k =
      let two = block-tidy ws (Sign CloseBrace ∷ rest) second c (brace ∷ L) e ((refl, tt), k) in (
        tt,
        expr-tidy false us (Sign OpenBrace ∷ vs) t d L e (
          (refl, e),
          block-tidy vs (Sign CloseBrace ∷ Keyword Else ∷ Sign OpenBrace ∷ ws) first a (brace ∷ L) e
              ((refl, tt), (tt, ((refl, e), two))),
        ),
      )
  statement-tidy ts rest s (a_repeat n us r body a) L e k =
      let h : Tidy (done L false) (Sign OpenBrace ∷ us) = ((refl, e), block-tidy us (Sign CloseBrace ∷ rest) body a (brace ∷ L) e ((refl, tt), k)) in
      (tt, (tt, subst (λ m. Tidy (done m false) (Sign OpenBrace ∷ us)) (sym (braces-bare L e)) h))

  block-tidy : (ts rest : List Token) (body : Block) → IsBlock ts body rest → (L : List Open) → OnlyBraces L → Tidy (start L false) rest
      → Tidy (start L false) ts
  block-tidy ts rest body (no_statement r) L e k = k
  block-tidy ts rest body (a_statement us mid r s x d a) L e k = statement-tidy ts mid s d L e (block-tidy mid rest x a L e k)

-- the tokens of the front of a task may each stand where they do
pub begins-tidy : (ts : List Token) → Begins ts → Tidy (start [] false) ts
begins-tidy ts b = tidy-front (start [] false) ts b.back (block-tidy (ts ++ b.back) [] b.body b.whole [] tt tt)
