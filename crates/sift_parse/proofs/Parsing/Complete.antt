-- What is in the grammar is read, from some number of calls on.
use Rattle.std.proofs.Common.{ℕ, suc, ◌+◌, List, ◌∷◌, refl, ap, ◌∙◌, arith}
use Rattle.sift_lang.specs.Tree.{Term, minus, binary, middle}
use Rattle.sift_parse.specs.declared.token.Sign.TheVariants.{CloseParen, Comma}
use Rattle.sift_parse.specs.declared.token.Token.{Token}
use Rattle.sift_parse.specs.declared.token.Token.TheVariants.{Sign}
use Rattle.sift_parse.specs.Grammar.{prim_level, IsPrim, a_number, a_minus, in_parens, a_local, a_middle, a_sensor, of_this_frame, of_last_frame, IsLevel, a_prim, a_chain, IsTail, no_more, compared, more}
use Rattle.sift_parse.specs.Reading.{found, and_then, closed_by, prim_by, go_on, read, tail}
use Rattle.sift_parse.proofs.Parsing.CompleteChains.{Read, read-then, read-mapped, read-closed, Stops, Stops-suc, tail-stops, go_on-more, read-prim, read-chain, tail-stop, tail-more}

-- ---- expressions

lifted : (ts rest : List Token) (t : Term) → Read Term (λ fuel. prim_by (read fuel prim_level) (read fuel 0)) ts t rest
    → Read Term (λ fuel. read fuel prim_level) ts t rest
lifted ts rest t r = record { least = suc r.least; from = λ fuel le. read-prim fuel ts (found t rest) (omega arith) (λ f is. r.from f (omega arith)) }

mutual
  prim_read : (ts rest : List Token) (t : Term) → IsPrim ts t rest
      → Read Term (λ fuel. prim_by (read fuel prim_level) (read fuel 0)) ts t rest
  prim_read ts rest t (a_number n r) = record { least = 0; from = λ fuel le. refl }
  prim_read ts rest t (a_local l r) = record { least = 0; from = λ fuel le. refl }
  prim_read ts rest t (a_sensor x r) = record { least = 0; from = λ fuel le. refl }
  prim_read ts rest t (of_this_frame k w r) = record { least = 0; from = λ fuel le. refl }
  prim_read ts rest t (of_last_frame k w r) = record { least = 0; from = λ fuel le. refl }
  prim_read ts rest t (a_minus us r x p) =
      let i = read-mapped Term Term (λ fuel. read fuel prim_level) minus us r x (lifted us r x (prim_read us r x p)) in
      record { least = i.least; from = i.from }
  prim_read ts rest t (in_parens us r x l) =
      let i = read-closed Term CloseParen (λ fuel. read fuel 0) us r x (level_read 0 us (Sign CloseParen ∷ r) x l tt) in
      record { least = i.least; from = i.from }
  prim_read ts rest t (a_middle us vs ws r x y z a b c) =
      let i = read-closed Term Comma (λ fuel. read fuel 0) us vs x (level_read 0 us (Sign Comma ∷ vs) x a tt) in
      let j = read-closed Term Comma (λ fuel. read fuel 0) vs ws y (level_read 0 vs (Sign Comma ∷ ws) y b tt) in
      let k = read-closed Term CloseParen (λ fuel. read fuel 0) ws r z (level_read 0 ws (Sign CloseParen ∷ r) z c tt) in
      let m = read-mapped Term Term (λ fuel. closed_by CloseParen (read fuel 0)) (middle x y) ws r z k in
      let n =
      read-then Term Term (λ fuel. closed_by Comma (read fuel 0))
      (λ fuel u ws. and_then (closed_by CloseParen (read fuel 0) ws) (λ v rest. found (middle x u v) rest)) vs ws r y (middle x y z) j m in
      let o =
      read-then Term Term (λ fuel. closed_by Comma (read fuel 0))
      (λ fuel t vs. and_then (closed_by Comma (read fuel 0) vs)
      (λ u ws. and_then (closed_by CloseParen (read fuel 0) ws) (λ v rest. found (middle t u v) rest))) us vs r x (middle x y z) i n in
      record { least = o.least; from = o.from }

  -- an expression of level n is read, from some number of calls on, where no operator of level n or above follows it
  pub level_read : (n : ℕ) (ts rest : List Token) (t : Term) → IsLevel n ts t rest → Stops n rest
      → Read Term (λ fuel. read fuel n) ts t rest
  level_read n ts rest t (a_prim us r x p) s = lifted us r x (prim_read us r x p)
  level_read n ts rest t (a_chain m us mid r x y lt l q) s =
      let i = level_read (suc m) us mid x l (tail-stops m x y mid r q s) in
      let j = tail_read m x mid r y q s in
      record {
        least = suc (i.least + j.least);
        from = λ fuel le. read-chain fuel m us (found y r) lt (omega arith)
            (λ f is. ap (λ o. and_then o (tail f m)) (i.from f (omega arith)) ∙ j.from f (omega arith));
      }

  tail_read : (n : ℕ) (x : Term) (ts rest : List Token) (t : Term) → IsTail n x ts t rest → Stops n rest
      → Read Term (λ fuel. tail fuel n x) ts t rest
  tail_read n x ts rest t (no_more m y r) s = record { least = 0; from = λ fuel le. tail-stop m y r s fuel }
  tail_read n x ts rest t (compared op y z us r at l) s =
      let i = level_read 1 us r z l (Stops-suc 0 r s) in
      record {
        least = suc i.least;
        from = λ fuel le. tail-more fuel 0 op y us (found (binary op y z) r) at (omega arith)
            (λ f is. ap (λ o. and_then o (λ z rest. go_on 0 (tail f 0) (binary op y z) rest)) (i.from f (omega arith)));
      }
  tail_read n x ts rest t (more m op y z w us mid r lt at l q) s =
      let i = level_read (suc m) us mid z l (tail-stops m (binary op y z) w mid r q s) in
      let j = tail_read m (binary op y z) mid r w q s in
      record {
        least = suc (i.least + j.least);
        from = λ fuel le. tail-more fuel m op y us (found w r) at (omega arith)
            (λ f is. ap (λ o. and_then o (λ v rest. go_on m (tail f m) (binary op y v) rest)) (i.from f (omega arith))
            ∙ (go_on-more m (tail f m) (binary op y z) mid lt ∙ j.from f (omega arith)));
      }
