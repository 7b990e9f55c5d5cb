-- By the tokens, a prim is passed where it ends, and not earlier.
use Rattle.std.proofs.Common.{◌≡◌, ℕ, zero, suc, Bool, true, false, Option, Some, None, List, [], ◌∷◌, ◌++◌, refl, ◌∙◌}
use Rattle.sift_lang.specs.Tree.{Term}
use Rattle.sift_parse.specs.declared.token.Keyword.TheVariants.{Now, Last}
use Rattle.sift_parse.specs.declared.token.Sign.TheVariants.{OpenParen, CloseParen, Comma}
use Rattle.sift_parse.specs.declared.token.Token.{Token}
use Rattle.sift_parse.specs.declared.token.Token.TheVariants.{Keyword, Name, Number, Index, Sign}
use Rattle.sift_parse.specs.Grammar.{IsPrim, a_number, a_minus, in_parens, a_local, a_middle, a_sensor, of_this_frame, of_last_frame, IsLevel, a_prim, a_chain, IsTail, no_more, compared, more}

-- ---- by the tokens

-- what follows the prim that begins here, where it is over: n parentheses are open, and a task's name is next or isn't
abbrev pub skip : ℕ → Bool → List Token → Option (List Token)
skip n k [] = None
skip n k (Sign OpenParen ∷ ts) = skip (suc n) false ts
skip zero k (Sign CloseParen ∷ ts) = Some ts
skip (suc zero) k (Sign CloseParen ∷ ts) = Some ts
skip (suc (suc n)) k (Sign CloseParen ∷ ts) = skip (suc n) false ts
skip zero true (Name x ∷ ts) = skip zero false ts
skip zero false (Name x ∷ ts) = Some ts
skip zero k (Number x ∷ ts) = Some ts
skip zero k (Index x ∷ ts) = Some ts
skip n k (Keyword Now ∷ ts) = skip n true ts
skip n k (Keyword Last ∷ ts) = skip n true ts
skip n k (t ∷ ts) = skip n false ts

mutual
  prim-deep : (ts rest : List Token) (t : Term) → IsPrim ts t rest → (n : ℕ) → skip (suc n) false ts ≡ skip (suc n) false rest
  prim-deep ts rest t (a_number x r) n = refl
  prim-deep ts rest t (a_local l r) n = refl
  prim-deep ts rest t (a_sensor x r) n = refl
  prim-deep ts rest t (of_this_frame task w r) n = refl
  prim-deep ts rest t (of_last_frame task w r) n = refl
  prim-deep ts rest t (a_minus us r u d) n = prim-deep us rest u d n
  prim-deep ts rest t (in_parens us r u d) n = level-deep 0 us (Sign CloseParen ∷ rest) u d (suc n)
  prim-deep ts rest t (a_middle us vs ws r u v w d e f) n =
      level-deep 0 us (Sign Comma ∷ vs) u d (suc n) ∙ level-deep 0 vs (Sign Comma ∷ ws) v e (suc n)
      ∙ level-deep 0 ws (Sign CloseParen ∷ rest) w f (suc n)

  level-deep : (m : ℕ) (ts rest : List Token) (t : Term) → IsLevel m ts t rest → (n : ℕ) → skip (suc n) false ts ≡ skip (suc n) false rest
  level-deep m ts rest t (a_prim us r u d) n = prim-deep ts rest t d n
  level-deep m ts rest t (a_chain k us mid r x u lt d e) n = level-deep (suc m) ts mid x d n ∙ tail-deep m x mid t rest e n

  tail-deep : (m : ℕ) (x : Term) (ts : List Token) (t : Term) (rest : List Token) → IsTail m x ts t rest → (n : ℕ)
      → skip (suc n) false ts ≡ skip (suc n) false rest
  tail-deep m x ts t rest (no_more k y r) n = refl
  tail-deep m x ts t rest (compared op y z us r lv d) n = level-deep 1 us rest z d n
  tail-deep m x ts t rest (more k op y z u us mid r lt lv d f) n = level-deep (suc m) us mid z d n ∙ tail-deep m _ mid t rest f n

-- by the tokens, the prim that begins here is over where the grammar ends it
pub prim-skip : (ts rest : List Token) (t : Term) → IsPrim ts t rest → skip 0 false ts ≡ Some rest
prim-skip ts rest t (a_number x r) = refl
prim-skip ts rest t (a_local l r) = refl
prim-skip ts rest t (a_sensor x r) = refl
prim-skip ts rest t (of_this_frame task w r) = refl
prim-skip ts rest t (of_last_frame task w r) = refl
prim-skip ts rest t (a_minus us r u d) = prim-skip us rest u d
prim-skip ts rest t (in_parens us r u d) = level-deep 0 us (Sign CloseParen ∷ rest) u d 0
prim-skip ts rest t (a_middle us vs ws r u v w d e f) =
    level-deep 0 us (Sign Comma ∷ vs) u d 0 ∙ level-deep 0 vs (Sign Comma ∷ ws) v e 0 ∙ level-deep 0 ws (Sign CloseParen ∷ rest) w f 0

-- where a prim is over, it is over with more tokens
abbrev pub grown : Option (List Token) → List Token → Option (List Token) → Type 0
grown None ys o = Unit {0}
grown (Some rest) ys o = o ≡ Some (rest ++ ys)

-- a prim that is over by the tokens is over at the same place where more tokens follow
pub skip-grows : (n : ℕ) (k : Bool) (xs ys : List Token) → grown (skip n k xs) ys (skip n k (xs ++ ys))
skip-grows n k [] ys = tt
skip-grows n k (Sign OpenParen ∷ ts) ys = skip-grows (suc n) false ts ys
skip-grows zero k (Sign CloseParen ∷ ts) ys = refl
skip-grows (suc zero) k (Sign CloseParen ∷ ts) ys = refl
skip-grows (suc (suc n)) k (Sign CloseParen ∷ ts) ys = skip-grows (suc n) false ts ys
skip-grows zero true (Name x ∷ ts) ys = skip-grows zero false ts ys
skip-grows zero false (Name x ∷ ts) ys = refl
skip-grows zero k (Number x ∷ ts) ys = refl
skip-grows zero k (Index x ∷ ts) ys = refl
skip-grows n k (Keyword Now ∷ ts) ys = skip-grows n true ts ys
skip-grows n k (Keyword Last ∷ ts) ys = skip-grows n true ts ys
skip-grows n k (t ∷ ts) ys = skip-grows n false ts ys
