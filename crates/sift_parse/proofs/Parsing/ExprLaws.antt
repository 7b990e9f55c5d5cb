-- The readers of expressions are lawful for the grammar.
use Rattle.std.proofs.Common.{◌≡◌, ℕ, zero, suc, ◌+◌, ◌-◌, ◌<◌, ◌≤◌, Bool, true, false, ◌==◌, cond, List, [], ◌∷◌, refl, sym, subst, arith}
use Rattle.std.proofs.lemmas.Bool.Decides.{nat_tests}
use Rattle.sift_lang.specs.declared.tree.Op.{Op}
use Rattle.sift_lang.specs.Tree.{Term, number, binary}
use Rattle.sift_parse.specs.declared.token.Token.{Token}
use Rattle.sift_parse.specs.declared.token.Token.TheVariants.{Number, Operator}
use Rattle.sift_parse.specs.Grammar.{level_of, prim_level, IsPrim, a_number, IsLevel, a_prim, a_chain, IsTail, no_more, compared, more}
use Rattle.sift_parse.specs.Reading.{Outcome, found, and_then, prim_by, go_on, tail_by, read, tail}
use Rattle.sift_parse.proofs.Parsing.Laws.{Goes, Lawful, nowhere, done, default-found}
use Rattle.sift_parse.proofs.Parsing.Steps.{Then, in_turn, then_lawful, widened}
use Rattle.sift_parse.proofs.Parsing.Looks.{Picks, takes, leaves, choice}
use Rattle.sift_parse.proofs.Parsing.PrimLaws.{prim_lawful}

-- ---- chains

-- what may follow an operator of level n and its operand: nothing of level 0, and else a tail
data Rest : ℕ → Term → List Token → Term → List Token → Type 0 where
  none_left : (x : Term) (rest : List Token) → Rest 0 x rest x rest
  some_left : (n : ℕ) (x t : Term) (ts rest : List Token) → IsTail (suc n) x ts t rest → Rest (suc n) x ts t rest

-- what is read behind an operand is lawful for the rest, where the reader of tails is
go_on_lawful : (n : ℕ) (go : Term → List Token → Outcome Term) → ((x : Term) → Lawful Term (IsTail n x) (go x)) → (x : Term)
    → Lawful Term (Rest n x) (go_on n go x)
go_on_lawful zero go g x = done Term (Rest zero x) x (none_left x)
go_on_lawful (suc n) go g x = widened Term (IsTail (suc n) x) (Rest (suc n) x) (go x) (λ ts rest t d. some_left n x t ts rest d) (g x)

-- an operator of the level, an operand and the rest are a tail
joined_rule : (n : ℕ) (op : Op) (x : Term) → level_of op ≡ n → (ts rest : List Token) (t : Term)
    → Then Term Term (IsLevel (suc n)) (λ y. Rest n (binary op x y)) ts t rest → IsTail n x (Operator op ∷ ts) t rest
joined_rule n op x at ts rest t (in_turn us mid vs y b d (none_left z ws)) = compared op x y us ws at d
joined_rule n op x at ts rest t (in_turn us mid vs y b d (some_left m z w us2 vs2 e)) = more (suc m) op x y w us us2 vs2 (omega arith) at d e

-- an operator is taken at its level, and left at each other
operator_pick : (n : ℕ) (operand : List Token → Outcome Term) (go : Term → List Token → Outcome Term) (x : Term) (op : Op) (b : Bool)
    → (level_of op == n) ≡ b → Lawful Term (IsLevel (suc n)) operand → ((x : Term) → Lawful Term (IsTail n x) (go x))
    → Picks Term (IsTail n x) (λ ts. found x ts) (Operator op)
    (λ ts. cond b (and_then (operand ts) (λ y rest. go_on n go (binary op x y) rest)) (found x (Operator op ∷ ts)))
operator_pick n operand go x op true is o g =
    takes (widened Term (Then Term Term (IsLevel (suc n)) (λ y. Rest n (binary op x y))) (λ ts t rest. IsTail n x (Operator op ∷ ts) t rest)
    (λ ts. and_then (operand ts) (λ y rest. go_on n go (binary op x y) rest)) (joined_rule n op x (grind (arith, nat_tests)))
    (then_lawful Term Term (IsLevel (suc n)) (λ y. Rest n (binary op x y)) operand (λ y rest. go_on n go (binary op x y) rest) o
    (λ y. go_on_lawful n go g (binary op x y))))
operator_pick n operand go x op false is o g = leaves (λ ts. refl)

-- a tail begins with an operator of its level, and any other token is left
tail_picks : (n : ℕ) (operand : List Token → Outcome Term) (go : Term → List Token → Outcome Term) → Lawful Term (IsLevel (suc n)) operand
    → ((x : Term) → Lawful Term (IsTail n x) (go x)) → (x : Term) (t : Token)
    → Picks Term (IsTail n x) (λ ts. found x ts) t (λ ts. tail_by n operand go x (t ∷ ts))
tail_picks n operand go o g x (Operator op) = operator_pick n operand go x op (level_of op == n) refl o g
tail_picks n operand go o g x t = leaves (λ ts. refl)

-- the reader of tails is lawful, where those of operands and of what follows are
tail_by-lawful : (n : ℕ) (operand : List Token → Outcome Term) (go : Term → List Token → Outcome Term)
    → Lawful Term (IsLevel (suc n)) operand → ((x : Term) → Lawful Term (IsTail n x) (go x)) → (x : Term)
    → Lawful Term (IsTail n x) (tail_by n operand go x)
tail_by-lawful n operand go o g x =
    choice Term (IsTail n x) (λ ts. found x ts) (tail_by n operand go x) (default-found Term (IsTail n x) x (no_more n x)) refl
    (tail_picks n operand go o g x)

-- ---- levels

-- a prim is an expression of each level
any_level : (n : ℕ) (ts : List Token) (x : Term) (mid : List Token) → n ≤ prim_level → IsPrim ts x mid → (k : ℕ) → n + k ≡ prim_level
    → IsLevel n ts x mid
any_level n ts x mid le p zero e = let same : n ≡ prim_level = omega arith in subst (λ m. IsLevel m ts x mid) (sym same) (a_prim ts mid x p)
any_level n ts x mid le p (suc k) e = a_chain n ts mid mid x x (omega arith) (any_level (suc n) ts x mid (omega arith) p k (omega arith)) (no_more n x mid)

-- each level has an expression, so what is open can be closed: the number 0
level-fills : (n : ℕ) → n ≤ prim_level → Goes Term (IsLevel n) []
level-fills n le =
    record {
      back = Number 0 ∷ [];
      made = number 0;
      rest = λ r. any_level n (Number 0 ∷ r) (number 0) r le (a_number 0 r) (prim_level - n) (omega arith);
    }

-- an expression of the highest level is a prim
prim_of : (n : ℕ) (ts rest : List Token) (t : Term) → n ≡ prim_level → IsLevel n ts t rest → IsPrim ts t rest
prim_of n ts rest t is (a_prim us vs u p) = p
prim_of n ts rest t is (a_chain m us mid vs x u lt l q) = absurd (omega arith)

-- an operand of the next level and a tail are an expression of a lower level
chain_rule : (n : ℕ) → n < prim_level → (ts rest : List Token) (t : Term) → Then Term Term (IsLevel (suc n)) (IsTail n) ts t rest
    → IsLevel n ts t rest
chain_rule n lt ts rest t (in_turn us mid vs x u d e) = a_chain n us mid vs x u lt d e

-- the reader of a level is lawful, where those of the next level and of tails are: a prim at the highest, else a chain
chosen_lawful : (fuel n : ℕ) (b : Bool) → (n == prim_level) ≡ b → n ≤ prim_level
    → ((n : ℕ) → n ≤ prim_level → Lawful Term (IsLevel n) (read fuel n))
    → ((n : ℕ) (x : Term) → n < prim_level → Lawful Term (IsTail n x) (tail fuel n x))
    → Lawful Term (IsLevel n) (λ ts. cond b (prim_by (read fuel prim_level) (read fuel 0) ts) (and_then (read fuel (suc n) ts) (tail fuel n)))
chosen_lawful fuel n true is le l t =
    let same : n ≡ prim_level = grind (arith, nat_tests) in
    subst (λ m. Lawful Term (IsLevel m) (prim_by (read fuel prim_level) (read fuel 0))) (sym same)
    (widened Term IsPrim (IsLevel prim_level) (prim_by (read fuel prim_level) (read fuel 0)) a_prim
    (prim_lawful (read fuel prim_level) (read fuel 0)
    (widened Term (IsLevel prim_level) IsPrim (read fuel prim_level) (λ ts rest t d. prim_of prim_level ts rest t refl d)
    (l prim_level (omega arith))) (l 0 (omega arith))))
chosen_lawful fuel n false is le l t =
    let lt : n < prim_level = grind (arith, nat_tests) in
    widened Term (Then Term Term (IsLevel (suc n)) (IsTail n)) (IsLevel n) (λ ts. and_then (read fuel (suc n) ts) (tail fuel n))
    (chain_rule n lt) (then_lawful Term Term (IsLevel (suc n)) (IsTail n) (read fuel (suc n)) (tail fuel n) (l (suc n) (omega arith))
    (λ x. t n x lt))

mutual
  unfolding read tail

  -- an expression of each level
  pub level_lawful : (fuel n : ℕ) → n ≤ prim_level → Lawful Term (IsLevel n) (read fuel n)
  level_lawful zero n le = nowhere Term (IsLevel n) (level-fills n le)
  level_lawful (suc fuel) n le = chosen_lawful fuel n (n == prim_level) refl le (level_lawful fuel) (tail_lawful fuel)

  pub tail_lawful : (fuel n : ℕ) (x : Term) → n < prim_level → Lawful Term (IsTail n x) (tail fuel n x)
  tail_lawful zero n x lt = done Term (IsTail n x) x (no_more n x)
  tail_lawful (suc fuel) n x lt = tail_by-lawful n (read fuel (suc n)) (tail fuel n) (level_lawful fuel (suc n) (omega arith)) (λ y. tail_lawful fuel n y lt) x
