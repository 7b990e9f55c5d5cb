-- What is read at a level is read at each lower one, and an operator with its two operands at its own.
use Rattle.std.proofs.Common.{◌≡◌, ℕ, zero, suc, ◌+◌, ◌-◌, ◌<◌, ◌≤◌, List, ◌∷◌, refl, sym, subst, arith}
use Rattle.sift_lang.specs.declared.tree.Op.{Op}
use Rattle.sift_lang.specs.declared.tree.Op.TheVariants.{Add, Sub, Mul, Div, Rem, And, Or, Xor, Shl, Shr, Lt, Eq}
use Rattle.sift_lang.specs.Tree.{Term, binary}
use Rattle.sift_parse.specs.declared.token.Token.{Token}
use Rattle.sift_parse.specs.declared.token.Token.TheVariants.{Operator}
use Rattle.sift_parse.specs.Grammar.{level_of, IsPrim, IsLevel, a_prim, a_chain, IsTail, no_more, compared, more}
use Rattle.sift_parse.specs.Printing.{left_level}

-- the same by how many levels lie between
lift : (k n m : ℕ) (ts rest : List Token) (t : Term) → n + k ≡ m → m ≤ 5 → IsLevel m ts t rest → IsLevel n ts t rest
lift zero n m ts rest t e few d = let same : m ≡ n = omega arith in subst (λ n. IsLevel n ts t rest) same d
lift (suc k) n m ts rest t e few d =
    a_chain n ts rest rest t t (omega arith) (lift k (suc n) m ts rest t (omega arith) few d) (no_more n t rest)

-- what is read at a level is read at each lower one
pub lower : (n m : ℕ) (ts rest : List Token) (t : Term) → n ≤ m → m ≤ 5 → IsLevel m ts t rest → IsLevel n ts t rest
lower n m ts rest t le few d = lift (m - n) n m ts rest t (omega arith) few d

-- at the highest level there is a prim alone
pub prim-of : (m : ℕ) (ts rest : List Token) (t : Term) → m ≡ 5 → IsLevel m ts t rest → IsPrim ts t rest
prim-of m ts rest t e (a_prim us vs x d) = d
prim-of m ts rest t e (a_chain n us mid vs x y lt d q) = absurd (omega arith)

-- one more operator of the level, and its operand, at the end of a tail
tail-more : (n : ℕ) (op : Op) (x t u : Term) (ts mid us rest : List Token) → IsTail n x ts t mid → mid ≡ Operator op ∷ us → 0 < n
    → level_of op ≡ n → IsLevel (suc n) us u rest → IsTail n x ts (binary op t u) rest
tail-more n op x t u ts mid us rest (no_more m y vs) e some at d =
    subst (λ ts. IsTail m y ts (binary op y u) rest) (sym e) (more m op y u (binary op y u) us rest rest some at d (no_more m (binary op y u) rest))
tail-more n op x t u ts mid us rest (compared oq y z vs ws at0 d0) e some at d = absurd (omega arith)
tail-more n op x t u ts mid us rest (more m oq y z w vs mid0 ws lt at0 d0 q) e some at d =
    more m oq y z (binary op w u) vs mid0 rest lt at0 d0 (tail-more m op (binary oq y z) w u mid0 ws us rest q e some at d)

-- the same at the end of what is read at the level
level-more : (n : ℕ) (op : Op) (t u : Term) (ts mid us rest : List Token) → IsLevel n ts t mid → mid ≡ Operator op ∷ us → 0 < n → n < 5
    → level_of op ≡ n → IsLevel (suc n) us u rest → IsLevel n ts (binary op t u) rest
level-more n op t u ts mid us rest (a_prim vs ws x d0) e some lt at d = absurd (omega arith)
level-more n op t u ts mid us rest (a_chain m vs mid0 ws x y lt0 d0 q) e some lt at d =
    a_chain m vs mid0 rest x (binary op y u) lt0 d0 (tail-more m op x y u mid0 ws us rest q e some at d)

-- each operator binds less than a prim
pub op-level : (op : Op) → level_of op < 5
op-level Add = omega arith
op-level Sub = omega arith
op-level Mul = omega arith
op-level Div = omega arith
op-level Rem = omega arith
op-level And = omega arith
op-level Or = omega arith
op-level Xor = omega arith
op-level Shl = omega arith
op-level Shr = omega arith
op-level Lt = omega arith
op-level Eq = omega arith

-- an operator with its two operands is read at its level
pub two-operands : (n : ℕ) (op : Op) (t u : Term) (ts us rest : List Token) → level_of op ≡ n → n < 5
    → IsLevel (left_level n) ts t (Operator op ∷ us) → IsLevel (suc n) us u rest → IsLevel n ts (binary op t u) rest
two-operands zero op t u ts us rest at lt x y =
    a_chain 0 ts (Operator op ∷ us) rest t (binary op t u) (omega arith) x (compared op t u us rest at y)
two-operands (suc k) op t u ts us rest at lt x y = level-more (suc k) op t u ts (Operator op ∷ us) us rest x refl (omega arith) lt at y
