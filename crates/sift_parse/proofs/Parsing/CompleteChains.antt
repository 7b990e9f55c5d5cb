-- What is in a chain of the grammar is read, from some number of calls on.
use Rattle.std.proofs.Common.{◌≡◌, ℕ, zero, suc, ◌+◌, ◌<◌, ◌≤◌, true, false, ◌==◌, cond, List, [], ◌∷◌, refl, ap, ◌∙◌, arith}
use Rattle.std.proofs.lemmas.Bool.Decides.{nat_tests}
use Rattle.sift_lang.specs.declared.tree.Op.{Op}
use Rattle.sift_lang.specs.Tree.{Term, binary}
use Rattle.sift_parse.specs.declared.token.Sign as signs
use Rattle.sift_parse.specs.declared.token.Sign.TheVariants.{Assign, OpenParen, CloseParen, OpenBrace, CloseBrace, Comma, Dot, Semicolon}
use Rattle.sift_parse.specs.declared.token.Token.{Token}
use Rattle.sift_parse.specs.declared.token.Token.TheVariants.{Operator, Sign}
use Rattle.sift_parse.specs.Grammar.{level_of, prim_level, IsTail, no_more, compared, more}
use Rattle.sift_parse.specs.Reading.{Outcome, found, and_then, read_sign, closed_by, prim_by, go_on, read, tail}

-- the reader reads this, from some number of calls on
pub record Read (A : Type 0) (R : ℕ → List Token → Outcome A) (ts : List Token) (a : A) (rest : List Token) : Type 0 where
  pub least : ℕ
  pub from : (fuel : ℕ) → least ≤ fuel → R fuel ts ≡ found a rest

-- ---- readers one after another

-- two readers in turn read what the second reads behind what the first has read
pub read-then : (A B : Type 0) (R : ℕ → List Token → Outcome A) (S : ℕ → A → List Token → Outcome B) (ts mid rest : List Token) (a : A) (b : B)
    → Read A R ts a mid → Read B (λ fuel. S fuel a) mid b rest → Read B (λ fuel ts. and_then (R fuel ts) (S fuel)) ts b rest
read-then A B R S ts mid rest a b r s =
    record {
      least = r.least + s.least;
      from = λ fuel le. ap (λ o. and_then o (S fuel)) (r.from fuel (omega arith))
          ∙ s.from fuel (omega arith);
    }

-- where a reader reads a, the reader that makes something of each result reads what it makes of a
pub read-mapped : (A B : Type 0) (R : ℕ → List Token → Outcome A) (f : A → B) (ts rest : List Token) (a : A) → Read A R ts a rest
    → Read B (λ fuel ts. and_then (R fuel ts) (λ a rest. found (f a) rest)) ts (f a) rest
read-mapped A B R f ts rest a r = record { least = r.least; from = λ fuel le. ap (λ o. and_then o (λ a rest. found (f a) rest)) (r.from fuel le) }

read_sign-here : (s : signs.Sign) (rest : List Token) → read_sign s (Sign s ∷ rest) ≡ found tt rest
read_sign-here Assign rest = refl
read_sign-here OpenParen rest = refl
read_sign-here CloseParen rest = refl
read_sign-here OpenBrace rest = refl
read_sign-here CloseBrace rest = refl
read_sign-here Comma rest = refl
read_sign-here Dot rest = refl
read_sign-here Semicolon rest = refl

-- what a reader reads up to a sign is read as what that sign closes, and the sign is taken with it
pub read-closed : (A : Type 0) (s : signs.Sign) (R : ℕ → List Token → Outcome A) (ts rest : List Token) (a : A)
    → Read A R ts a (Sign s ∷ rest) → Read A (λ fuel. closed_by s (R fuel)) ts a rest
read-closed A s R ts rest a r =
    record {
      least = r.least;
      from = λ fuel le. ap (λ o. and_then o (λ a us. and_then (read_sign s us) (λ _ vs. found a vs))) (r.from fuel le)
          ∙ ap (λ o. and_then o (λ _ vs. found a vs)) (read_sign-here s rest);
    }

-- ---- chains

-- the first token does not go on with an expression of level n
abbrev pub Stops : ℕ → List Token → Type 0
Stops n (Operator op ∷ ts) = level_of op < n
Stops n _ = Unit {0}

-- what does not go on with an expression of level n does not go on with one of level n + 1
pub Stops-suc : (n : ℕ) (ts : List Token) → Stops n ts → Stops (suc n) ts
Stops-suc n [] s = tt
Stops-suc n (Operator op ∷ ts) s = omega arith
Stops-suc n (_ ∷ ts) s = tt

-- the tokens that a tail begins with stop its operand
pub tail-stops : (n : ℕ) (x t : Term) (ts rest : List Token) → IsTail n x ts t rest → Stops n rest → Stops (suc n) ts
tail-stops n x t ts rest (no_more m y r) s = Stops-suc m r s
tail-stops n x t ts rest (compared op y z us r at l) s = omega arith
tail-stops n x t ts rest (more m op y z w us mid r lt at l q) s = omega arith

test-same : (a b : ℕ) → a ≡ b → (a == b) ≡ true
test-same a b e = grind (arith, nat_tests)

test-less : (a b : ℕ) → a < b → (a == b) ≡ false
test-less a b e = grind (arith, nat_tests)

-- behind an operator of a level above 0 and its operand, reading goes on
pub go_on-more : (n : ℕ) (go : Term → List Token → Outcome Term) (x : Term) (ts : List Token) → 0 < n → go_on n go x ts ≡ go x ts
go_on-more zero go x ts lt = absurd (omega arith)
go_on-more (suc n) go x ts lt = refl

-- an expression of a prim's level is read as a prim, with one call fewer
pub read-prim : (fuel : ℕ) (ts : List Token) (o : Outcome Term) → 1 ≤ fuel
    → ((f : ℕ) → fuel ≡ suc f → prim_by (read f prim_level) (read f 0) ts ≡ o) → read fuel prim_level ts ≡ o
unfolding read tail
read-prim zero ts o le h = absurd (omega arith)
read-prim (suc f) ts o le h = h f refl

-- an expression below a prim's level is read as an operand of the next level and its tail, with one call fewer
pub read-chain : (fuel n : ℕ) (ts : List Token) (o : Outcome Term) → n < prim_level → 1 ≤ fuel
    → ((f : ℕ) → fuel ≡ suc f → and_then (read f (suc n) ts) (tail f n) ≡ o) → read fuel n ts ≡ o
unfolding read tail
read-chain zero n ts o lt le h = absurd (omega arith)
read-chain (suc f) n ts o lt le h =
    ap (λ b. cond b (prim_by (read f prim_level) (read f 0) ts) (and_then (read f (suc n) ts) (tail f n))) (test-less n prim_level lt)
    ∙ h f refl

-- where no operator of level n or above follows x, x is all that is read, whatever the number of calls
pub tail-stop : (n : ℕ) (x : Term) (ts : List Token) → Stops n ts → (fuel : ℕ) → tail fuel n x ts ≡ found x ts
unfolding read tail
tail-stop n x ts s zero = refl
tail-stop n x [] s (suc f) = refl
tail-stop n x (Operator op ∷ ts) s (suc f) =
    ap (λ b. cond b (and_then (read f (suc n) ts) (λ y rest. go_on n (tail f n) (binary op x y) rest)) (found x (Operator op ∷ ts)))
    (test-less (level_of op) n s)
tail-stop n x (_ ∷ ts) s (suc f) = refl

-- where an operator of level n follows x, its operand is read with one call fewer, and then reading goes on
pub tail-more : (fuel n : ℕ) (op : Op) (x : Term) (ts : List Token) (o : Outcome Term) → level_of op ≡ n → 1 ≤ fuel
    → ((f : ℕ) → fuel ≡ suc f → and_then (read f (suc n) ts) (λ y rest. go_on n (tail f n) (binary op x y) rest) ≡ o)
    → tail fuel n x (Operator op ∷ ts) ≡ o
unfolding read tail
tail-more zero n op x ts o at le h = absurd (omega arith)
tail-more (suc f) n op x ts o at le h =
    ap (λ b. cond b (and_then (read f (suc n) ts) (λ y rest. go_on n (tail f n) (binary op x y) rest)) (found x (Operator op ∷ ts)))
    (test-same (level_of op) n at) ∙ h f refl
