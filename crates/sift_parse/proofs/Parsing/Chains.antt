-- How the readers of expressions go step by step, from some number of calls on.
use Rattle.std.proofs.Common.{◌≡◌, ℕ, zero, suc, ◌+◌, ◌-◌, ◌<◌, ◌≤◌, false, ◌==◌, cond, List, [], ◌∷◌, refl, sym, ap, ◌∙◌, subst, arith}
use Rattle.std.proofs.lemmas.Bool.Decides.{nat_tests}
use Rattle.sift_lang.specs.declared.tree.Op.{Op}
use Rattle.sift_lang.specs.Tree.{Term, binary}
use Rattle.sift_parse.specs.declared.token.Token.{Token}
use Rattle.sift_parse.specs.declared.token.Token.TheVariants.{Operator}
use Rattle.sift_parse.specs.Grammar.{level_of, prim_level}
use Rattle.sift_parse.specs.Reading.{Outcome, found, fault, and_then, prim_by, go_on, read, tail}
use Rattle.sift_parse.specs.Parsing.{Settles, HasOperator}
use Rattle.sift_parse.proofs.Parsing.CompleteChains.{read-prim, read-chain, tail-more, go_on-more}

-- reading what follows x leads to reading what follows y
pub record Leads (n : ℕ) (x : Term) (ts : List Token) (y : Term) (us : List Token) : Type 0 where
  pub more : ℕ
  pub least : ℕ
  pub from : (fuel : ℕ) → least ≤ fuel → tail (more + fuel) n x ts ≡ tail fuel n y us

-- before any operator is taken, reading what follows x leads to just that
pub leads-start : (n : ℕ) (x : Term) (ts : List Token) → Leads n x ts x ts
leads-start n x ts = record { more = 0; least = 0; from = λ fuel le. (let e : 0 + fuel ≡ fuel = omega arith in ap (λ f. tail f n x ts) e) }

-- an operator of a level above 0 and its operand
pub leads-more : (n : ℕ) (op : Op) (x y z : Term) (ts us vs : List Token) → 0 < n → level_of op ≡ n → Leads n x ts y (Operator op ∷ us)
    → Settles Term (λ fuel. read fuel (suc n)) us (found z vs) → Leads n x ts (binary op y z) vs
leads-more n op x y z ts us vs lt at l r =
    record {
      more = l.more + 1;
      least = l.least + r.least;
      from = λ fuel le. (let e : l.more + 1 + fuel ≡ l.more + suc fuel = omega arith in ap (λ f. tail f n x ts) e
          ∙ (l.from (suc fuel) (omega arith)
          ∙ tail-more (suc fuel) n op y us _ at (omega arith)
          (λ f is. (let same : f ≡ fuel = omega arith in
          subst (λ f. and_then (read f (suc n) us) (λ w rest. go_on n (tail f n) (binary op y w) rest) ≡ tail fuel n (binary op y z) vs) (sym same)
          (ap (λ o. and_then o (λ w rest. go_on n (tail fuel n) (binary op y w) rest)) (r.from fuel (omega arith))
          ∙ go_on-more n (tail fuel n) (binary op y z) vs lt)))));
    }

-- an operator and what its operand leads to
leads-to : (n : ℕ) (op : Op) (x y : Term) (ts us : List Token) (o p : Outcome Term) → level_of op ≡ n → Leads n x ts y (Operator op ∷ us)
    → Settles Term (λ fuel. read fuel (suc n)) us o → ((fuel : ℕ) → and_then o (λ w rest. go_on n (tail fuel n) (binary op y w) rest) ≡ p)
    → Settles Term (λ fuel. tail fuel n x) ts p
leads-to n op x y ts us o p at l r ends =
    record {
      least = l.more + (l.least + (r.least + 1));
      from = λ fuel le. (let e : fuel ≡ l.more + (fuel - l.more) = omega arith in ap (λ f. tail f n x ts) e
          ∙ (l.from (fuel - l.more) (omega arith)
          ∙ tail-more (fuel - l.more) n op y us p at (omega arith)
          (λ f is. ap (λ o. and_then o (λ w rest. go_on n (tail f n) (binary op y w) rest)) (r.from f (omega arith)) ∙ ends f)));
    }

go_on-none : (n : ℕ) (go : Term → List Token → Outcome Term) (x : Term) (ts : List Token) → n ≡ 0 → go_on n go x ts ≡ found x ts
go_on-none zero go x ts e = refl
go_on-none (suc n) go x ts e = absurd (omega arith)

-- a comparison, after which no other comes
pub leads-compared : (n : ℕ) (op : Op) (x y z : Term) (ts us vs : List Token) → n ≡ 0 → level_of op ≡ n → Leads n x ts y (Operator op ∷ us)
    → Settles Term (λ fuel. read fuel (suc n)) us (found z vs) → Settles Term (λ fuel. tail fuel n x) ts (found (binary op y z) vs)
leads-compared n op x y z ts us vs none at l r =
    leads-to n op x y ts us (found z vs) (found (binary op y z) vs) at l r (λ fuel. go_on-none n (tail fuel n) (binary op y z) vs none)

-- an operand that offends
pub leads-fault : (n : ℕ) (op : Op) (x y : Term) (ts us bad : List Token) → level_of op ≡ n → Leads n x ts y (Operator op ∷ us)
    → Settles Term (λ fuel. read fuel (suc n)) us (fault bad) → Settles Term (λ fuel. tail fuel n x) ts (fault bad)
leads-fault n op x y ts us bad at l r = leads-to n op x y ts us (fault bad) (fault bad) at l r (λ fuel. refl)

test-other : (a b : ℕ) → (a ≡ b → ⊥) → (a == b) ≡ false
test-other a b h = grind (arith, nat_tests)

tail-stopped : (n : ℕ) (x : Term) (ts : List Token) → ¬ HasOperator n ts → (fuel : ℕ) → tail fuel n x ts ≡ found x ts
unfolding read tail
tail-stopped n x ts h zero = refl
tail-stopped n x [] h (suc f) = refl
tail-stopped n x (Operator op ∷ ts) h (suc f) =
    ap (λ b. cond b (and_then (read f (suc n) ts) (λ y rest. go_on n (tail f n) (binary op x y) rest)) (found x (Operator op ∷ ts)))
    (test-other (level_of op) n h)
tail-stopped n x (_ ∷ ts) h (suc f) = refl

ended : (n : ℕ) (x y : Term) (ts us : List Token) → ¬ HasOperator n us → Leads n x ts y us
    → Settles Term (λ fuel. tail fuel n x) ts (found y us)
ended n x y ts us h l =
    record {
      least = l.more + l.least;
      from = λ fuel le. (let e : fuel ≡ l.more + (fuel - l.more) = omega arith in ap (λ f. tail f n x ts) e
          ∙ (l.from (fuel - l.more) (omega arith) ∙ tail-stopped n y us h (fuel - l.more)));
    }

-- no operator of the level is left
pub leads-end : (n : ℕ) (x y : Term) (ts us vs : List Token) → us ≡ vs → ¬ HasOperator n us → Leads n x ts y us
    → Settles Term (λ fuel. tail fuel n x) ts (found y vs)
leads-end n x y ts us vs same h l = subst (λ v. Settles Term (λ fuel. tail fuel n x) ts (found y v)) same (ended n x y ts us h l)

-- ---- levels

-- a prim is an expression of its level
pub reads-prim : (ts : List Token) (o : Outcome Term) → Settles Term (λ fuel. prim_by (read fuel prim_level) (read fuel 0)) ts o
    → Settles Term (λ fuel. read fuel prim_level) ts o
reads-prim ts o r = record { least = suc r.least; from = λ fuel le. read-prim fuel ts o (omega arith) (λ f is. r.from f (omega arith)) }

-- an operand of the next level and what follows it
pub reads-chain : (n : ℕ) (ts mid : List Token) (x : Term) (o : Outcome Term) → n < prim_level
    → Settles Term (λ fuel. read fuel (suc n)) ts (found x mid) → Settles Term (λ fuel. tail fuel n x) mid o
    → Settles Term (λ fuel. read fuel n) ts o
reads-chain n ts mid x o lt r s =
    record {
      least = suc (r.least + s.least);
      from = λ fuel le. read-chain fuel n ts o lt (omega arith)
          (λ f is. ap (λ o. and_then o (tail f n)) (r.from f (omega arith)) ∙ s.from f (omega arith));
    }

-- an operand that offends
pub reads-fault : (n : ℕ) (ts bad : List Token) → n < prim_level → Settles Term (λ fuel. read fuel (suc n)) ts (fault bad)
    → Settles Term (λ fuel. read fuel n) ts (fault bad)
reads-fault n ts bad lt r =
    record {
      least = suc r.least;
      from = λ fuel le. read-chain fuel n ts (fault bad) lt (omega arith) (λ f is. ap (λ o. and_then o (tail f n)) (r.from f (omega arith)));
    }
