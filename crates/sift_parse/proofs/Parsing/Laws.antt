-- A reader is lawful for a relation: what it reads is related, what stands before a fault can be gone on with, and what it answers depends on the tokens used and on one more.
use Rattle.std.proofs.Common.{◌≡◌, List, [], ◌∷◌, ◌++◌, refl, sym, ◌∙◌, subst}
use Rattle.sift_parse.specs.declared.token.Token.{Token}
use Rattle.sift_parse.specs.Reading.{Outcome, found, fault}

-- relations of the tokens from a place on, what begins there, and the tokens after it
abbrev pub Rel : Type 0 → Type 1
Rel A = List Token → A → List Token → Type 0

-- it is related by the tokens at the front alone
pub record Uses (A : Type 0) (D : Rel A) (ts : List Token) (a : A) (rest : List Token) : Type 0 where
  pub used : List Token
  pub split : ts ≡ used ++ rest
  pub anywhere : (r : List Token) → D (used ++ r) a r

-- the front can be gone on with, whatever follows
pub record Goes (A : Type 0) (D : Rel A) (front : List Token) : Type 0 where
  pub back : List Token
  pub made : A
  pub rest : (r : List Token) → D (front ++ (back ++ r)) made r

-- what stands before the offending token can be gone on with
pub record Viable (A : Type 0) (D : Rel A) (ts bad : List Token) : Type 0 where
  pub front : List Token
  pub split : ts ≡ front ++ bad
  pub goes : Goes A D front

-- the tokens that an outcome leaves
abbrev pub left_of : {A : Type 0} → Outcome A → List Token
left_of (found a rest) = rest
left_of (fault bad) = bad

-- the outcome with other tokens left
abbrev pub with_left : {A : Type 0} → Outcome A → List Token → Outcome A
with_left (found a rest) left = found a left
with_left (fault bad) left = fault left

-- with these tokens the reader gave this outcome, and it gives it again while the first token left stays
pub record LocalAt (A : Type 0) (R : List Token → Outcome A) (ts : List Token) (o : Outcome A) : Type 0 where
  pub used : List Token
  pub split : ts ≡ used ++ left_of o
  pub again : (t : Token) (more others : List Token) → left_of o ≡ t ∷ more → R (used ++ t ∷ others) ≡ with_left o (t ∷ others)

pub record Lawful (A : Type 0) (D : Rel A) (R : List Token → Outcome A) : Type 0 where
  pub sound : (ts rest : List Token) (a : A) → R ts ≡ found a rest → Uses A D ts a rest
  pub viable : (ts bad : List Token) → R ts ≡ fault bad → Viable A D ts bad
  pub at_each : (ts : List Token) → LocalAt A R ts (R ts)
  pub fills : Goes A D []

-- ---- readers that take no token

-- an outcome that takes no token, and that is given whatever follows the first one, is given again while that one stays
pub looks : (A : Type 0) (R : List Token → Outcome A) (t : Token) (ts : List Token) (o : Outcome A) → left_of o ≡ t ∷ ts
    → ((us : List Token) → R (t ∷ us) ≡ with_left o (t ∷ us)) → LocalAt A R (t ∷ ts) o
looks A R t ts o is same =
    record {
      used = [];
      split = sym is;
      again = λ u more others e. (let h : t ≡ u = (let g = sym is ∙ e in cc) in
          subst (λ v. R (v ∷ others) ≡ with_left o (v ∷ others)) h (same others));
    }

-- where the tokens end, an outcome leaves no token that could stay, so nothing more is asked of the reader
pub ends : (A : Type 0) (R : List Token → Outcome A) (o : Outcome A) → left_of o ≡ [] → LocalAt A R [] o
ends A R o is = record { used = []; split = sym is; again = λ u more others e. (let g = sym is ∙ e in cc) }

-- a reader that answers without a look at the tokens
pub record Default (A : Type 0) (D : Rel A) (Z : List Token → Outcome A) : Type 0 where
  pub lawful : Lawful A D Z
  pub left : (ts : List Token) → left_of (Z ts) ≡ ts
  pub again : (ts us : List Token) → with_left (Z ts) us ≡ Z us

fault-local : (A : Type 0) (ts : List Token) → LocalAt A (λ ts. fault ts) ts (fault ts)
fault-local A [] = ends A (λ ts. fault ts) (fault []) refl
fault-local A (t ∷ ts) = looks A (λ ts. fault ts) t ts (fault (t ∷ ts)) refl (λ us. refl)

found-local : (A : Type 0) (a : A) (ts : List Token) → LocalAt A (λ ts. found a ts) ts (found a ts)
found-local A a [] = ends A (λ ts. found a ts) (found a []) refl
found-local A a (t ∷ ts) = looks A (λ ts. found a ts) t ts (found a (t ∷ ts)) refl (λ us. refl)

-- nothing is read
pub nowhere : (A : Type 0) (D : Rel A) → Goes A D [] → Lawful A D (λ ts. fault ts)
nowhere A D fills =
    record {
      sound = λ ts rest a h. cc;
      viable = λ ts bad h. record { front = []; split = (cc); goes = fills };
      at_each = fault-local A;
      fills = fills;
    }

done-uses : (A : Type 0) (D : Rel A) (a b : A) (ts rest : List Token) → ((r : List Token) → D r a r) → a ≡ b → ts ≡ rest
    → Uses A D ts b rest
done-uses A D a b ts rest d e h = subst (λ b. Uses A D ts b rest) e (record { used = []; split = h; anywhere = d })

-- this is read, and no token is taken
pub done : (A : Type 0) (D : Rel A) (a : A) → ((r : List Token) → D r a r) → Lawful A D (λ ts. found a ts)
done A D a d =
    record {
      sound = λ ts rest b h. done-uses A D a b ts rest d (cc) (cc);
      viable = λ ts bad h. cc;
      at_each = found-local A a;
      fills = record { back = []; made = a; rest = d };
    }

-- the reader that faults at all tokens is a default, where some tokens have the relation whatever follows
pub default-fault : (A : Type 0) (D : Rel A) → Goes A D [] → Default A D (λ ts. fault ts)
default-fault A D fills = record { lawful = nowhere A D fills; left = λ ts. refl; again = λ ts us. refl }

-- the reader that finds this and takes no token is a default, where it has the relation before all tokens
pub default-found : (A : Type 0) (D : Rel A) (a : A) → ((r : List Token) → D r a r) → Default A D (λ ts. found a ts)
default-found A D a d = record { lawful = done A D a d; left = λ ts. refl; again = λ ts us. refl }
