-- How readers are put together by a look at the next token.
use Rattle.std.proofs.Common.{◌≡◌, List, [], ◌∷◌, ◌++◌, refl, sym, ap, ◌∙◌, subst}
use Rattle.sift_parse.specs.declared.token.Token.{Token}
use Rattle.sift_parse.specs.Reading.{Outcome, found, fault, and_then}
use Rattle.sift_parse.proofs.Parsing.Laws.{Rel, Uses, Viable, left_of, with_left, LocalAt, Lawful, Default, done}
use Rattle.sift_parse.proofs.Parsing.Steps.{Then, then_lawful, widened, in_turn}

-- ---- by a look at the next token

-- what a reader does at this token: it takes the token and goes on, or it answers without it
pub data Picks (A : Type 0) (D : Rel A) (Z : List Token → Outcome A) (t : Token) (P : List Token → Outcome A) : Type 0 where
  takes : Lawful A (λ ts a rest. D (t ∷ ts) a rest) P → Picks A D Z t P
  leaves : ((ts : List Token) → P ts ≡ Z (t ∷ ts)) → Picks A D Z t P

pick-sound : (A : Type 0) (D : Rel A) (Z : List Token → Outcome A) (t : Token) (P : List Token → Outcome A) → Default A D Z
    → Picks A D Z t P → (ts rest : List Token) (a : A) → P ts ≡ found a rest → Uses A D (t ∷ ts) a rest
pick-sound A D Z t P z (takes p) ts rest a h =
    let u = p.sound ts rest a h in record { used = t ∷ u.used; split = ap (λ l. t ∷ l) u.split; anywhere = u.anywhere }
pick-sound A D Z t P z (leaves same) ts rest a h = z.lawful.sound (t ∷ ts) rest a (sym (same ts) ∙ h)

pick-viable : (A : Type 0) (D : Rel A) (Z : List Token → Outcome A) (t : Token) (P : List Token → Outcome A) → Default A D Z
    → Picks A D Z t P → (ts bad : List Token) → P ts ≡ fault bad → Viable A D (t ∷ ts) bad
pick-viable A D Z t P z (takes p) ts bad h =
    let v = p.viable ts bad h in
    record {
      front = t ∷ v.front;
      split = ap (λ l. t ∷ l) v.split;
      goes = record { back = v.goes.back; made = v.goes.made; rest = v.goes.rest };
    }
pick-viable A D Z t P z (leaves same) ts bad h = z.lawful.viable (t ∷ ts) bad (sym (same ts) ∙ h)

before : (A : Type 0) (P R : List Token → Outcome A) (t : Token) (ts : List Token) → ((us : List Token) → R (t ∷ us) ≡ P us)
    → LocalAt A P ts (P ts) → LocalAt A R (t ∷ ts) (P ts)
before A P R t ts same p =
    record {
      used = t ∷ p.used;
      split = ap (λ l. t ∷ l) p.split;
      again = λ u more others e. same (p.used ++ u ∷ others)
          ∙ p.again u more others e;
    }

at_next : (A : Type 0) (D : Rel A) (Z R : List Token → Outcome A) (t : Token) (ts : List Token) (o : Outcome A) → Default A D Z
    → o ≡ Z (t ∷ ts) → ((us : List Token) → R (t ∷ us) ≡ Z (t ∷ us)) → LocalAt A R (t ∷ ts) o
at_next A D Z R t ts o z is same =
    let left : left_of o ≡ t ∷ ts = ap left_of is ∙ z.left (t ∷ ts) in
    record {
      used = [];
      split = sym left;
      again = λ u more others e. (let h : t ≡ u = (let g = sym left ∙ e in cc) in
          subst (λ v. R (v ∷ others) ≡ with_left o (v ∷ others)) h
          (same others ∙ (sym (z.again (t ∷ ts) (t ∷ others)) ∙ ap (λ o. with_left o (t ∷ others)) (sym is))));
    }

pick-local : (A : Type 0) (D : Rel A) (Z R : List Token → Outcome A) (t : Token) → Default A D Z → Picks A D Z t (λ ts. R (t ∷ ts))
    → (ts : List Token) → LocalAt A R (t ∷ ts) (R (t ∷ ts))
pick-local A D Z R t z (takes p) ts = before A (λ ts. R (t ∷ ts)) R t ts (λ us. refl) (p.at_each ts)
pick-local A D Z R t z (leaves other) ts = at_next A D Z R t ts (R (t ∷ ts)) z (other ts) other

-- a reader that goes by the next token
pub choice : (A : Type 0) (D : Rel A) (Z R : List Token → Outcome A) → Default A D Z → R [] ≡ Z []
    → ((t : Token) → Picks A D Z t (λ ts. R (t ∷ ts))) → Lawful A D R
choice A D Z R z none picks = record { sound = sound; viable = viable; at_each = at_each; fills = z.lawful.fills }
  where
    sound : (ts rest : List Token) (a : A) → R ts ≡ found a rest → Uses A D ts a rest
    sound [] rest a h = z.lawful.sound [] rest a (sym none ∙ h)
    sound (t ∷ ts) rest a h = pick-sound A D Z t (λ ts. R (t ∷ ts)) z (picks t) ts rest a h

    viable : (ts bad : List Token) → R ts ≡ fault bad → Viable A D ts bad
    viable [] bad h = z.lawful.viable [] bad (sym none ∙ h)
    viable (t ∷ ts) bad h = pick-viable A D Z t (λ ts. R (t ∷ ts)) z (picks t) ts bad h

    at_each : (ts : List Token) → LocalAt A R ts (R ts)
    at_each [] =
        let left : left_of (R []) ≡ [] = ap left_of none
        ∙ z.left [] in record { used = []; split = sym left; again = λ t more others e. (let g = sym left ∙ e in cc) }
    at_each (t ∷ ts) = pick-local A D Z R t z (picks t) ts

-- this was read, and no token was taken
pub data Same (A : Type 0) (a : A) : List Token → A → List Token → Type 0 where
  same : (rest : List Token) → Same A a rest a rest

map-rule : (A B : Type 0) (D : Rel A) (E : Rel B) (f : A → B) → ((ts rest : List Token) (a : A) → D ts a rest → E ts (f a) rest)
    → (ts rest : List Token) (b : B) → Then A B D (λ a. Same B (f a)) ts b rest → E ts b rest
map-rule A B D E f rule ts rest b (in_turn us mid vs a c d (same ws)) = rule us mid a d

-- a reader, and what is made of its answer
pub mapped : (A B : Type 0) (D : Rel A) (E : Rel B) (R : List Token → Outcome A) (f : A → B)
    → ((ts rest : List Token) (a : A) → D ts a rest → E ts (f a) rest) → Lawful A D R
    → Lawful B E (λ ts. and_then (R ts) (λ a rest. found (f a) rest))
mapped A B D E R f rule r =
    widened B (Then A B D (λ a. Same B (f a))) E (λ ts. and_then (R ts) (λ a rest. found (f a) rest)) (map-rule A B D E f rule)
    (then_lawful A B D (λ a. Same B (f a)) R (λ a rest. found (f a) rest) r (λ a. done B (Same B (f a)) (f a) same))
