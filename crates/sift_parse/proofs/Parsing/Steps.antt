-- How readers are put together one after another.
use Rattle.std.proofs.Common.{◌≡◌, List, [], ◌∷◌, ◌++◌, refl, ap, ◌∙◌, append_assoc}
use Rattle.sift_parse.specs.declared.token.Token.{Token}
use Rattle.sift_parse.specs.Reading.{Outcome, found, fault, and_then}
use Rattle.sift_parse.proofs.Parsing.Laws.{Rel, Uses, Goes, Viable, left_of, LocalAt, Lawful}

-- ---- one after another

-- the first relation, and then the second of what the first gave
pub data Then (A B : Type 0) (D : Rel A) (E : A → Rel B) : List Token → B → List Token → Type 0 where
  in_turn : (ts mid rest : List Token) (a : A) (b : B) → D ts a mid → E a mid b rest → Then A B D E ts b rest

pub data Stepped (A B : Type 0) (o : Outcome A) (f : A → List Token → Outcome B) (b : B) (rest : List Token) : Type 0 where
  both : (a : A) (mid : List Token) → o ≡ found a mid → f a mid ≡ found b rest → Stepped A B o f b rest

-- what two readers find in turn, the second finds behind what the first found
pub stepped : (A B : Type 0) (o : Outcome A) (f : A → List Token → Outcome B) (b : B) (rest : List Token) → and_then o f ≡ found b rest
    → Stepped A B o f b rest
stepped A B (found a mid) f b rest h = both a mid refl h
stepped A B (fault bad) f b rest h = cc

pub data Failed (A B : Type 0) (o : Outcome A) (f : A → List Token → Outcome B) (bad : List Token) : Type 0 where
  first_fails : o ≡ fault bad → Failed A B o f bad
  second_fails : (a : A) (mid : List Token) → o ≡ found a mid → f a mid ≡ fault bad → Failed A B o f bad

-- where two readers in turn come to a token that offends, the first did, or the second did behind what the first found
pub failed : (A B : Type 0) (o : Outcome A) (f : A → List Token → Outcome B) (bad : List Token) → and_then o f ≡ fault bad → Failed A B o f bad
failed A B (found a mid) f bad h = second_fails a mid refl h
failed A B (fault b) f bad h = let e : b ≡ bad = cc in first_fails (ap (λ l. fault l) e)

then-sound : (A B : Type 0) (D : Rel A) (E : A → Rel B) (R : List Token → Outcome A) (S : A → List Token → Outcome B) → Lawful A D R
    → ((a : A) → Lawful B (E a) (S a)) → (ts rest : List Token) (b : B) → Stepped A B (R ts) S b rest → Uses B (Then A B D E) ts b rest
then-sound A B D E R S r s ts rest b (both a mid e f) =
    let u = r.sound ts mid a e in
    let v = (s a).sound mid rest b f in
    record {
      used = u.used ++ v.used;
      split = rw append_assoc (u.split ∙ ap (λ l. u.used ++ l) v.split);
      anywhere = λ q. rw append_assoc (in_turn (u.used ++ (v.used ++ q)) (v.used ++ q) q a b (u.anywhere (v.used ++ q)) (v.anywhere q));
    }

then-goes : (A B : Type 0) (D : Rel A) (E : A → Rel B) (front : List Token) (g : Goes A D front) → Goes B (E g.made) []
    → Goes B (Then A B D E) front
then-goes A B D E front g h =
    record {
      back = g.back ++ h.back;
      made = h.made;
      rest = λ q. rw append_assoc
          (in_turn (front ++ (g.back ++ (h.back ++ q))) (h.back ++ q) q g.made h.made (g.rest (h.back ++ q)) (h.rest q));
    }

then-viable : (A B : Type 0) (D : Rel A) (E : A → Rel B) (R : List Token → Outcome A) (S : A → List Token → Outcome B) → Lawful A D R
    → ((a : A) → Lawful B (E a) (S a)) → (ts bad : List Token) → Failed A B (R ts) S bad → Viable B (Then A B D E) ts bad
then-viable A B D E R S r s ts bad (first_fails e) =
    let v = r.viable ts bad e in
    record { front = v.front; split = v.split; goes = then-goes A B D E v.front v.goes (s v.goes.made).fills }
then-viable A B D E R S r s ts bad (second_fails a mid e f) =
    let u = r.sound ts mid a e in
    let v = (s a).viable mid bad f in
    record {
      front = u.used ++ v.front;
      split = rw append_assoc (u.split ∙ ap (λ l. u.used ++ l) v.split);
      goes = record {
        back = v.goes.back;
        made = v.goes.made;
        rest = λ q. rw append_assoc
            (in_turn (u.used ++ (v.front ++ (v.goes.back ++ q))) (v.front ++ (v.goes.back ++ q)) q a v.goes.made
            (u.anywhere (v.front ++ (v.goes.back ++ q))) (v.goes.rest q));
      };
    }

join : (A B : Type 0) (R : List Token → Outcome A) (S : A → List Token → Outcome B) (ts mid : List Token) (a : A)
    → LocalAt A R ts (found a mid) → LocalAt B (S a) mid (S a mid) → LocalAt B (λ ts. and_then (R ts) S) ts (S a mid)
join A B R S ts mid a r s =
    record {
      used = r.used ++ s.used;
      split = rw append_assoc (r.split ∙ ap (λ l. r.used ++ l) s.split);
      again = λ t more others e. rw append_assoc (first s.used s.split t more others e ∙ s.again t more others e);
    }
  where
    first : (u : List Token) → mid ≡ u ++ left_of (S a mid) → (t : Token) (more others : List Token) → left_of (S a mid) ≡ t ∷ more
        → and_then (R (r.used ++ (u ++ t ∷ others))) S ≡ S a (u ++ t ∷ others)
    first [] is t more others e = ap (λ o. and_then o S) (r.again t more others (is ∙ e))
    first (v ∷ u) is t more others e = ap (λ o. and_then o S) (r.again v (u ++ left_of (S a mid)) (u ++ t ∷ others) is)

-- two readers in turn answer the same while the first token left stays, where each of the two does
pub then-local : (A B : Type 0) (R : List Token → Outcome A) (S : A → List Token → Outcome B)
    → ((a : A) (ts : List Token) → LocalAt B (S a) ts (S a ts)) → (ts : List Token) (o : Outcome A) → LocalAt A R ts o
    → LocalAt B (λ ts. and_then (R ts) S) ts (and_then o S)
then-local A B R S s ts (found a mid) r = join A B R S ts mid a r (s a mid)
then-local A B R S s ts (fault bad) r = record { used = r.used; split = r.split; again = λ t more others e. ap (λ o. and_then o S) (r.again t more others e) }

-- one reader after another
pub then_lawful : (A B : Type 0) (D : Rel A) (E : A → Rel B) (R : List Token → Outcome A) (S : A → List Token → Outcome B) → Lawful A D R
    → ((a : A) → Lawful B (E a) (S a)) → Lawful B (Then A B D E) (λ ts. and_then (R ts) S)
then_lawful A B D E R S r s = record {
  sound = λ ts rest b h. then-sound A B D E R S r s ts rest b (stepped A B (R ts) S b rest h);
  viable = λ ts bad h. then-viable A B D E R S r s ts bad (failed A B (R ts) S bad h);
  at_each = λ ts. then-local A B R S (λ a. (s a).at_each) ts (R ts) (r.at_each ts);
  fills = then-goes A B D E [] r.fills (s r.fills.made).fills;
}

-- a reader for one relation is one for a wider relation
pub widened : (A : Type 0) (D E : Rel A) (R : List Token → Outcome A) → ((ts rest : List Token) (a : A) → D ts a rest → E ts a rest)
    → Lawful A D R → Lawful A E R
widened A D E R wider r = record {
  sound = λ ts rest a h. (let u = r.sound ts rest a h in record { used = u.used; split = u.split; anywhere = λ q. wider (u.used ++ q) q a (u.anywhere q) });
  viable =
      λ ts bad h. (let v = r.viable ts bad h in
      record {
        front = v.front;
        split = v.split;
        goes = record {
          back = v.goes.back;
          made = v.goes.made;
          rest = λ q. wider (v.front ++ (v.goes.back ++ q)) q v.goes.made (v.goes.rest q);
        };
      });
  at_each = r.at_each;
  fills = record { back = r.fills.back; made = r.fills.made; rest = λ q. wider (r.fills.back ++ q) q r.fills.made (r.fills.rest q) };
}
