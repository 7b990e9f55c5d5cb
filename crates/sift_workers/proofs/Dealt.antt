-- Hands that are dealt, one item more and one item less, and what holds of the items of all hands.
use Rattle.std.proofs.Common.{◌≡◌, ◌≢◌, ℕ, zero, suc, ◌+◌, ◌%◌, ◌<◌, ◌≤◌, ◌==◌, if◌then◌else◌, List, [], ◌∷◌, ◌++◌, Vec, length, slice_index_or, slice_set, All, length-set, length-append, refl, sym, ap, ◌∙◌, subst, arith, eq-eqb, ne_eqb}
use Rattle.std.specs.List.{AllZip}
use Rattle.std.specs.declared.alloc.Global.{Global}
use Rattle.std.proofs.lemmas.List.{get_or-set_same, get_or-set_other, same_from_push, length_push}
use Rattle.std.proofs.lemmas.List.Elements.{All-head, All-tail, All-push}
use Rattle.std.proofs.lemmas.Nat.{mod_below}
use mathlib.Core.Logic.{dite}
use native.Mathlib.Decide.{ℕ_discrete}
use Rattle.sift_workers.specs.Going.{AtEachPlace}
use Rattle.std.proofs.lemmas.List.{append-nil, get_or_default}
use Rattle.sift_workers.specs.Hands.{thread_for, hand, IsDealt, InHands}

-- what holds at each place holds place by place
pub zip_of : {X : Type 0} (R : X → X → Type 0) (xs ys : List X) → AtEachPlace R xs ys → AllZip R xs ys
zip_of R [] [] e = tt
zip_of R [] (y ∷ ys) e = absurd (let l = e.long in omega arith)
zip_of R (x ∷ xs) [] e = absurd (let l = e.long in omega arith)
zip_of R (x ∷ xs) (y ∷ ys) e = (
  e.at 0 x (omega arith),
  zip_of R xs ys (record { long = (let l = e.long in omega arith); at = λ i d low. e.at (suc i) d (omega arith) }),
)

-- a list that is a part with others behind it, and no longer than the part, is the part
pub all_of : {X : Type 0} (xs all rest : List X) → xs ≡ all ++ rest → length xs ≤ length all → all ≡ xs
all_of xs all [] is low = sym (append-nil all) ∙ sym is
all_of xs all (r ∷ rs) is low = absurd (omega (arith, ap length is, length-append all (r ∷ rs)))

module _ {X : Type 0} where
  -- the first item goes to its own hand, and to no other
  hand_here : (m n w u : ℕ) (x : X) (xs : List X) → w ≡ thread_for m n u → hand m n w u (x ∷ xs) ≡ hand m n w (u + 1) xs ++ x ∷ []
  hand_here m n w u x xs is = rw (eq-eqb w (thread_for m n u) is) refl

  hand_else : (m n w u : ℕ) (x : X) (xs : List X) → w ≢ thread_for m n u → hand m n w u (x ∷ xs) ≡ hand m n w (u + 1) xs
  hand_else m n w u x xs other = rw (ne_eqb w (thread_for m n u) other) refl

  module _ (m n u : ℕ) (some : 0 < n) (hs : List (Vec X Global)) (o v : Vec X Global) (at : ℕ) (here : at ≡ thread_for m n u) (was : o ≡ slice_index_or hs at o) where
    low : at < n
    low = let small = mod_below (u % m) n some in omega arith

    -- the item before all that are dealt
    pub dealt_more : (x : X) (xs : List X) → IsDealt m n (u + 1) xs hs → v.items ≡ o.items ++ x ∷ [] → IsDealt m n u (x ∷ xs) (slice_set hs at v)
    dealt_more x xs d is = record {
      count = length-set hs at v ∙ d.count;
      each = λ w e lw. dite (ℕ_discrete w at)
          (λ same. subst (λ (k : ℕ). (slice_index_or (slice_set hs at v) k e).items ≡ hand m n k u (x ∷ xs)) (sym same)
          (ap (λ (z : Vec X Global). z.items) (get_or-set_same hs at v e (let c = d.count in omega arith))
          ∙ (is ∙ (ap (λ (z : List X). z ++ x ∷ []) (ap (λ (z : Vec X Global). z.items) was ∙ d.each at o low) ∙ sym (hand_here m n at u x xs here)))))
          (λ ne. ap (λ (z : Vec X Global). z.items) (get_or-set_other hs at w v e ne) ∙ (d.each w e lw ∙ sym (hand_else m n w u x xs (λ q. ne (q ∙ sym here)))));
    }

    -- what was taken from the first item's hand
    pub record Taken (p : X) (xs : List X) : Type 0 where
      pub rest : List X
      pub is : xs ≡ p ∷ rest
      pub dealt : IsDealt m n (u + 1) rest (slice_set hs at v)

    -- the first item is the last of its hand
    pub dealt_less : (p : X) (xs : List X) → IsDealt m n u xs hs → o.items ≡ v.items ++ p ∷ [] → 0 < length xs → Taken p xs
    dealt_less p [] d is there = absurd (omega arith)
    dealt_less p (x ∷ xs) d is there =
        let two = same_from_push v.items (hand m n at (u + 1) xs) p x
        (sym is ∙ (ap (λ (z : Vec X Global). z.items) was ∙ (d.each at o low ∙ hand_here m n at u x xs here))) in
        record {
          rest = xs;
          is = λ i. sym two.1 i ∷ xs;
          dealt = record {
            count = length-set hs at v ∙ d.count;
            each = λ w e lw. dite (ℕ_discrete w at)
                (λ same. subst (λ (k : ℕ). (slice_index_or (slice_set hs at v) k e).items ≡ hand m n k (u + 1) xs) (sym same)
                (ap (λ (z : Vec X Global). z.items) (get_or-set_same hs at v e (let c = d.count in omega arith)) ∙ two.0))
                (λ ne. ap (λ (z : Vec X Global). z.items) (get_or-set_other hs at w v e ne)
                ∙ (d.each w e lw ∙ hand_else m n w u x xs (λ q. ne (q ∙ sym here))));
          };
        }

    -- the first item's hand is not empty
    pub dealt_some : (xs : List X) → IsDealt m n u xs hs → 0 < length xs → 0 < length o.items
    dealt_some [] d there = absurd (omega arith)
    dealt_some (x ∷ xs) d there =
        let e : o.items ≡ hand m n at (u + 1) xs ++ x ∷ [] = ap (λ (z : Vec X Global). z.items) was ∙ (d.each at o low ∙ hand_here m n at u x xs here) in
        subst (λ (z : List X). 0 < length z) (sym e) (omega (arith, length_push (hand m n at (u + 1) xs) x))

  -- what holds of all items holds of those of each hand
  pub all_dealt : (P : X → Type 0) (m n w u : ℕ) (xs : List X) → All P xs → All P (hand m n w u xs)
  all_dealt P m n w u [] all = all
  all_dealt P m n w u (x ∷ xs) all =
      let rest = all_dealt P m n w (u + 1) xs (All-tail P x xs all) in
      dite (ℕ_discrete w (thread_for m n u))
      (λ is. subst (λ (z : List X). All P z) (sym (hand_here m n w u x xs is)) (All-push P (hand m n w (u + 1) xs) x rest (All-head P x xs all)))
      (λ other. subst (λ (z : List X). All P z) (sym (hand_else m n w u x xs other)) rest)

  module _ (R : X → X → Type 0) where
    nil_zip : (ys : List X) → AllZip R [] ys → ys ≡ []
    nil_zip [] z = refl
    nil_zip (y ∷ ys) z = absurd z

    -- what stands beside a list with one item more
    record Beside (xs : List X) (x : X) (ys : List X) : Type 0 where
      pub front : List X
      pub last : X
      pub is : ys ≡ front ++ last ∷ []
      pub zip : AllZip R xs front
      pub related : R x last

    beside : (xs : List X) (x : X) (ys : List X) → AllZip R (xs ++ x ∷ []) ys → Beside xs x ys
    beside [] x [] z = absurd z
    beside [] x (y ∷ ys) z = record { front = []; last = y; is = λ i. y ∷ nil_zip ys z.1 i; zip = tt; related = z.0 }
    beside (a ∷ xs) x [] z = absurd z
    beside (a ∷ xs) x (y ∷ ys) z =
        let b = beside xs x ys z.1 in
        record { front = y ∷ b.front; last = b.last; is = λ i. y ∷ b.is i; zip = (z.0, b.zip); related = b.related }

    -- hands beside those that were dealt were dealt of one list too
    pub record Undealt (m n u : ℕ) (xs : List X) (b : ℕ → List X) : Type 0 where
      pub ys : List X
      pub zip : AllZip R xs ys
      pub each : (w : ℕ) → w < n → b w ≡ hand m n w u ys

    abbrev less : (ℕ → List X) → ℕ → List X → ℕ → List X
    less b at front w = if w == at then front else b w

    less_here : (b : ℕ → List X) (at : ℕ) (front : List X) (w : ℕ) → w ≡ at → less b at front w ≡ front
    less_here b at front w is = rw (eq-eqb w at is) refl

    less_else : (b : ℕ → List X) (at : ℕ) (front : List X) (w : ℕ) → w ≢ at → less b at front w ≡ b w
    less_else b at front w other = rw (ne_eqb w at other) refl

    pub undealt : (m n u : ℕ) (xs : List X) (b : ℕ → List X) → 0 < n → ((w : ℕ) → w < n → AllZip R (hand m n w u xs) (b w)) → Undealt m n u xs b
    undealt m n u [] b some z = record { ys = []; zip = tt; each = λ w lw. nil_zip (b w) (z w lw) }
    undealt m n u (x ∷ xs) b some z =
        let at : ℕ = thread_for m n u in
        let own = beside (hand m n at (u + 1) xs) x (b at) (subst (λ (h : List X). AllZip R h (b at)) (hand_here m n at u x xs refl) (z at (mod_below (u % m) n some))) in
        let rec = undealt m n (u + 1) xs (less b at own.front) some (λ w lw. dite (ℕ_discrete w at)
        (λ is. subst (λ (h : List X). AllZip R (hand m n w (u + 1) xs) h) (sym (less_here b at own.front w is))
        (subst (λ (k : ℕ). AllZip R (hand m n k (u + 1) xs) own.front) (sym is) own.zip))
        (λ ne. subst (λ (h : List X). AllZip R (hand m n w (u + 1) xs) h) (sym (less_else b at own.front w ne))
        (subst (λ (h : List X). AllZip R h (b w)) (hand_else m n w u x xs ne) (z w lw)))) in
        record {
          ys = own.last ∷ rec.ys;
          zip = (own.related, rec.zip);
          each = λ w lw. dite (ℕ_discrete w at)
              (λ is. subst (λ (k : ℕ). b k ≡ hand m n k u (own.last ∷ rec.ys)) (sym is)
              (own.is ∙ (ap (λ (h : List X). h ++ own.last ∷ []) (sym (less_here b at own.front at refl) ∙ rec.each at (mod_below (u % m) n some))
              ∙ sym (hand_here m n at u own.last rec.ys refl))))
              (λ ne. sym (less_else b at own.front w ne) ∙ (rec.each w lw ∙ sym (hand_else m n w u own.last rec.ys ne)));
        }

    -- what comes back was dealt of one list, and R holds place by place
    pub record Back (m n : ℕ) (xs : List X) (bs : List (Vec X Global)) : Type 0 where
      pub ys : List X
      pub zip : AllZip R xs ys
      pub dealt : IsDealt m n 0 ys bs

    -- hands beside dealt ones, item by item under R, were dealt of one list that is so beside the dealt list
    pub back : (m n : ℕ) (xs : List X) (hs bs : List (Vec X Global)) (e : Vec X Global) → 0 < n → IsDealt m n 0 xs hs → length bs ≡ length hs →
        InHands R hs bs → Back m n xs bs
    back m n xs hs bs e some d long z =
        let c = d.count in
        let u = undealt m n 0 xs (λ w. (slice_index_or bs w e).items) some
        (λ w lw. subst (λ (h : List X). AllZip R h (slice_index_or bs w e).items) (d.each w e lw) (z w e (omega arith))) in
        record {
          ys = u.ys;
          zip = u.zip;
          dealt = record {
            count = long ∙ c;
            each = λ w f lw. ap (λ (v : Vec X Global). v.items) (get_or_default bs w f e (omega arith)) ∙ u.each w lw;
          };
        }

-- what holds at each place, and of each item afterwards, holds place by place
pub home_zip : {X : Type 0} (R : X → X → Type 0) (Q : X → Type 0) (xs ys : List X) → AtEachPlace R xs ys → All Q ys → AllZip (λ x y. R x y × Q y) xs ys
home_zip R Q xs ys e all = zip_of (λ x y. R x y × Q y) xs ys (record {
  long = e.long;
  at = λ i d low. (e.at i d low, all i d (let l = e.long in omega arith));
})

-- what holds of each item afterwards, holds of all of them
pub zip_all : {X : Type 0} (R : X → X → Type 0) (Q : X → Type 0) (xs ys : List X) → AllZip (λ x y. R x y × Q y) xs ys
    → (i : ℕ) (d : X) → i < length ys → Q (slice_index_or ys i d)
zip_all R Q [] [] z i d below = absurd (omega arith)
zip_all R Q [] (y ∷ ys) z i d below = absurd z
zip_all R Q (x ∷ xs) [] z i d below = absurd z
zip_all R Q (x ∷ xs) (y ∷ ys) z zero d below = z.0.1
zip_all R Q (x ∷ xs) (y ∷ ys) z (suc i) d below = zip_all R Q xs ys z.1 i d (omega arith)

-- what comes of what came of the items comes of them
pub zip_on : {X : Type 0} (R : X → X → Type 0) (P Q : X → Type 0) (on : (x y z : X) → R x y → R y z → R x z) (xs ys zs : List X)
    → AllZip (λ x y. R x y × P y) xs ys → AllZip (λ y z. R y z × Q z) ys zs → AllZip (λ x z. R x z × Q z) xs zs
zip_on R P Q on [] [] [] a b = tt
zip_on R P Q on [] [] (z ∷ zs) a b = absurd b
zip_on R P Q on [] (y ∷ ys) zs a b = absurd a
zip_on R P Q on (x ∷ xs) [] zs a b = absurd a
zip_on R P Q on (x ∷ xs) (y ∷ ys) [] a b = absurd b
zip_on R P Q on (x ∷ xs) (y ∷ ys) (z ∷ zs) a b = ((on x y z a.0.0 b.0.0, b.0.1), zip_on R P Q on xs ys zs a.1 b.1)
