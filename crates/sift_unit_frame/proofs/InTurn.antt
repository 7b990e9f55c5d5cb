-- The units of a configuration in turn, and words made anew in part.
use Rattle.std.proofs.Common.{◌≡◌, ℕ, zero, suc, ◌+◌, ◌<◌, ◌≤◌, ◌++◌, Bool, true, false, ◌&&◌, nat_eq, List, [], ◌∷◌, length}
use Rattle.std.proofs.Common.{map, take, slice_get, Some, unwrap_or, inl, inr, refl, sym, ap, ◌∙◌, subst, not, append-nil, arith, add-one, eqb-true, ltb-true, ne_eqb}
use Rattle.std.specs.List.{filter}
use Rattle.std.specs.Prelude.{nat_lt, if◌then◌else◌}
use Rattle.std.proofs.lemmas.Bool.{cases_Bool}
use Rattle.sift_base.specs.Units.{has, others, IsAscending}
use Rattle.sift_base.specs.laws.Counts.{has-head, has-tail, IsBelowAll}
use Rattle.sift_base.specs.laws.ReadBack.{and_in}
use Rattle.sift_config.specs.Config.{IsConfig}
use Rattle.sift_mission.specs.Data.{FlownMission}
use Rattle.sift_unit_frame.specs.Memory.{renewed, is_made_by}

-- values in turn, one unit more
pub map_more : {A : Type 0} (f : ℕ → A) (us : List ℕ) (i t : ℕ) → slice_get us i ≡ Some t → map f (take (i + 1) us) ≡ map f (take i us) ++ f t ∷ []
map_more {A = A} f us i t at = rw (add-one i) (more us i at)
  where
    more : (us : List ℕ) (i : ℕ) → slice_get us i ≡ Some t → map f (take (suc i) us) ≡ map f (take i us) ++ f t ∷ []
    more [] i at = absurd cc
    more (u ∷ us) zero at = let e : u ≡ t = ap (λ o. unwrap_or o t) at in ap (λ v. f v ∷ []) e
    more (u ∷ us) (suc i) at = ap (λ xs. f u ∷ xs) (more us i at)

-- the first units are no more than so many
pub length-in_turn : {A : Type 0} (f : ℕ → A) (us : List ℕ) (i : ℕ) → length (map f (take i us)) ≤ i
length-in_turn f [] zero = omega arith
length-in_turn f [] (suc i) = omega arith
length-in_turn f (u ∷ us) zero = omega arith
length-in_turn f (u ∷ us) (suc i) = let rest = length-in_turn f us i in omega arith

-- an ascending list of numbers below n has at most n
pub few_units : (n k : ℕ) (us : List ℕ) → k ≤ n → IsAscending us → ((u : ℕ) → has us u ≡ true → (k ≤ u) × (u < n)) → length us + k ≤ n
few_units n k [] low up inside = omega arith
few_units n k (u ∷ us) low up inside =
    let here = inside u (has-head u us) in
    let rest = few_units n (u + 1) us (omega (arith, here.1)) up.1 (λ v there. (above us u v up.0 there, (inside v (has-tail u us v there)).1)) in
    omega (arith, here.0)
  where
    above : (us : List ℕ) (u v : ℕ) → IsBelowAll u us → has us v ≡ true → u + 1 ≤ v
    above [] u v below there = absurd cc
    above (w ∷ ws) u v below there = elim (cases_Bool (nat_eq w v)) [
      | inl t ↦ let e = eqb-true w v t in omega (arith, below.0)
      | inr f ↦ above ws u v below.1 (rw f at there)
    ]

-- ---- words made anew

-- where no place passes, the list is as it was
pub renewed-none : (test : ℕ → Bool) (value : ℕ → ℕ) (xs : List ℕ) (i : ℕ) → ((w : ℕ) → test w ≡ false) → renewed test value xs i ≡ xs
renewed-none test value [] i none = refl
renewed-none test value (x ∷ xs) i none = rw (none i) (ap (λ ys. x ∷ ys) (renewed-none test value xs (suc i) none))

module _ (m : FlownMission) (us : List ℕ) (u t : ℕ) (runs : Bool) (tells : (w : ℕ) → w < m.words → m.task w ≡ t → m.executes us w u ≡ runs) where
  -- a word of the task is made where the unit runs it
  made_where : (w : ℕ) → is_made_by m us u t w ≡ (nat_lt w m.words && (nat_eq (m.task w) t && runs))
  made_where w = and_in (nat_lt w m.words) _ _ (λ few. and_in (nat_eq (m.task w) t) _ _ (λ is. tells w (ltb-true w m.words few) (eqb-true (m.task w) t is)))

  -- and none where it doesn't
  pub made_not : runs ≡ false → (w : ℕ) → is_made_by m us u t w ≡ false
  made_not r w = made_where w ∙ rw r (none (nat_lt w m.words) (nat_eq (m.task w) t))
    where
      none : (a b : Bool) → (a && (b && false)) ≡ false
      none true true = refl
      none true false = refl
      none false b = refl

-- ---- units that pass a test, in turn

-- values of those units in turn, one unit more
passing_more : {A : Type 0} (f : ℕ → A) (p : ℕ → Bool) (us : List ℕ) (i t : ℕ) → slice_get us i ≡ Some t →
    map f (filter p (take (i + 1) us)) ≡ map f (filter p (take i us)) ++ (if p t then f t ∷ [] else [])
passing_more {A = A} f p us i t at = rw (add-one i) (more us i at)
  where
    one : (u : ℕ) → u ≡ t → map f (filter p (u ∷ [])) ≡ (if p t then f t ∷ [] else [])
    one u e = subst (λ (v : ℕ). map f (filter p (v ∷ [])) ≡ (if p t then f t ∷ [] else [])) (sym e) (elim (cases_Bool (p t)) [ inl y ↦ rw y refl | inr n ↦ rw n refl ])

    more : (us : List ℕ) (i : ℕ) → slice_get us i ≡ Some t → map f (filter p (take (suc i) us)) ≡ map f (filter p (take i us)) ++ (if p t then f t ∷ [] else [])
    more [] i at = absurd cc
    more (u ∷ us) zero at = one u (ap (λ o. unwrap_or o t) at)
    more (u ∷ us) (suc i) at = elim (cases_Bool (p u)) [
      | inl y ↦ rw y (ap (λ xs. f u ∷ xs) (more us i at))
      | inr n ↦ rw n (more us i at)
    ]

-- they are no more than so many
length-passing : {A : Type 0} (f : ℕ → A) (p : ℕ → Bool) (us : List ℕ) (i : ℕ) → length (map f (filter p (take i us))) ≤ i
length-passing f p [] zero = omega arith
length-passing f p [] (suc i) = omega arith
length-passing f p (u ∷ us) zero = omega arith
length-passing f p (u ∷ us) (suc i) =
    let rest = length-passing f p us i in
    elim (cases_Bool (p u)) [ inl y ↦ rw y (omega arith) | inr n ↦ rw n (omega arith) ]

-- the units other than two
pub others_both : (of own : ℕ) (us : List ℕ) → filter (λ v. not (nat_eq v of) && not (nat_eq v own)) us ≡ others own (others of us)
others_both of own [] = refl
others_both of own (u ∷ us) =
    let rest = others_both of own us in
    elim (cases_Bool (nat_eq u of)) [
      | inl y ↦ rw y rest
      | inr n ↦ rw n (elim (cases_Bool (nat_eq u own)) [ inl y ↦ rw y rest | inr k ↦ rw k (ap (λ xs. u ∷ xs) rest) ])
    ]

-- room for one more, in a configuration
pub room_in_turn : {A : Type 0} (f : ℕ → A) (p : ℕ → Bool) (us : List ℕ) (i : ℕ) (xs : List A) → IsConfig us → i < length us →
    xs ≡ map f (filter p (take i us)) → length xs < 8
room_in_turn f p us i xs config low is =
    let few = few_units 8 0 us (omega arith) config.ascending (λ u there. (omega arith, config.inside u there)) in
    let so_far = length-passing f p us i in
    let are = ap length is in
    omega arith

-- one unit more that passes
pub passing_yes : {A : Type 0} (f : ℕ → A) (p : ℕ → Bool) (us : List ℕ) (i t : ℕ) → slice_get us i ≡ Some t → p t ≡ true →
    map f (filter p (take (i + 1) us)) ≡ map f (filter p (take i us)) ++ f t ∷ []
passing_yes f p us i t at passes = passing_more f p us i t at ∙ ap (λ b. map f (filter p (take i us)) ++ (if b then f t ∷ [] else [])) passes

-- and one that doesn't
pub passing_no : {A : Type 0} (f : ℕ → A) (p : ℕ → Bool) (us : List ℕ) (i t : ℕ) → slice_get us i ≡ Some t → p t ≡ false →
    map f (filter p (take (i + 1) us)) ≡ map f (filter p (take i us))
passing_no f p us i t at fails = passing_more f p us i t at ∙ (ap (λ b. map f (filter p (take i us)) ++ (if b then f t ∷ [] else [])) fails ∙ append-nil _)

-- a unit below all of a list is none of them
others_below : (u : ℕ) (us : List ℕ) → IsBelowAll u us → others u us ≡ us
others_below u [] below = refl
others_below u (v ∷ us) below = rw (ne_eqb v u (λ e. omega (arith, below.0))) (ap (λ vs. v ∷ vs) (others_below u us below.1))

-- an ascending list has one unit more than the others of a unit that it has
pub others_and_one : (u : ℕ) (us : List ℕ) → IsAscending us → has us u ≡ true → length (others u us) + 1 ≡ length us
others_and_one u [] up there = absurd cc
others_and_one u (v ∷ us) up there = elim (cases_Bool (nat_eq v u)) [
  | inl same ↦ rw same (rw (ap length (others_below u us (subst (λ w. IsBelowAll w us) (eqb-true v u same) up.0))) (omega arith))
  | inr other ↦ rw other (omega (arith, others_and_one u us up.1 (rw other at there)))
]
