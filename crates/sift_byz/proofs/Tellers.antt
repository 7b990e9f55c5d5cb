-- The units that stand last in the paths of some lies, and how many they are.
use Rattle.std.proofs.Common.{◌≡◌, ◌<◌, ◌≤◌, ◌+◌, ◌-◌, inl, inr, ℕ, zero, suc, List, [], ◌∷◌, ◌++◌, length, length-append, get_or, map, take, Bool, true, false, ◌||◌, nat_eq, refl, sym, ap, subst, ◌∙◌, arith}
use Rattle.std.specs.Prelude.{count_by}
use Rattle.std.specs.List.{All, range_with_len}
use Rattle.std.proofs.lemmas.Bool.{cases_Bool, cases_lt, eqb-true, eq-eqb}
use Rattle.std.proofs.lemmas.List.{get_or-map, length-map, take_all, take_more}
use Rattle.std.proofs.lemmas.List.Folds.{list_any-append}
use Rattle.sift_base.specs.Units.{has}
use Rattle.sift_base.specs.laws.Counts.{count-cons, count-no, count-yes}
use Rattle.sift_base.specs.laws.Others.{count-others-<, times_in, times_in-ascending}
use Rattle.sift_base.specs.laws.Ranges.{has-range, range-ascends}
use Rattle.sift_base.specs.laws.ReadBack.{or_false}
use Rattle.sift_byz.specs.declared.reading.Lie.{Lie}
use Rattle.sift_byz.specs.Lawful.{BreaksFew}
use Rattle.sift_byz.specs.Plan.{LieData, lie_of, stands_last, teller_count, tells_some}
use Rattle.sift_byz.specs.Stated.{IsPath}

-- ---- one lie more

-- the unit that stands last is the one at the last place
pub stands_last-at : (u : ℕ) (path : List ℕ) (i d : ℕ) → suc i ≡ length path → stands_last u path ≡ nat_eq (get_or path i d) u
stands_last-at u [] i d long = absurd (omega arith)
stands_last-at u (v ∷ []) zero d long = refl
stands_last-at u (v ∷ []) (suc i) d long = absurd (omega arith)
stands_last-at u (v ∷ w ∷ rest) zero d long = absurd (omega arith)
stands_last-at u (v ∷ w ∷ rest) (suc i) d long = stands_last-at u (w ∷ rest) i d (omega arith)

-- with one lie more, its last unit tells as well
tells_some-push : (lies : List LieData) (lie : LieData) (u : ℕ) → tells_some (lies ++ lie ∷ []) u ≡ (tells_some lies u || stands_last u lie.path)
tells_some-push lies lie u =
    list_any-append (λ (l : LieData). stands_last u l.path) lies (lie ∷ []) ∙ ap (λ b. tells_some lies u || b) (or_false (stands_last u lie.path))

-- and a list of units with one unit more has that one as well
has-push : (us : List ℕ) (t u : ℕ) → has (us ++ t ∷ []) u ≡ (has us u || nat_eq t u)
has-push us t u = list_any-append (λ v. nat_eq v u) us (t ∷ []) ∙ ap (λ b. has us u || b) (or_false (nat_eq t u))

-- ---- counts

-- as many units pass two tests that are one
pub count-same : (p q : ℕ → Bool) (us : List ℕ) → ((u : ℕ) → q u ≡ p u) → count_by q us ≡ count_by p us
count-same p q [] same = refl
count-same p q (u ∷ us) same = count-cons q u us ∙ rw (same u, count-same p q us same) (sym (count-cons p u us))

-- where a test that t fails is widened to t, it is passed as often more as t stands there
count-wider : (p q : ℕ → Bool) (t : ℕ) (us : List ℕ) → p t ≡ false → ((u : ℕ) → q u ≡ (p u || nat_eq t u)) → count_by q us ≡ count_by p us + times_in t us
count-wider p q t [] fails wider = omega arith
count-wider p q t (u ∷ us) fails wider =
    let rest = count-wider p q t us fails wider in
    elim (cases_Bool (nat_eq u t)) [
      | inl same ↦
          let is : u ≡ t = eqb-true u t same in
          let old : p u ≡ false = ap p is ∙ fails in
          let new : q u ≡ true = wider u ∙ rw old (ap (λ x. nat_eq x u) (sym is) ∙ eq-eqb u u refl) in
          omega (arith, rest, count-yes q u us new, count-no p u us old, count-yes (λ v. nat_eq v t) u us same)
      | inr other ↦
          let same : q u ≡ p u = wider u ∙ ap (λ b. p u || b) (turned t u other) ∙ or_false (p u) in
          let more : count_by q (u ∷ us) ≡ count_by p (u ∷ us) + times_in t us = count-cons q u us ∙ rw (same, rest) (omega (arith, count-cons p u us)) in
          omega (arith, more, count-no (λ v. nat_eq v t) u us other)
    ]
  where
    turned : (t u : ℕ) → nat_eq u t ≡ false → nat_eq t u ≡ false
    turned t u other = elim (cases_Bool (nat_eq t u)) [
      | inl same ↦ let e : nat_eq u t ≡ true = ap (λ x. nat_eq u x) (eqb-true t u same) ∙ eq-eqb u u refl in cc
      | inr f ↦ f
    ]

-- a unit below the number of units stands once among them
once : (units t : ℕ) → t < units → times_in t (range_with_len 0 units) ≡ 1
once units t low =
    let us : List ℕ = range_with_len 0 units in
    omega (
      arith,
      times_in-ascending t us (range-ascends 0 units),
      count-others-< (λ v. nat_eq v t) t us (has-range 0 units t (omega arith) (omega arith)) (eq-eqb t t refl),
    )

-- ---- tellers

-- these units are those that stand last in the paths of some lies, and are as many as those below a number are
pub record AreTellers (units : ℕ) (lies : List LieData) (tellers : List ℕ) : Type 0 where
  pub each : (u : ℕ) → has tellers u ≡ tells_some lies u
  pub count : length tellers ≡ teller_count units lies

-- nobody tells no lie
pub no_tellers : (units : ℕ) → AreTellers units [] []
no_tellers units = record { each = λ u. refl; count = sym (none (range_with_len 0 units)) }
  where
    none : (us : List ℕ) → count_by (tells_some []) us ≡ 0
    none [] = refl
    none (u ∷ us) = count-no (tells_some []) u us refl ∙ none us

-- where no lie is one too many, at most m units tell
pub few_tellers : (units m : ℕ) (lies : List LieData) → ((place : ℕ) → ¬ BreaksFew units m lies place) → teller_count units lies ≤ m
few_tellers units m [] kept = omega (arith, (no_tellers units).count)
few_tellers units m (lie ∷ lies) kept = elim (cases_lt m (teller_count units (lie ∷ lies))) [
  | inl more ↦
      let all : take (length lies + 1) (lie ∷ lies) ≡ lie ∷ lies = take_all (length lies + 1) (lie ∷ lies) (omega arith) in
      absurd (kept (length lies) (record { there = omega arith; many = rw all more }))
  | inr few ↦ few
]

module _ (units t : ℕ) (low : t < units) (lies : List LieData) (lie : LieData) (last : (u : ℕ) → stands_last u lie.path ≡ nat_eq t u)
    (tellers : List ℕ) (are : AreTellers units lies tellers) where
  -- with one lie more, its last unit tells as well
  more : (u : ℕ) → tells_some (lies ++ lie ∷ []) u ≡ (tells_some lies u || nat_eq t u)
  more u = tells_some-push lies lie u ∙ ap (λ b. tells_some lies u || b) (last u)

  -- one that has told before is none more
  pub teller_again : has tellers t ≡ true → AreTellers units (lies ++ lie ∷ []) tellers
  teller_again again =
      let same : (u : ℕ) → tells_some (lies ++ lie ∷ []) u ≡ tells_some lies u = λ u. more u ∙ kept u in record {
        each = λ u. are.each u ∙ sym (same u);
        count = are.count ∙ sym (count-same (tells_some lies) (tells_some (lies ++ lie ∷ [])) (range_with_len 0 units) same);
      }
    where
      kept : (u : ℕ) → (tells_some lies u || nat_eq t u) ≡ tells_some lies u
      kept u = elim (cases_Bool (nat_eq t u)) [
        | inl same ↦
            let told : tells_some lies u ≡ true = ap (tells_some lies) (sym (eqb-true t u same)) ∙ sym (are.each t) ∙ again in rw told
        | inr other ↦ rw other (or_false (tells_some lies u))
      ]

  -- another is one more
  pub teller_new : has tellers t ≡ false → AreTellers units (lies ++ lie ∷ []) (tellers ++ t ∷ [])
  teller_new new =
      record {
        each = λ u. has-push tellers t u ∙ ap (λ b. b || nat_eq t u) (are.each u) ∙ sym (more u);
        count =
            let wider = count-wider (tells_some lies) (tells_some (lies ++ lie ∷ [])) t (range_with_len 0 units) (sym (are.each t) ∙ new) more in
            omega (arith, wider, once units t low, are.count, length-append tellers (t ∷ []));
      }

-- ---- the lies that the code holds

-- the first of them with one more
one_more : (lies : List Lie) (i : ℕ) (lie : Lie) → i < length lies → lie ≡ get_or lies i lie → take (i + 1) (map lie_of lies) ≡ take i (map lie_of lies) ++ lie_of lie ∷ []
one_more lies i lie low is =
    let here : get_or (map lie_of lies) i (lie_of lie) ≡ lie_of lie = get_or-map lie_of lies i lie (lie_of lie) low ∙ ap lie_of (sym is) in
    take_more (map lie_of lies) i (lie_of lie) (rw length-map low) ∙ ap (λ y. take i (map lie_of lies) ++ y ∷ []) here

module _ (units m : ℕ) (lies : List Lie) (paths : All (λ (lie : Lie). IsPath units m lie.path.items) lies) (i : ℕ) (lie : Lie) (low : i < length lies)
    (is : lie ≡ get_or lies i lie) (t : ℕ) (t_is : t ≡ get_or lie.path.items (length lie.path.items - 1) 0)
    (tellers : List ℕ) (are : AreTellers units (take i (map lie_of lies)) tellers) where
  -- the lie that a loop takes has a path
  path : IsPath units m lie.path.items
  path = subst (λ (l : Lie). IsPath units m l.path.items) (sym is) (paths i lie low)

  -- whose last unit is one of the units
  last_low : t < units
  last_low =
      let within : length lie.path.items - 1 < length lie.path.items = omega (arith, path.some) in
      subst (λ u. u < units) (sym t_is) (path.below (length lie.path.items - 1) 0 within)

  last : (u : ℕ) → stands_last u lie.path.items ≡ nat_eq t u
  last u =
      let long : suc (length lie.path.items - 1) ≡ length lie.path.items = omega (arith, path.some) in
      stands_last-at u lie.path.items (length lie.path.items - 1) 0 long ∙ ap (λ x. nat_eq x u) (sym t_is)

  -- it told before, or is one more
  pub told_again : has tellers t ≡ true → AreTellers units (take (i + 1) (map lie_of lies)) tellers
  told_again again =
      subst (λ ls. AreTellers units ls tellers) (sym (one_more lies i lie low is))
      (teller_again units t last_low (take i (map lie_of lies)) (lie_of lie) last tellers are again)

  -- a unit that no lie before this one has last is one teller more
  pub told_first : has tellers t ≡ false → AreTellers units (take (i + 1) (map lie_of lies)) (tellers ++ t ∷ [])
  told_first new =
      subst (λ ls. AreTellers units ls (tellers ++ t ∷ [])) (sym (one_more lies i lie low is))
      (teller_new units t last_low (take i (map lie_of lies)) (lie_of lie) last tellers are new)
