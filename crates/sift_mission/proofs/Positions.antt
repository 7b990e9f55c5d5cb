-- Positions of units in a configuration, and how many of them pass a test.
use Rattle.std.proofs.Common.{◌≡◌, ℕ, zero, suc, ◌+◌, ◌<◌, ◌≤◌, List, [], ◌∷◌, length, Bool, true, false, ◌&&◌, inl, inr, refl, sym, ap, ◌∙◌, arith, nat_eq, count_by, zero-add, Some, slice_get}
use Rattle.std.specs.List.{filter, range_with_len}
use Rattle.std.proofs.lemmas.Bool.{cases_Bool, eq-eqb, eqb-true, ne_eqb}
use Rattle.std.proofs.lemmas.List.Sums.{length-filter}
use Rattle.sift_base.specs.Units.{has, IsAscending}
use Rattle.sift_base.specs.laws.Counts.{IsBelowAll, count-same, has-head, has-tail, count-cons}
use Rattle.sift_mission.specs.Flown.{position_in}

-- a unit below all of a list isn't in it
not-below : (u v : ℕ) (us : List ℕ) → IsBelowAll u us → has us v ≡ true → nat_eq u v ≡ false
not-below u v [] below there = absurd cc
not-below u v (w ∷ us) below there = elim (cases_Bool (nat_eq w v)) [
  | inl same ↦ ne_eqb u v (λ e. omega (arith, eqb-true w v same, below.0))
  | inr other ↦ not-below u v us below.1 (rw other at there)
]

-- a unit that a list has has a position in it
pub position-below : (us : List ℕ) (u : ℕ) → has us u ≡ true → position_in us u < length us
position-below [] u there = absurd cc
position-below (v ∷ us) u there = elim (cases_Bool (nat_eq v u)) [
  | inl same ↦ rw same (omega arith)
  | inr other ↦ rw other (omega (arith, position-below us u (rw other at there)))
]

-- of the units of an ascending list as many stand at positions that pass a test as there are such positions
count-positions : (test : ℕ → Bool) (at : ℕ) (us : List ℕ) → IsAscending us
    → count_by (λ u. test (at + position_in us u)) us ≡ count_by test (range_with_len at (length us))
count-positions test at [] up = refl
count-positions test at (v ∷ us) up =
    let here : position_in (v ∷ us) v ≡ 0 = rw (eq-eqb v v refl) refl in
    let first : at + position_in (v ∷ us) v ≡ at = rw here (omega arith) in
    let rest = count-same (λ u. test (at + position_in (v ∷ us) u)) (λ u. test (at + 1 + position_in us u)) us (λ u there. ap test (moved u there)) in
    count-cons (λ u. test (at + position_in (v ∷ us) u)) v us
    ∙ (rw (first, rest, count-positions test (at + 1) us up.1) refl ∙ sym (count-cons test at (range_with_len (at + 1) (length us))))
  where
    moved : (u : ℕ) → has us u ≡ true → at + position_in (v ∷ us) u ≡ at + 1 + position_in us u
    moved u there = rw (not-below v u us up.0 there) (omega arith)

-- so many units of an ascending list are at positions that pass a test
pub positions-filtered : (test : ℕ → Bool) (us : List ℕ) → IsAscending us
    → length (filter (λ u. has us u && test (position_in us u)) us) ≡ count_by test (range_with_len 0 (length us))
positions-filtered test us up =
    length-filter (λ u. has us u && test (position_in us u)) us
    ∙ (count-same (λ u. has us u && test (position_in us u)) (λ u. test (0 + position_in us u)) us (λ u there. rw there (ap test (sym (zero-add (position_in us u)))))
    ∙ count-positions test 0 us up)

-- an ascending list of numbers from a to below b has no more than there are
pub length-ascending : (us : List ℕ) (a b : ℕ) → IsAscending us → a ≤ b → ((u : ℕ) → has us u ≡ true → (a ≤ u) × (u < b)) → length us + a ≤ b
length-ascending [] a b up room within = omega arith
length-ascending (v ∷ us) a b up room within =
    let here = within v (has-head v us) in
    let rest = length-ascending us (v + 1) b up.1 (omega (arith, here.1)) (λ u there. (above v u us up.0 there, (within u (has-tail v us u there)).1)) in
    omega (arith, rest, here.0)
  where
    above : (x y : ℕ) (ws : List ℕ) → IsBelowAll x ws → has ws y ≡ true → x + 1 ≤ y
    above x y [] below there = absurd cc
    above x y (w ∷ ws) below there = elim (cases_Bool (nat_eq w y)) [
      | inl same ↦ omega (arith, eqb-true w y same, below.0)
      | inr other ↦ above x y ws below.1 (rw other at there)
    ]

-- the unit at a place of an ascending list is in it, and has that position
pub position-found : (us : List ℕ) (i u : ℕ) → IsAscending us → slice_get us i ≡ Some u → (has us u ≡ true) × (position_in us u ≡ i)
position-found [] i u up at = absurd cc
position-found (v ∷ us) zero u up at =
    let same : v ≡ u = cc in
    rw (eq-eqb v u same) (refl, refl)
position-found (v ∷ us) (suc i) u up at =
    let rest = position-found us i u up.1 at in
    rw (not-below v u us up.0 rest.0) (rest.0, ap suc rest.1)
