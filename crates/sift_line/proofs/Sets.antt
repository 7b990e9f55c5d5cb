-- Sets of units and configurations as lists of ascending units, and back.
use Rattle.std.proofs.Common.{◌≡◌, ℕ, zero, suc, ◌+◌, ◌<◌, ◌≤◌, List, [], ◌∷◌, ◌++◌, length, take, get_or, nat_eq, Bool, true, false}
use Rattle.std.proofs.Common.{◌||◌, inl, inr, refl, sym, ap, ◌∙◌, arith}
use Rattle.std.specs.FinSet as set
use Rattle.std.specs.Ordering.{nat_cmp}
use Rattle.std.specs.List.{filter, range_with_len}
use Rattle.std.proofs.lemmas.Bool.{cases_Bool, cases_eq, eqb-true, ne_eqb}
use Rattle.std.proofs.lemmas.List.{take_more}
use Rattle.sift_base.specs.Units.{Units, AreUnits, IsAscending, has, holds, members, unit_limit, unit_numbers}
use Rattle.sift_base.specs.laws.ReadBack.{has-filter, set-members}
use Rattle.sift_base.specs.laws.Counts.{has-head, has-tail, nat_eq-swap, filter_same}
use Rattle.sift_base.specs.laws.Sets.{below_has, holds-insert}
use Rattle.sift_config.specs.Config.{IsConfig}
use Rattle.sift_line.specs.Part.{AscendFrom}

-- ---- ascending lists

-- what stands in ascending units is at least the first that may be, and a unit
pub ascend_has : (least : ℕ) (us : List ℕ) (v : ℕ) → AscendFrom least us → has us v ≡ true → (least ≤ v) × (v < unit_limit)
ascend_has least [] v up there = absurd cc
ascend_has least (u ∷ us) v up there = elim (cases_Bool (nat_eq u v)) [
  | inl same ↦ let e = eqb-true u v same in (omega (arith, up.0), omega (arith, up.1))
  | inr other ↦ let rest = ascend_has (u + 1) us v up.2 (rw other at there) in (omega (arith, rest.0, up.0), rest.1)
]

-- units that ascend from one on ascend from each lower one
ascend_lower : (low least : ℕ) (us : List ℕ) → low ≤ least → AscendFrom least us → AscendFrom low us
ascend_lower low least [] below up = tt
ascend_lower low least (u ∷ us) below up = (omega (arith, up.0), up.1, up.2)

-- the numbers from one on that pass a test ascend
pub passing_up : (passes : ℕ → Bool) (n a : ℕ) → a + n ≡ unit_limit → AscendFrom a (filter passes (range_with_len a n))
passing_up passes zero a sum = tt
passing_up passes (suc n) a sum =
    let rest = passing_up passes n (a + 1) (omega arith) in
    elim (cases_Bool (passes a)) [
      | inl t ↦ rw t (omega arith, omega arith, rest)
      | inr f ↦ rw f (ascend_lower a (a + 1) (filter passes (range_with_len (a + 1) n)) (omega arith) rest)
    ]

-- an ascending configuration ascends from the first unit on
pub up_from : (least : ℕ) (us : List ℕ) → IsAscending us → ((u : ℕ) → has us u ≡ true → (least ≤ u) × (u < unit_limit)) → AscendFrom least us
up_from least [] up inside = tt
up_from least (u ∷ us) up inside =
    let here = inside u (has-head u us) in
    (here.0, here.1, up_from (u + 1) us up.1 (λ v there. (omega (arith, below_has u us v up.0 there), (inside v (has-tail u us v there)).1)))

-- the units of a configuration ascend, from 0 or a later one
pub config_up : (us : List ℕ) → IsConfig us → AscendFrom 0 us
config_up us config = up_from 0 us config.ascending (λ u there. (omega arith, config.inside u there))

-- a first unit that is above a number isn't it
not_head : (u v : ℕ) (us : List ℕ) → u < v → has (u ∷ us) v ≡ has us v
not_head u v us less = rw (ne_eqb u v (λ e. absurd (omega arith))) refl

-- each of the numbers from one on is at least that one
numbers_from : (a n v : ℕ) → a + n ≡ unit_limit → has (range_with_len a n) v ≡ true → a ≤ v
numbers_from a n v sum within =
    (ascend_has a (filter (λ w. true) (range_with_len a n)) v (passing_up (λ w. true) n a sum) (has-filter (λ w. true) (range_with_len a n) v ∙ within)).0

-- the numbers from one on that stand in ascending units are those units
among_range : (n a : ℕ) (us : List ℕ) → AscendFrom a us → a + n ≡ unit_limit → filter (has us) (range_with_len a n) ≡ us
among_range zero a [] up sum = refl
among_range zero a (u ∷ us) up sum = absurd (omega (arith, up.0, up.1))
among_range (suc n) a [] up sum = among_range n (a + 1) [] tt (omega arith)
among_range (suc n) a (u ∷ us) up sum = elim (cases_eq a u) [
  | inl same ↦
      let there : has (u ∷ us) a ≡ true = ap (λ v. has (u ∷ us) v) same ∙ has-head u us in
      let others = filter_same (has (u ∷ us)) (has us) (range_with_len (a + 1) n) (λ v within. not_head u v us (omega (arith, (numbers_from (a + 1) n v (omega arith) within)))) in
      let rest = among_range n (a + 1) us (ascend_lower (a + 1) (u + 1) us (omega arith) up.2) (omega arith) in
      let first : filter (has (u ∷ us)) (range_with_len a (suc n)) ≡ a ∷ filter (has (u ∷ us)) (range_with_len (a + 1) n) = rw there refl in
      first ∙ ap (λ vs. a ∷ vs) (others ∙ rest) ∙ ap (λ v. v ∷ us) same
  | inr other ↦
      let away : has (u ∷ us) a ≡ false = elim (cases_Bool (has (u ∷ us) a)) [
        | inl t ↦ absurd (omega (arith, up.0, (ascend_has u (u ∷ us) a (omega arith, up.1, up.2) t).0))
        | inr f ↦ f
      ] in
      let rest = among_range n (a + 1) (u ∷ us) (omega (arith, up.0), up.1, up.2) (omega arith) in
      let first : filter (has (u ∷ us)) (range_with_len a (suc n)) ≡ filter (has (u ∷ us)) (range_with_len (a + 1) n) = rw away refl in
      first ∙ rest
]

-- ---- sets

-- the members of a set that holds just ascending units are these
pub members_of_list : (units : Units) (us : List ℕ) → AscendFrom 0 us → ((u : ℕ) → holds units u ≡ has us u) → members units ≡ us
unfolding members
members_of_list units us up same = filter_same (holds units) (has us) unit_numbers (λ u there. same u) ∙ among_range 8 0 us up refl

-- and all of them are units
pub units_of_list : (units : Units) (us : List ℕ) → AscendFrom 0 us → ((u : ℕ) → holds units u ≡ has us u) → AreUnits units
units_of_list units us up same u there = (ascend_has 0 us u up (sym (same u) ∙ there)).1

-- the members of a set ascend
pub members_up : (units : Units) → AscendFrom 0 (members units)
unfolding members
members_up units = passing_up (holds units) 8 0 refl

-- sets of units with the same members are one set
pub same_members : (one other : Units) → AreUnits one → AreUnits other → members one ≡ members other → one ≡ other
same_members one other are_one are_other same =
    sym (set-members one are_one) ∙ ap (λ us. set.from_list {R = nat_cmp} us) same ∙ set-members other are_other

or_swap : (a b c : Bool) → (a || (b || c)) ≡ (b || (a || c))
or_swap true true c = refl
or_swap true false c = refl
or_swap false true c = refl
or_swap false false c = refl

-- a list with one unit more
has-push : (us : List ℕ) (u v : ℕ) → has (us ++ u ∷ []) v ≡ (nat_eq v u || has us v)
has-push [] u v = ap (λ b. b || false) (nat_eq-swap u v)
has-push (w ∷ us) u v = ap (λ b. nat_eq w v || b) (has-push us u v) ∙ or_swap (nat_eq w v) (nat_eq v u) (has us v)

-- a set with one unit more
pub more_held : (units new : Units) (us : List ℕ) (k u : ℕ) → ((v : ℕ) → holds units v ≡ has (take k us) v) → new ≡ set.insert units u
    → k < length us → u ≡ get_or us k u → (v : ℕ) → holds new v ≡ has (take (k + 1) us) v
more_held units new us k u so_far is there at v =
    ap (λ s. holds s v) is ∙ holds-insert units u v ∙ ap (λ b. nat_eq v u || b) (so_far v) ∙ sym (has-push (take k us) u v)
    ∙ ap (λ x. has (take k us ++ x ∷ []) v) at ∙ ap (λ xs. has xs v) (sym (take_more us k u there))
