-- Catches by their ways, as the list that a line tells, and back.
use Rattle.std.proofs.Common.{◌≡◌, ℕ, ◌<◌, ◌≤◌, List, [], ◌∷◌, length, map, Bool, true, false, ◌&&◌, ◌||◌, nat_eq, eqb-true, ◌+◌, take, get_or, inl, inr, refl, sym, ap, ◌∙◌, arith}
use Rattle.std.specs.FinSet as set
use Rattle.std.specs.List.{All, list_any}
use Rattle.std.specs.Ordering.{nat_cmp}
use mathlib.Core.Bool.{beq}
use Rattle.std.specs.Bool.{Decides}
use Rattle.std.proofs.lemmas.Bool.{cases_Bool}
use Rattle.std.proofs.lemmas.Bool.Decides.{Decides-and, Decides-eqb, Decides-like}
use Rattle.std.proofs.lemmas.Cmp.{nat_cmp_total}
use Rattle.std.proofs.lemmas.List.{length-map}
use Rattle.std.proofs.lemmas.List.Folds.{list_any_more}
use Rattle.std.proofs.lemmas.List.Elements.{All-cons, All-head, All-map, All-nil, All-tail}
use Rattle.std.proofs.lemmas.Simd.{map-map}
use Rattle.sift_base.specs.Units.{Units, AreUnits, has, holds, members, unit_numbers}
use Rattle.sift_base.specs.laws.ReadBack.{has-filter, has_low}
use Rattle.sift_base.specs.laws.Counts.{has-head, has-tail, nat_eq-swap}
use Rattle.sift_base.specs.laws.Sets.{holds-insert, few_members}
use Rattle.sift_exec.specs.Conviction.{everyone_in, has_kind, kinds_of}
use Rattle.sift_exec.specs.declared.catches.Catches.{Catches}
use Rattle.sift_exec.specs.declared.catches.Kind.{Kind}
use Rattle.sift_exec.specs.declared.catches.Kind.TheVariants.{Poll, Relay, Clock}
use Rattle.sift_exec.specs.declared.catches.Kinds.{Kinds}
use Rattle.sift_exec.specs.laws.Everyone.{holds-everyone}
use Rattle.sift_line.specs.Bad.{AreTold, IsCatch, IsSomeKind, IsToldBy, catch_of, catches_in, IsBad, catch_text, caught_text}
use Rattle.sift_line.specs.declared.catch.Catch.{Catch}
use Rattle.sift_line.specs.declared.catch.Bad.TheVariants.{ByKind}
use Rattle.sift_line.specs.Part.{list_text}

-- ---- everyone who was caught

-- what holds of each unit of a list holds of all
all_of : (P : ℕ → Type 0) (us : List ℕ) → ((u : ℕ) → has us u ≡ true → P u) → All P us
all_of P [] each = All-nil P
all_of P (u ∷ us) each = All-cons P u us (each u (has-head u us)) (all_of P us (λ v there. each v (has-tail u us v there)))

-- the list of a set of units has its members
pub in_members : (units : Units) → AreUnits units → (v : ℕ) → has (members units) v ≡ holds units v
unfolding members
in_members units are v = has-filter (holds units) unit_numbers v ∙ elim (cases_Bool (holds units v)) [
  | inl t ↦ rw t (has_low v (are v t))
  | inr f ↦ rw f refl
]

some_of : (a b c : Bool) → ((a || b) || c) ≡ true → (a || (b || c)) ≡ true
some_of true b c t = refl
some_of false b c t = t

-- who was caught was caught in some way
pub some_kind : (caught : Catches) (v : ℕ) → holds (everyone_in caught) v ≡ true → IsSomeKind (kinds_of caught v)
some_kind caught v there = some_of (holds caught.poll v) (holds caught.relay v) (holds caught.clock v) (sym (holds-everyone caught v) ∙ there)

or_elim : (P : Type 0) (a b c : Bool) → (a ≡ true → P) → (b ≡ true → P) → (c ≡ true → P) → (a || (b || c)) ≡ true → P
or_elim P true b c x y z t = x refl
or_elim P false true c x y z t = y refl
or_elim P false false c x y z t = z t

-- where the units that were caught in each way are units, so is each that was caught in some way
pub everyone_units : (caught : Catches) → IsBad (ByKind caught) → AreUnits (everyone_in caught)
everyone_units caught are v there = or_elim (v < 8) _ _ _ (are.0 v) (are.1 v) (are.2 v) (some_kind caught v there)

-- each of the list is a catch
pub all_catches : (caught : Catches) → IsBad (ByKind caught) → All IsCatch (catches_in caught)
all_catches caught are =
    All-map IsCatch (catch_of caught) (members (everyone_in caught)) (all_of (λ u. IsCatch (catch_of caught u)) (members (everyone_in caught)) (λ u there.
    let caught_so = sym (in_members (everyone_in caught) (everyone_units caught are) u) ∙ there in
    (everyone_units caught are u caught_so, some_kind caught u caught_so)))

-- they are listed as a line tells them
pub catches_are : (caught : Catches) → list_text (map catch_text (catches_in caught)) ≡ caught_text (ByKind caught)
catches_are caught = ap list_text (map-map catch_text (catch_of caught) (members (everyone_in caught)))

-- there are at most eight catches
pub few_catches : (caught : Catches) → length (catches_in caught) ≤ 8
few_catches caught = let few = few_members (everyone_in caught) in omega (arith, few, length-map (members (everyone_in caught)) (catch_of caught))

-- ---- a list, as it is made and read

-- a unit and ways
abbrev pub catch_with : ℕ → Kinds → Catch
catch_with u kinds = record { unit = u; kinds = kinds }

-- an empty list tells no unit
pub none_told : (kind : Kind) → AreTold [] kind set.empty
none_told kind v = set.contains-empty nat_cmp v

or_moved : (a b c : Bool) → a ≡ b → (a || c) ≡ (c || (b && true))
or_moved true b c same = rw (sym same) (or_true c)
  where
    or_true : (b : Bool) → true ≡ (b || true)
    or_true true = refl
    or_true false = refl
or_moved false b c same = rw (sym same) (or_nothing c)
  where
    or_nothing : (b : Bool) → b ≡ (b || false)
    or_nothing true = refl
    or_nothing false = refl

-- one catch more, in this way
pub one_told_more : (list : List Catch) (k : ℕ) (c : Catch) (kind : Kind) (units new : Units) → AreTold (take k list) kind units
    → k < length list → c ≡ get_or list k c → has_kind c.kinds kind ≡ true → new ≡ set.insert units c.unit → AreTold (take (k + 1) list) kind new
one_told_more list k c kind units new so_far there at so is v =
    ap (λ s. holds s v) is ∙ (holds-insert units c.unit v ∙ (or_moved (nat_eq v c.unit) (nat_eq c.unit v) (holds units v) (nat_eq-swap v c.unit)
    ∙ (ap (λ b. holds units v || (nat_eq c.unit v && b)) (sym so)
    ∙ (ap (λ b. b || (nat_eq c.unit v && has_kind c.kinds kind)) (so_far v)
    ∙ (ap (λ x. list_any (λ y. nat_eq y.unit v && has_kind y.kinds kind) (take k list) || (nat_eq x.unit v && has_kind x.kinds kind)) at
    ∙ sym (list_any_more (λ y. nat_eq y.unit v && has_kind y.kinds kind) list k c there))))))

or_nothing : (a b : Bool) → a ≡ (a || (b && false))
or_nothing true b = refl
or_nothing false true = refl
or_nothing false false = refl

-- and in none
pub none_told_more : (list : List Catch) (k : ℕ) (c : Catch) (kind : Kind) (units : Units) → AreTold (take k list) kind units
    → k < length list → c ≡ get_or list k c → has_kind c.kinds kind ≡ false → AreTold (take (k + 1) list) kind units
none_told_more list k c kind units so_far there at so v =
    or_nothing (holds units v) (nat_eq c.unit v)
    ∙ (ap (λ b. holds units v || (nat_eq c.unit v && b)) (sym so)
    ∙ (ap (λ b. b || (nat_eq c.unit v && has_kind c.kinds kind)) (so_far v)
    ∙ (ap (λ x. list_any (λ y. nat_eq y.unit v && has_kind y.kinds kind) (take k list) || (nat_eq x.unit v && has_kind x.kinds kind)) at
    ∙ sym (list_any_more (λ y. nat_eq y.unit v && has_kind y.kinds kind) list k c there))))

-- ---- lists compared

-- truth values compared
same_truth : (a b : Bool) → Decides (beq a b) (a ≡ b)
same_truth true true = ((λ t. refl), (λ e. refl))
same_truth true false = ((λ t. absurd cc), (λ e. absurd cc))
same_truth false true = ((λ t. absurd cc), (λ e. absurd cc))
same_truth false false = ((λ t. refl), (λ e. refl))

-- catches compared, field by field
abbrev same_catch : Catch → Catch → Bool
same_catch a b =
    nat_eq a.unit b.unit && (beq a.kinds.poll b.kinds.poll && (beq a.kinds.relay b.kinds.relay && beq a.kinds.clock b.kinds.clock))

-- the comparison of two catches, field by field, says just whether they are one
pub catch_decides : (a b : Catch) → Decides (same_catch a b) (a ≡ b)
catch_decides a b =
    let all = Decides-and _ _ (Decides-eqb a.unit b.unit) (Decides-and _ _ (same_truth a.kinds.poll b.kinds.poll)
    (Decides-and _ _ (same_truth a.kinds.relay b.kinds.relay) (same_truth a.kinds.clock b.kinds.clock))) in
    Decides-like (same_catch a b)
    (λ same i. record { unit = same.0 i; kinds = record { poll = same.1.0 i; relay = same.1.1.0 i; clock = same.1.1.1 i } })
    (λ e. (ap (λ c. c.unit) e, (ap (λ c. c.kinds.poll) e, (ap (λ c. c.kinds.relay) e, ap (λ c. c.kinds.clock) e)))) all

-- ---- and back

and_or : (a b : Bool) → (a || (b && a)) ≡ a
and_or true b = refl
and_or false true = refl
and_or false false = refl

-- the list tells a unit in a way where it is one of them, and was caught so
any_listed : (caught : Catches) (kind : Kind) (us : List ℕ) (v : ℕ) →
    list_any (λ c. nat_eq c.unit v && has_kind c.kinds kind) (map (catch_of caught) us) ≡ (has us v && has_kind (kinds_of caught v) kind)
any_listed caught kind [] v = refl
any_listed caught kind (u ∷ us) v = elim (cases_Bool (nat_eq u v)) [
  | inl t ↦
      let e : u ≡ v = eqb-true u v t in
      rw t (ap (λ b. has_kind (kinds_of caught u) kind || b) (any_listed caught kind us v)
      ∙ (ap (λ w. has_kind (kinds_of caught w) kind || (has us v && has_kind (kinds_of caught v) kind)) e
      ∙ and_or (has_kind (kinds_of caught v) kind) (has us v)))
  | inr f ↦ rw f (any_listed caught kind us v)
]

within : (a b : Bool) → (b ≡ true → a ≡ true) → (a && b) ≡ b
within a true inside = rw (inside refl) refl
within true false inside = refl
within false false inside = refl

-- so the units that it tells in a way are those that were caught so
list_tells_way : (caught : Catches) (kind : Kind) (units : Units) → AreUnits (everyone_in caught)
    → ((v : ℕ) → has_kind (kinds_of caught v) kind ≡ holds units v)
    → ((v : ℕ) → holds units v ≡ true → holds (everyone_in caught) v ≡ true)
    → AreTold (catches_in caught) kind units
list_tells_way caught kind units are same inside v = sym (any_listed caught kind (members (everyone_in caught)) v
    ∙ (ap (λ b. b && has_kind (kinds_of caught v) kind) (in_members (everyone_in caught) are v)
    ∙ (ap (λ b. holds (everyone_in caught) v && b) (same v) ∙ within (holds (everyone_in caught) v) (holds units v) (inside v))))

or_left : (a b c : Bool) → a ≡ true → ((a || b) || c) ≡ true
or_left true b c t = refl
or_left false b c t = absurd cc

or_middle : (a b c : Bool) → b ≡ true → ((a || b) || c) ≡ true
or_middle true b c t = refl
or_middle false true c t = refl
or_middle false false c t = absurd cc

or_right : (a b c : Bool) → c ≡ true → ((a || b) || c) ≡ true
or_right true b c t = refl
or_right false true c t = refl
or_right false false c t = t

-- the list of catches tells them
pub list_tells : (caught : Catches) → IsBad (ByKind caught) → IsToldBy (catches_in caught) caught
list_tells caught are =
    let all = everyone_units caught are in record {
      poll = list_tells_way caught Poll caught.poll all (λ v. refl)
          (λ v t. holds-everyone caught v ∙ or_left (holds caught.poll v) (holds caught.relay v) (holds caught.clock v) t);
      relay = list_tells_way caught Relay caught.relay all (λ v. refl)
          (λ v t. holds-everyone caught v ∙ or_middle (holds caught.poll v) (holds caught.relay v) (holds caught.clock v) t);
      clock = list_tells_way caught Clock caught.clock all (λ v. refl)
          (λ v t. holds-everyone caught v ∙ or_right (holds caught.poll v) (holds caught.relay v) (holds caught.clock v) t);
    }

-- a list tells one set of units in each way
one_set : (list : List Catch) (kind : Kind) (units told : Units) → AreTold list kind units → AreTold list kind told → told ≡ units
one_set list kind units told are by = set.same_set nat_cmp_total set.nat_cmp-IsAntisymmetric told units (λ v. by v ∙ sym (are v))

-- so it tells one record of catches
pub one_told : (list : List Catch) (caught told : Catches) → IsToldBy list caught → IsToldBy list told → told ≡ caught
one_told list caught told are by =
    let poll = one_set list Poll caught.poll told.poll are.poll by.poll in
    let relay = one_set list Relay caught.relay told.relay are.relay by.relay in
    let clock = one_set list Clock caught.clock told.clock are.clock by.clock in
    λ i. record { poll = poll i; relay = relay i; clock = clock i }

-- what the list of the catches tells is those catches
pub caught_again : (caught told : Catches) → IsBad (ByKind caught) → IsToldBy (catches_in caught) told → told ≡ caught
caught_again caught told are by = one_told (catches_in caught) caught told (list_tells caught are) by

-- a unit that a list of catches tells is one
told_unit : (list : List Catch) (kind : Kind) (u : ℕ) → All IsCatch list → list_any (λ c. nat_eq c.unit u && has_kind c.kinds kind) list ≡ true → u < 8
told_unit [] kind u all told = cc
told_unit (c ∷ list) kind u all told = elim (cases_Bool (nat_eq c.unit u)) [
  | inl own ↦ let same = eqb-true c.unit u own in let few = (All-head IsCatch c list all).0 in omega arith
  | inr other ↦ told_unit list kind u (All-tail IsCatch c list all) (rw other at told)
]

-- so are all that a list of catches tells in one way
told_units : (list : List Catch) (kind : Kind) (units : Units) → All IsCatch list → AreTold list kind units → AreUnits units
told_units list kind units all told u there = told_unit list kind u all (sym (told u) ∙ there)

-- and all that it tells
pub told_bad : (list : List Catch) (caught : Catches) → All IsCatch list → IsToldBy list caught → IsBad (ByKind caught)
told_bad list caught all told =
    (told_units list Poll caught.poll all told.poll, told_units list Relay caught.relay all told.relay, told_units list Clock caught.clock all told.clock)
