-- The margin, the skew and the slack of a frame are told as they are.
use Rattle.std.proofs.Common.{◌≡◌, ℕ, zero, suc, ◌+◌, ◌<◌, ◌≤◌, List, [], ◌∷◌, ◌++◌, fold, true, false, Option, None, Some, length, take}
use Rattle.std.proofs.Common.{get_or, ℤ, pos, to_z, of_z, w64, ◌-ℤ◌, inl, inr, refl, sym, ap, subst, ◌∙◌, arith}
use Rattle.std.specs.Prelude.{◌≤ℤ◌, count_by, nat_le, map, MatchOption}
use Rattle.std.specs.Int.{int_max, int_min}
use Rattle.std.specs.List.{Contains}
use Rattle.std.proofs.lemmas.Bool.{cases_eq, le-leb, leb-true, and_from, and_parts}
use Rattle.std.proofs.lemmas.Int.{ints, fold-int_max_bounds, fold-int_max_reached, fold-int_min_bounds, fold-int_min_reached}
use Rattle.std.proofs.lemmas.List.Elements.{All-cons, All-push, Contains-from_at, at_from_Contains}
use Rattle.std.proofs.lemmas.List.{map_more}
use Rattle.sift_base.specs.Units.{HasMargin, faulty_count}
use Rattle.sift_clock.specs.Distance.{IsWithin}
use Rattle.sift_skew.specs.Limits.{offset_limit}
use Rattle.sift_skew.specs.Figures.{AreInRange, IsHighest, IsLowest, IsSkew, IsSlack}
use Rattle.sift_skew.specs.laws.Extremes.{skew_from, slack_from}
use Rattle.sift_mission.specs.Data.{FlownMission}
use Rattle.sift_flight.specs.Flight.{Flight}
use Rattle.sift_flight.specs.Figures.{config_at, MarginIsTold, SkewIsTold, SlackIsTold, is_sound_at, margin_before, skew_of, slack_of}

-- ---- margin

module _ (m : FlownMission) (fl : Flight) where
  -- a sound configuration has margin, and one with margin is sound
  sound_has : (f : ℕ) → is_sound_at m fl f ≡ true → HasMargin (λ u. m.works u f) (config_at m fl f)
  sound_has f sound =
      let two = and_parts (nat_le (faulty_count (λ u. m.works u f) (config_at m fl f)) 1) (nat_le 4 (count_by (λ u. m.works u f) (config_at m fl f))) sound in
      record { few = leb-true _ _ two.0; enough = leb-true _ _ two.1 }

  has_sound : (f : ℕ) → HasMargin (λ u. m.works u f) (config_at m fl f) → is_sound_at m fl f ≡ true
  has_sound f has = and_from _ _ (le-leb _ _ has.few) (le-leb _ _ has.enough)

  -- where all frames before one are sound, each of them has margin
  before_has : (n : ℕ) → margin_before m fl n ≡ true → (g : ℕ) → g < n → HasMargin (λ u. m.works u g) (config_at m fl g)
  before_has zero all g low = absurd (omega arith)
  before_has (suc n) all g low =
      let two = and_parts (margin_before m fl n) (is_sound_at m fl n) all in
      elim (cases_eq g n) [
        | inl same ↦ subst (λ k. HasMargin (λ u. m.works u k) (config_at m fl k)) (sym same) (sound_has n two.1)
        | inr other ↦ before_has n two.0 g (omega arith)
      ]

  has_before : (n : ℕ) → ((g : ℕ) → g < n → HasMargin (λ u. m.works u g) (config_at m fl g)) → margin_before m fl n ≡ true
  has_before zero each = refl
  has_before (suc n) each = and_from _ _ (has_before n (λ g low. each g (omega arith))) (has_sound n (each n (omega arith)))

  -- a margin that is lost stays lost
  pub stays_lost : (n later : ℕ) → n ≤ later → margin_before m fl n ≡ false → margin_before m fl later ≡ false
  stays_lost n zero early lost = let none : n ≡ 0 = omega arith in subst (λ k. margin_before m fl k ≡ false) none lost
  stays_lost n (suc later) early lost = elim (cases_eq n (suc later)) [
    | inl same ↦ subst (λ k. margin_before m fl k ≡ false) same lost
    | inr other ↦ rw (stays_lost n later (omega arith) lost) refl
  ]

-- a frame is told to have margin just where it has it
pub margin_is_told : MarginIsTold
margin_is_told m fl f =
    ((λ told g low. before_has m fl (suc f) told g (omega arith)), (λ has. has_before m fl (suc f) (λ g low. has g (omega arith))))

-- ---- the highest and the lowest offset

-- the first of some numbers is among them, and so is each of the others
contains-first : (p : ℤ) (ps : List ℤ) → Contains (p ∷ ps) p
contains-first p ps = Contains-from_at (p ∷ ps) p (0, omega arith, λ d. refl)

contains-later : (p : ℤ) (ps : List ℤ) (z : ℤ) → Contains ps z → Contains (p ∷ ps) z
contains-later p ps z among =
    let at = at_from_Contains ps z among in
    Contains-from_at (p ∷ ps) z (suc at.0, omega (arith, at.1), at.2)

-- a bound that is reached is the highest
highest_of : (p : ℤ) (ps : List ℤ) → IsHighest (p ∷ ps) (fold int_max p ps)
highest_of p ps =
    let bounds = fold-int_max_bounds p ps (fold int_max p ps) refl in
    record {
      among = elim (fold-int_max_reached p ps (fold int_max p ps) refl) [
        | inl first ↦ subst (Contains (p ∷ ps)) (sym first) (contains-first p ps)
        | inr later ↦ contains-later p ps (fold int_max p ps) later
      ];
      above = All-cons (λ offset. offset ≤ℤ fold int_max p ps) p ps bounds.0 bounds.1;
    }

lowest_of : (p : ℤ) (ps : List ℤ) → IsLowest (p ∷ ps) (fold int_min p ps)
lowest_of p ps =
    let bounds = fold-int_min_bounds p ps (fold int_min p ps) refl in
    record {
      among = elim (fold-int_min_reached p ps (fold int_min p ps) refl) [
        | inl first ↦ subst (Contains (p ∷ ps)) (sym first) (contains-first p ps)
        | inr later ↦ contains-later p ps (fold int_min p ps) later
      ];
      below = All-cons (λ offset. fold int_min p ps ≤ℤ offset) p ps bounds.0 bounds.1;
    }

-- ---- skew and slack

pub skew_is : (p : ℤ) (ps : List ℤ) → IsSkew (p ∷ ps) (fold int_max p ps -ℤ fold int_min p ps)
skew_is p ps = skew_from (p ∷ ps) _ _ (highest_of p ps) (lowest_of p ps)

pub slack_is : (length p : ℤ) (ps next : List ℤ) → IsSlack length (p ∷ ps) next (length -ℤ (fold int_max p (ps ++ next) -ℤ fold int_min p ps))
slack_is length p ps next = slack_from length (p ∷ ps) next _ _ (highest_of p (ps ++ next)) (lowest_of p ps)

-- two skews of the same offsets are one
one_skew : (offsets : List ℤ) (a b : ℤ) → IsSkew offsets a → IsSkew offsets b → a ≡ b
one_skew offsets a b is_a is_b =
    let at_a = is_a.attained in
    let at_b = is_b.attained in
    omega (arith, ints, at_a.4, at_b.4, is_a.largest at_b.0 at_b.1 at_b.2 at_b.3, is_b.largest at_a.0 at_a.1 at_a.2 at_a.3)

one_slack : (length : ℤ) (now next : List ℤ) (a b : ℤ) → IsSlack length now next a → IsSlack length now next b → a ≡ b
one_slack length now next a b is_a is_b =
    let at_a = is_a.attained in
    let at_b = is_b.attained in
    omega (arith, ints, at_a.4, at_b.4, is_a.least at_b.0 at_b.1 at_b.2 at_b.3, is_b.least at_a.0 at_a.1 at_a.2 at_a.3)

-- nothing is among no offsets
none_among : (z : ℤ) → Contains [] z → ⊥
none_among z among = omega (arith, among.1)

-- the skew of offsets is told as it is, and none is told just where there is no offset
pub skew_is_told : SkewIsTold
skew_is_told [] = ((λ skew. ((λ e. absurd cc), (λ is. absurd (none_among _ is.attained.2)))), ((λ e. refl), (λ e. refl)))
skew_is_told (p ∷ ps) = (
  (λ skew. (
    (λ e. let same : fold int_max p ps -ℤ fold int_min p ps ≡ skew = (cc) in subst (IsSkew (p ∷ ps)) same (skew_is p ps)),
    (λ is. ap Some (one_skew (p ∷ ps) _ skew (skew_is p ps) is)),
  )),
  ((λ e. absurd cc), (λ e. absurd cc)),
)

-- the slack of a frame's offsets is told as it is, and none is told just where there is no offset
pub slack_is_told : SlackIsTold
slack_is_told length [] next = ((λ slack. ((λ e. absurd cc), (λ is. absurd (none_among _ is.attained.2)))), ((λ e. refl), (λ e. refl)))
slack_is_told length (p ∷ ps) next = (
  (λ slack. (
    (λ e. let same : length -ℤ (fold int_max p (ps ++ next) -ℤ fold int_min p ps) ≡ slack = (cc) in
        subst (IsSlack length (p ∷ ps) next) same (slack_is length p ps next)),
    (λ is. ap Some (one_slack length (p ∷ ps) next _ slack (slack_is length p ps next) is)),
  )),
  ((λ e. absurd cc), (λ e. absurd cc)),
)

-- ---- figures that are found

-- no number comes of no unit alone
mapped : {X : Type 0} (f : ℕ → ℤ) (us : List ℕ) (r : Option X) (P : X → Type 0) → MatchOption r (map f us ≡ []) P → MatchOption r (us ≡ []) P
mapped f [] None P h = refl
mapped f (u ∷ us) None P h = absurd cc
mapped f us (Some x) P h = h

module _ (f : ℕ → ℤ) (us : List ℕ) (r : Option ℤ) where
  -- the skew that is found of units' offsets is the one that is told
  pub skew_found : MatchOption r (map f us ≡ []) (IsSkew (map f us)) → r ≡ skew_of (map f us)
  skew_found h = elim r as (λ r. MatchOption r (map f us ≡ []) (IsSkew (map f us)) → r ≡ skew_of (map f us)) [
    | None ↦ λ none. sym ((skew_is_told (map f us)).1.1 none)
    | Some skew ↦ λ is. sym (((skew_is_told (map f us)).0 skew).1 is)
  ] h

  -- a skew that is missing only for want of offsets is missing only for want of units
  pub skew_of_units : MatchOption r (map f us ≡ []) (IsSkew (map f us)) → MatchOption r (us ≡ []) (IsSkew (map f us))
  skew_of_units h = mapped f us r (IsSkew (map f us)) h

  -- and so is the slack
  module _ (length : ℤ) (next : List ℤ) where
    -- the slack that is found of units' offsets, and those in force next, is the one that is told
    pub slack_found : MatchOption r (map f us ≡ []) (IsSlack length (map f us) next) → r ≡ slack_of length (map f us) next
    slack_found h = elim r as (λ r. MatchOption r (map f us ≡ []) (IsSlack length (map f us) next) → r ≡ slack_of length (map f us) next) [
      | None ↦ λ none. sym ((slack_is_told length (map f us) next).1.1 none)
      | Some slack ↦ λ is. sym (((slack_is_told length (map f us) next).0 slack).1 is)
    ] h

    -- a slack that is missing only for want of offsets is missing only for want of units
    pub slack_of_units : MatchOption r (map f us ≡ []) (IsSlack length (map f us) next) → MatchOption r (us ≡ []) (IsSlack length (map f us) next)
    slack_of_units h = mapped f us r (IsSlack length (map f us) next) h

-- the offset of one unit more, as the code holds it
pub offset_more : (f : ℕ → ℤ) (us : List ℕ) (k u : ℕ) (items new : List ℤ) (z : ℤ) → items ≡ map f (take k us) → AreInRange items
    → new ≡ items ++ to_z w64 (of_z w64 z) ∷ [] → k < length us → u ≡ get_or us k u → z ≡ f u → IsWithin offset_limit z (pos 0)
    → (new ≡ map f (take (k + 1) us)) × AreInRange new
offset_more f us k u items new z so_far near pushed low at is within =
    let held : to_z w64 (of_z w64 z) ≡ z = omega (arith, ints, within.0, within.1) in
    let value : to_z w64 (of_z w64 z) ≡ f (get_or us k u) = held ∙ is ∙ ap f at in (
      pushed ∙ ap (λ xs. xs ++ to_z w64 (of_z w64 z) ∷ []) so_far ∙ ap (λ x. map f (take k us) ++ x ∷ []) value ∙ sym (map_more f us k u low),
      rw pushed (All-push (λ offset. IsWithin offset_limit offset (pos 0)) items (to_z w64 (of_z w64 z)) near (rw held within)),
    )
