-- The vectors of a plan.
use Rattle.std.proofs.Common.{◌≡◌, ℕ, suc, ◌<◌, ◌≤◌, ◌&&◌, inl, inr, List, [], ◌∷◌, ◌++◌, length, map, reverse, get_or, Bool, true, false, not, nat_eq, Option, None, refl, sym, ap, ◌∙◌, arith}
use Rattle.std.specs.Str.{bytes_eq}
use Rattle.std.proofs.lemmas.Bool.{and_parts, cases_Bool, eqb-true, eqb-false, eq-eqb, not-true, or_parts}
use Rattle.std.proofs.lemmas.List.{reverse-append}
use Rattle.std.proofs.lemmas.List.FromFn.{get_or-map-range_with_len, length-map-range_with_len, length-range_with_len}
use Rattle.std.proofs.lemmas.Slice.Eq.{bytes_eq-Decides}
use Rattle.sift_base.specs.Units.{faulty_count, has, others}
use Rattle.sift_base.specs.laws.Counts.{count-no, count-yes, map-same}
use Rattle.sift_base.specs.laws.Ranges.{has-range, range-low, range-ascends}
use Rattle.sift_vote.specs.Majority.{agreed_of}
use Rattle.sift_byz.specs.Laws.{LoyalValuesAreKept, OneTraitorIsAsInFlights, VectorsAreEqual, VectorsHoldTheEntries}
use Rattle.sift_byz.specs.Plan.{IsSquare, LieData, ByzPlanData, TraitorsAreFew, all_units, entry, first_lie, heard, is_loyal, stands_last, tells_some, traitor_count, value_of, vector, vectors_of}
use Rattle.sift_byz.specs.Relaying.{LoyalUnitsRelay, outside, result_of}
use Rattle.sift_byz.proofs.Outside.{no_more, one_fewer, outside-cons, outside-nil, still_outside, traitor_gone}
use Rattle.sift_byz.proofs.Places.{agreed_one}
use Rattle.sift_byz.proofs.Tellers.{count-same}
use Rattle.sift_byz.proofs.Results.{any_unit_is_agreed_on, loyal_unit_is_believed}

-- ---- lies

-- the unit that is written last stands last
stands_last-append : (u : ℕ) (written : List ℕ) (r : ℕ) → stands_last u (written ++ r ∷ []) ≡ nat_eq r u
stands_last-append u [] r = refl
stands_last-append u (v ∷ []) r = refl
stands_last-append u (v ∷ w ∷ rest) r = stands_last-append u (w ∷ rest) r

-- the last unit of a path stands last in it as it is written
last_written : (written : List ℕ) (r : ℕ) (path : List ℕ) → bytes_eq written (reverse (r ∷ path)) ≡ true → stands_last r written ≡ true
last_written written r path same =
    ap (stands_last r) ((bytes_eq-Decides written (reverse (r ∷ path))).0 same ∙ reverse-append (r ∷ []) path)
    ∙ stands_last-append r (reverse path) r ∙ eq-eqb r r refl

-- no lie comes by a path whose last unit tells none
no_lie : (lies : List LieData) (r : ℕ) (path : List ℕ) (q : ℕ) → tells_some lies r ≡ false → first_lie lies (reverse (r ∷ path)) q ≡ None
no_lie [] r path q none = refl
no_lie (lie ∷ lies) r path q none =
    let parts = or_parts (stands_last r lie.path) (tells_some lies r) none in
    elim (cases_Bool (bytes_eq lie.path (reverse (r ∷ path)) && has lie.to q)) [
      | inl told ↦
          let same = and_parts (bytes_eq lie.path (reverse (r ∷ path))) (has lie.to q) told in
          let last = sym (last_written lie.path r path same.0) ∙ parts.0 in absurd cc
      | inr other ↦ rw other (no_lie lies r path q parts.1)
    ]

-- so loyal units tell all others what they heard themselves
relays : (plan : ByzPlanData) → LoyalUnitsRelay (is_loyal plan) (heard plan)
relays plan r path q r_loyal = rw (no_lie plan.lies r path q (not-true _ r_loyal))

-- ---- the laws

-- the traitors are those that aren't loyal
traitors_are : (plan : ByzPlanData) → faulty_count (is_loyal plan) (all_units plan) ≡ traitor_count plan
traitors_are plan = count-same (tells_some plan.lies) (λ u. not (is_loyal plan u)) (all_units plan) (λ u. twice (tells_some plan.lies u))
  where
    twice : (b : Bool) → not (not b) ≡ b
    twice true = refl
    twice false = refl

-- q's result for the path of s
abbrev result_for : ByzPlanData → (q s : ℕ) → Option ℕ
result_for plan q s = result_of (all_units plan) (heard plan) plan.m (s ∷ []) q

-- each unit of a plan is one of its units
unit_in : (plan : ByzPlanData) (u : ℕ) → u < plan.units → has (all_units plan) u ≡ true
unit_in plan u low = has-range 0 plan.units u (omega arith) (omega arith)

-- outside of the empty path as well
outside_none : (plan : ByzPlanData) (u : ℕ) → u < plan.units → has (outside (all_units plan) []) u ≡ true
outside_none plan u low = rw (outside-nil (all_units plan)) (unit_in plan u low)

-- outside of the path of a unit there is one unit fewer
one_left : (plan : ByzPlanData) (s : ℕ) → s < plan.units → suc (length (outside (all_units plan) (s ∷ []))) ≡ plan.units
one_left plan s low =
    one_fewer (all_units plan) [] s (range-ascends 0 plan.units) (outside_none plan s low)
    ∙ ap length (outside-nil (all_units plan)) ∙ length-range_with_len 0 plan.units

-- another unit is outside of it
other_left : (plan : ByzPlanData) (s q : ℕ) → q < plan.units → nat_eq s q ≡ false → has (outside (all_units plan) (s ∷ [])) q ≡ true
other_left plan s q low other = still_outside (all_units plan) [] s q (outside_none plan q low) (eqb-false s q other)

-- the traitors outside are no more than all
traitors_left : (plan : ByzPlanData) (s : ℕ) → faulty_count (is_loyal plan) (outside (all_units plan) (s ∷ [])) ≤ faulty_count (is_loyal plan) (all_units plan)
traitors_left plan s = rw (outside-nil (all_units plan)) at (no_more (all_units plan) [] s (is_loyal plan))

-- nor with that unit
traitors_with : (plan : ByzPlanData) (s : ℕ) → s < plan.units → faulty_count (is_loyal plan) (s ∷ outside (all_units plan) (s ∷ [])) ≤ faulty_count (is_loyal plan) (all_units plan)
traitors_with plan s low =
    let us : List ℕ = all_units plan in
    elim (cases_Bool (is_loyal plan s)) [
      | inl t ↦ omega (arith, count-no (λ u. not (is_loyal plan u)) s (outside us (s ∷ [])) (ap not t), traitors_left plan s)
      | inr f ↦
          let fewer = rw (outside-nil us) at (traitor_gone us [] s (is_loyal plan) (outside_none plan s low) f) in
          omega (arith, count-yes (λ u. not (is_loyal plan u)) s (outside us (s ∷ [])) (ap not f), fewer)
    ]

-- a loyal unit's value is in the vectors of the others
believed :
    (plan : ByzPlanData) (q s : ℕ) → TraitorsAreFew plan → q < plan.units → s < plan.units
    → is_loyal plan q ≡ true → is_loyal plan s ≡ true → nat_eq s q ≡ false → entry plan q s ≡ value_of plan s
believed plan q s few q_low s_low q_loyal s_loyal other =
    rw other (agreed_one (result_for plan q s)
    ∙ loyal_unit_is_believed (all_units plan) (is_loyal plan) (heard plan) plan.m s [] q (range-ascends 0 plan.units) (relays plan)
    (omega (arith, one_left plan s s_low, traitors_left plan s, traitors_are plan, few.enough, few.few))
    s_loyal (other_left plan s q q_low other) q_loyal)

-- where the traitors are few, the entry of each loyal unit in the vector of a loyal unit is its value
pub loyal_values_are_kept : LoyalValuesAreKept
loyal_values_are_kept plan q s few q_low s_low q_loyal s_loyal =
    elim (cases_Bool (nat_eq s q)) [
      | inl t ↦ rw t
      | inr f ↦ believed plan q s few q_low s_low q_loyal s_loyal f
    ]

-- two loyal units have one entry of any other unit
agreed_on :
    (plan : ByzPlanData) (p q s : ℕ) → TraitorsAreFew plan → p < plan.units → q < plan.units → s < plan.units
    → is_loyal plan p ≡ true → is_loyal plan q ≡ true → nat_eq s p ≡ false → nat_eq s q ≡ false → entry plan p s ≡ entry plan q s
agreed_on plan p q s few p_low q_low s_low p_loyal q_loyal not_p not_q =
    rw (not_p, not_q) (agreed_one (result_for plan p s)
    ∙ any_unit_is_agreed_on (all_units plan) (is_loyal plan) (heard plan) plan.m s [] p q (range-ascends 0 plan.units) (relays plan)
    (omega (arith, traitors_with plan s s_low, traitors_are plan, few.few))
    (omega (arith, one_left plan s s_low, few.enough))
    (other_left plan s p p_low not_p) p_loyal (other_left plan s q q_low not_q) q_loyal
    ∙ sym (agreed_one (result_for plan q s)))

-- and of either of the two
entries_equal :
    (plan : ByzPlanData) (p q s : ℕ) → TraitorsAreFew plan → p < plan.units → q < plan.units → s < plan.units
    → is_loyal plan p ≡ true → is_loyal plan q ≡ true → entry plan p s ≡ entry plan q s
entries_equal plan p q s few p_low q_low s_low p_loyal q_loyal =
    let kept : is_loyal plan s ≡ true → entry plan p s ≡ entry plan q s = λ s_loyal.
    loyal_values_are_kept plan p s few p_low s_low p_loyal s_loyal ∙ sym (loyal_values_are_kept plan q s few q_low s_low q_loyal s_loyal) in
    elim (cases_Bool (nat_eq s p)) [
      | inl is_p ↦ kept (ap (is_loyal plan) (eqb-true s p is_p) ∙ p_loyal)
      | inr not_p ↦ elim (cases_Bool (nat_eq s q)) [
        | inl is_q ↦ kept (ap (is_loyal plan) (eqb-true s q is_q) ∙ q_loyal)
        | inr not_q ↦ agreed_on plan p q s few p_low q_low s_low p_loyal q_loyal not_p not_q
      ]
    ]

-- where the traitors are few, all loyal units have one vector
pub vectors_are_equal : VectorsAreEqual
vectors_are_equal plan p q few p_low q_low p_loyal q_loyal =
    map-same (entry plan p) (entry plan q) (all_units plan)
    (λ s s_in. entries_equal plan p q s few p_low q_low (omega (arith, range-low 0 plan.units s s_in)) p_loyal q_loyal)

-- where one unit at most may lie, the entry of another unit is the agreed word of what was heard from it and of the relays of that, as in a flight
pub one_traitor_is_as_in_flights : OneTraitorIsAsInFlights
one_traitor_is_as_in_flights plan q s one other =
    let us : List ℕ = all_units plan in
    rw other (ap (λ k. agreed_of (result_of us (heard plan) k (s ∷ []) q ∷ [])) one
    ∙ agreed_one (result_of us (heard plan) 1 (s ∷ []) q)
    ∙ ap (λ rs. agreed_of (heard plan (s ∷ []) q ∷ map (λ r. heard plan (r ∷ s ∷ []) q) rs))
    (outside-cons us (s ∷ []) q ∙ ap (others q) (outside-cons us [] s ∙ ap (others s) (outside-nil us))))

-- ---- the vectors in their rows

-- the entry of a unit in another's row of the vectors is the entry that this one has of it
pub vectors_hold_the_entries : VectorsHoldTheEntries
vectors_hold_the_entries plan q s q_low s_low =
    ap (λ (row : List ℕ). get_or row s 0) (get_or-map-range_with_len (vector plan) 0 plan.units q q [] q_low (omega arith))
    ∙ get_or-map-range_with_len (entry plan q) 0 plan.units s s 0 s_low (omega arith)

-- each of a plan's vectors has an entry for each unit
pub vectors_are_square : (plan : ByzPlanData) → IsSquare (vectors_of plan)
vectors_are_square plan i d low =
    let many : length (vectors_of plan) ≡ plan.units = length-map-range_with_len (vector plan) 0 plan.units in
    ap length (get_or-map-range_with_len (vector plan) 0 plan.units i i d (omega (arith, many, low)) (omega arith))
    ∙ length-map-range_with_len (entry plan i) 0 plan.units ∙ sym many
