-- What working units take for one unit's word.
use Rattle.std.proofs.Common.{◌≡◌, ◌≢◌, ℕ, ◌+◌, ◌≤◌, inl, inr, List, [], ◌∷◌, length, map, Bool, true, false, not, nat_eq, Option, Some, refl, sym, ap, ◌∙◌, arith}
use Rattle.std.proofs.lemmas.Bool.{cases_Bool, eqb-true, ne_eqb, eqb-false, eq-eqb}
use Rattle.std.proofs.lemmas.List.{length-map}
use Rattle.sift_base.specs.Units.{has, others, IsAscending, faulty_count, HasMargin}
use Rattle.sift_base.specs.laws.Counts.{count-cons, count-yes, count-no, both_counts, has-head, has-tail}
use Rattle.sift_base.specs.laws.Others.{times_in, times_in-ascending, times_in-none, length-others, count-others-≤, count-others-<, has-others, others-has, others_work}
use Rattle.sift_vote.specs.Majority.{is_vote_for, votes_for, IsAgreed, decided, undecided, agreed_of}
use Rattle.sift_vote.specs.laws.Found.{agreed_word_is_found}
use Rattle.sift_agree.specs.Agreement.{taken, RelaysWell, FaultyUnitIsAgreedOn, WorkingUnitIsAgreedOn}
use Rattle.sift_agree.specs.laws.Winners.{agreed-found, won-agreed}

-- ---- lists of places

-- as many places with as many votes for each word have the same agreed word
agreed_same : (xs ys : List (Option ℕ)) → length xs ≡ length ys → ((w : ℕ) → votes_for xs w ≡ votes_for ys w)
    → agreed_of xs ≡ agreed_of ys
agreed_same xs ys long votes =
    let agreed : IsAgreed xs (agreed_of xs) = (agreed_word_is_found xs (agreed_of xs)).0 refl in
    agreed-found ys (agreed_of xs) (moved (agreed_of xs) agreed)
  where
    moved : (w : ℕ) → IsAgreed xs w → IsAgreed ys w
    moved w (decided most) = decided (omega (arith, votes w))
    moved w (undecided none zero) = undecided (λ v most. none v (omega (arith, votes v))) zero

-- each unit's place is a vote for the word, or the unit is faulty
pub votes-working : (works : ℕ → Bool) (us : List ℕ) (place : ℕ → Option ℕ) (w : ℕ)
    → ((u : ℕ) → has us u ≡ true → works u ≡ true → place u ≡ Some w)
    → length us ≤ votes_for (map place us) w + faulty_count works us
votes-working works [] place w says = omega arith
votes-working works (u ∷ us) place w says =
    let rest = votes-working works us place w (λ v v_in. says v (has-tail u us v v_in)) in
    elim (cases_Bool (works u)) [
      | inl t ↦
          let here : is_vote_for w (place u) ≡ true = rw (says u (has-head u us) t) (eq-eqb w w refl) in
          rw (count-yes (is_vote_for w) (place u) (map place us) here, count-no (λ v. not (works v)) u us (ap not t)) (omega arith)
      | inr f ↦
          let more = count-cons (is_vote_for w) (place u) (map place us) in
          rw (count-yes (λ v. not (works v)) u us (ap not f)) (omega arith)
    ]

-- places that differ at one unit alone, without it
map-others : (f g : ℕ → Option ℕ) (u : ℕ) (us : List ℕ) → ((r : ℕ) → has us r ≡ true → (r ≢ u) × (f r ≡ g r))
    → map f (others u us) ≡ map g us
map-others f g u [] same = refl
map-others f g u (v ∷ us) same =
    let here = same v (has-head v us) in
    let rest = map-others f g u us (λ r r_in. same r (has-tail v us r r_in)) in
    rw (ne_eqb v u here.0) (ap (λ x. x ∷ map f (others u us)) here.1 ∙ ap (λ xs. g v ∷ xs) rest)

-- the place of one unit first, and then the others' places: as many votes as in the list's own order
votes-first : (w : ℕ) (f g : ℕ → Option ℕ) (u : ℕ) (us : List ℕ) → has us u ≡ true → times_in u us ≤ 1
    → ((r : ℕ) → has us r ≡ true → r ≢ u → f r ≡ g r)
    → votes_for (g u ∷ map f (others u us)) w ≡ votes_for (map g us) w
votes-first w f g u [] u_in once same = absurd cc
votes-first w f g u (v ∷ us) u_in once same =
    elim (cases_Bool (nat_eq v u)) [
      | inl t ↦
          let gone : times_in u us ≡ 0 = omega (arith, count-yes (λ x. nat_eq x u) v us t) in
          let rest = map-others f g u us (λ r r_in.
          let differ = times_in-none u us gone r r_in in (differ, same r (has-tail v us r r_in) differ)) in
          rw (t, rest) (ap (λ x. votes_for (g x ∷ map g us) w) (sym (eqb-true v u t)))
      | inr o ↦
          let fewer : times_in u us ≤ 1 = omega (arith, count-no (λ x. nat_eq x u) v us o) in
          let rest = votes-first w f g u us (rw o at u_in) fewer (λ r r_in differ. same r (has-tail v us r r_in) differ) in
          let here = same v (has-head v us) (eqb-false v u o) in
          rw (o, here) (omega (
            arith,
            count-cons (is_vote_for w) (g u) (g v ∷ map f (others u us)),
            count-cons (is_vote_for w) (g v) (map f (others u us)),
            count-cons (is_vote_for w) (g u) (map f (others u us)),
            count-cons (is_vote_for w) (g v) (map g us),
          ))
    ]

-- ---- a faulty unit

-- a working unit takes what all others heard
takes_direct : (works : ℕ → Bool) (us : List ℕ) (s q : ℕ) (direct : ℕ → Option ℕ) (relayed : ℕ → ℕ → Option ℕ)
    → IsAscending us → HasMargin works us → RelaysWell works us s direct relayed
    → has us s ≡ true → works s ≡ false → has us q ≡ true → works q ≡ true
    → agreed_of (taken us s q direct relayed) ≡ agreed_of (map direct (others s us))
takes_direct works us s q direct relayed ascending margin relays s_in s_faulty q_in q_works =
    let differ : q ≢ s = λ same. let e = ap works same in cc in
    let there = others-has s us q q_in differ in
    let once : times_in q (others s us) ≤ 1 = omega (arith, count-others-≤ (λ x. nat_eq x q) s us, times_in-ascending q us ascending) in
    let some = count-others-< (λ v. nat_eq v q) q (others s us) there (eq-eqb q q refl) in
    agreed_same (taken us s q direct relayed) (map direct (others s us))
    (omega (arith, length-others q (others s us), length-map (others q (others s us)) (relayed q), length-map (others s us) direct))
    (λ w. votes-first w (relayed q) direct q (others s us) there once (λ r r_in other.
    let of_us = has-others s us r r_in in
    relays q r q_in q_works of_us.0 (others_work works us s margin s_in s_faulty r r_in) differ of_us.1 other))

-- in a configuration with margin all working units agree on one word of a faulty unit, whatever it says to each of them
pub faulty_unit_is_agreed_on : FaultyUnitIsAgreedOn
faulty_unit_is_agreed_on works us s p q direct relayed ascending margin relays s_in s_faulty p_in p_works q_in q_works =
    takes_direct works us s p direct relayed ascending margin relays s_in s_faulty p_in p_works
    ∙ sym (takes_direct works us s q direct relayed ascending margin relays s_in s_faulty q_in q_works)

-- ---- a working unit

-- in a configuration with margin all other working units agree on the word that a working unit said to them, whatever a faulty unit relays
pub working_unit_is_agreed_on : WorkingUnitIsAgreedOn
working_unit_is_agreed_on works us s q word direct relayed ascending margin relays s_in s_works says q_in q_works differ =
    let rest : List ℕ = others q (others s us) in
    let heard : direct q ≡ Some word = says q q_in q_works differ in
    let enough = votes-working works rest (relayed q) word (λ r r_in r_works.
    let of_others = has-others q (others s us) r r_in in
    let of_us = has-others s us r of_others.0 in
    relays q r q_in q_works of_us.0 r_works differ of_us.1 of_others.1 ∙ says r of_us.0 r_works of_us.1) in
    let few : faulty_count works rest ≤ 1 =
    omega (arith, count-others-≤ (λ x. not (works x)) q (others s us), count-others-≤ (λ x. not (works x)) s us, margin.few) in
    let many : 2 ≤ length rest = omega (
      arith,
      length-others s us,
      length-others q (others s us),
      times_in-ascending s us ascending,
      times_in-ascending q us ascending,
      count-others-≤ (λ v. nat_eq v q) s us,
      both_counts works us,
      margin.enough,
    ) in
    let here : is_vote_for word (direct q) ≡ true = rw heard (eq-eqb word word refl) in
    let votes = count-yes (is_vote_for word) (direct q) (map (relayed q) rest) here in
    sym (won-agreed (taken us s q direct relayed) word (omega (arith, length-map rest (relayed q))))
