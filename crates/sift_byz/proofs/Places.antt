-- The agreed word of places. An absent place counts as one of 0: 0 is the agreed word wherever no other word is.
use Rattle.std.proofs.Common.{◌≡◌, ◌≢◌, ℕ, ◌*◌, ◌<◌, ◌≤◌, inl, inr, List, [], ◌∷◌, length, map, Bool, true, nat_eq, Option, None, Some, refl, sym, ap, ◌∙◌, arith}
use Rattle.std.specs.Prelude.{unwrap_or}
use Rattle.std.proofs.lemmas.Bool.{cases_Bool, cases_eq, eqb-true, ne_eqb, eq-eqb}
use Rattle.std.proofs.lemmas.List.{length-map}
use Rattle.sift_base.specs.Units.{faulty_count, has, others}
use Rattle.sift_base.specs.laws.Counts.{count-cons, count-no, count-yes, has-head, has-tail}
use Rattle.sift_base.specs.laws.Others.{count-others-<, has-others, length-others, times_in}
use Rattle.sift_vote.specs.Majority.{agreed_of, IsAgreed, IsMajority, decided, is_vote_for, undecided, votes_for}
use Rattle.sift_vote.specs.laws.Found.{agreed_word_is_found}
use Rattle.sift_agree.specs.laws.Taking.{votes-working}
use Rattle.sift_agree.specs.laws.Winners.{won-agreed}

-- ---- absence is read as 0

-- an agreed word other than 0 is the majority
not_zero : (places : List (Option ℕ)) (w : ℕ) → IsAgreed places w → w ≢ 0 → IsMajority places w
not_zero places w (decided most) some = most
not_zero places w (undecided none zero) some = absurd (some zero)

-- the word that is found is the majority, where it isn't 0
found_most : (places : List (Option ℕ)) → agreed_of places ≢ 0 → IsMajority places (agreed_of places)
found_most places some = not_zero places (agreed_of places) ((agreed_word_is_found places (agreed_of places)).0 refl) some

-- as many places with as many votes for each word but 0 have one agreed word
agreed_alike :
    (xs ys : List (Option ℕ)) → length xs ≡ length ys → ((w : ℕ) → w ≢ 0 → votes_for xs w ≡ votes_for ys w)
    → agreed_of xs ≡ agreed_of ys
agreed_alike xs ys long votes =
    elim (cases_eq (agreed_of xs) 0) [
      | inl none ↦ elim (cases_eq (agreed_of ys) 0) [
        | inl none' ↦ none ∙ sym none'
        | inr some ↦
            let most = found_most ys some in
            sym (won-agreed xs (agreed_of ys) (omega (arith, votes (agreed_of ys) some)))
      ]
      | inr some ↦
          let most = found_most xs some in
          won-agreed ys (agreed_of xs) (omega (arith, votes (agreed_of xs) some))
    ]

-- a place is a vote for a word other than 0 just where it is read as that word
vote-read : (place : Option ℕ) (w : ℕ) → w ≢ 0 → is_vote_for w place ≡ is_vote_for w (Some (unwrap_or place 0))
vote-read None w some = sym (ne_eqb 0 w (λ e. some (sym e)))
vote-read (Some v) w some = refl

-- the votes of units for such a word are those of what each place is read as
votes-read :
    (f : ℕ → Option ℕ) (h : ℕ → ℕ) (us : List ℕ) (w : ℕ) → w ≢ 0 → ((r : ℕ) → has us r ≡ true → unwrap_or (f r) 0 ≡ h r)
    → votes_for (map f us) w ≡ votes_for (map (λ r. Some (h r)) us) w
votes-read f h [] w some is = refl
votes-read f h (u ∷ us) w some is =
    let rest = votes-read f h us w some (λ r r_in. is r (has-tail u us r r_in)) in
    let here : is_vote_for w (f u) ≡ is_vote_for w (Some (h u)) =
    vote-read (f u) w some ∙ ap (λ v. is_vote_for w (Some v)) (is u (has-head u us)) in
    count-cons (is_vote_for w) (f u) (map f us) ∙ rw (here, rest) (sym (count-cons (is_vote_for w) (Some (h u)) (map (λ r. Some (h r)) us)))

-- ---- one unit's place before the others'

-- a list without a unit is its others
others-none : (u : ℕ) (us : List ℕ) → times_in u us ≡ 0 → others u us ≡ us
others-none u [] none = refl
others-none u (v ∷ us) none =
    elim (cases_Bool (nat_eq v u)) [
      | inl t ↦ absurd (omega (arith, count-yes (λ x. nat_eq x u) v us t))
      | inr f ↦ rw f (ap (λ vs. v ∷ vs) (others-none u us (sym (count-no (λ x. nat_eq x u) v us f) ∙ none)))
    ]

-- the place of one unit, and then those of the others, have as many votes as all in their order
votes-first :
    (w : ℕ) (g : ℕ → Option ℕ) (u : ℕ) (us : List ℕ) → has us u ≡ true → times_in u us ≤ 1
    → votes_for (g u ∷ map g (others u us)) w ≡ votes_for (map g us) w
votes-first w g u [] u_in once = absurd cc
votes-first w g u (v ∷ us) u_in once =
    elim (cases_Bool (nat_eq v u)) [
      | inl t ↦
          let gone : times_in u us ≡ 0 = omega (arith, count-yes (λ x. nat_eq x u) v us t) in
          rw (t, others-none u us gone) (ap (λ x. votes_for (g x ∷ map g us) w) (sym (eqb-true v u t)))
      | inr f ↦
          let fewer : times_in u us ≤ 1 = omega (arith, count-no (λ x. nat_eq x u) v us f) in
          rw f (omega (
            arith,
            votes-first w g u us (rw f at u_in) fewer,
            count-cons (is_vote_for w) (g u) (g v ∷ map g (others u us)),
            count-cons (is_vote_for w) (g v) (map g (others u us)),
            count-cons (is_vote_for w) (g u) (map g (others u us)),
            count-cons (is_vote_for w) (g v) (map g us),
          ))
    ]

-- they are as many
length-first : {X : Type 0} (x : X) (f : ℕ → X) (u : ℕ) (us : List ℕ) → has us u ≡ true → times_in u us ≤ 1 → length (x ∷ map f (others u us)) ≡ length us
length-first x f u us u_in once =
    omega (arith, length-others u us, length-map (others u us) f, count-others-< (λ v. nat_eq v u) u us u_in (eq-eqb u u refl))

-- ---- what is agreed on

-- the agreed word of one unit's place and the others' is that of what each is read as, in the units' own order
pub agreed_in_order :
    (place : Option ℕ) (f : ℕ → Option ℕ) (h : ℕ → ℕ) (u : ℕ) (us : List ℕ) → has us u ≡ true → times_in u us ≤ 1
    → unwrap_or place 0 ≡ h u → ((r : ℕ) → has us r ≡ true → r ≢ u → unwrap_or (f r) 0 ≡ h r)
    → agreed_of (place ∷ map f (others u us)) ≡ agreed_of (map (λ r. Some (h r)) us)
agreed_in_order place f h u us u_in once here there =
    agreed_alike (place ∷ map f (others u us)) (map (λ r. Some (h r)) us)
    (length-first place f u us u_in once ∙ sym (length-map us (λ r. Some (h r))))
    (λ w some.
    let first : is_vote_for w place ≡ is_vote_for w (Some (h u)) = vote-read place w some ∙ ap (λ v. is_vote_for w (Some v)) here in
    let rest = votes-read f h (others u us) w some (λ r r_in. let other = has-others u us r r_in in there r other.0 other.1) in
    count-cons (is_vote_for w) place (map f (others u us))
    ∙ rw (first, rest) (sym (count-cons (is_vote_for w) (Some (h u)) (map (λ r. Some (h r)) (others u us))))
    ∙ votes-first w (λ r. Some (h r)) u us u_in once)

-- the word of all loyal units is agreed on, where they are more than half
pub agreed_loyal :
    (loyal : ℕ → Bool) (h : ℕ → ℕ) (us : List ℕ) (w : ℕ) → 2 * faulty_count loyal us < length us
    → ((u : ℕ) → has us u ≡ true → loyal u ≡ true → h u ≡ w) → agreed_of (map (λ r. Some (h r)) us) ≡ w
agreed_loyal loyal h us w few says =
    let votes = votes-working loyal us (λ r. Some (h r)) w (λ u u_in u_loyal. ap Some (says u u_in u_loyal)) in
    sym (won-agreed (map (λ r. Some (h r)) us) w (omega (arith, length-map us (λ r. Some (h r)))))

-- the agreed word of one place is what it is read as
pub agreed_one : (place : Option ℕ) → agreed_of (place ∷ []) ≡ unwrap_or place 0
agreed_one None = refl
agreed_one (Some v) = sym (won-agreed (Some v ∷ []) v (omega (arith, count-yes (is_vote_for v) (Some v) [] (eq-eqb v v refl))))
