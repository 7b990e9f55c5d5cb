-- Leads: what the slack says of two clocks.
use Rattle.std.proofs.Common.{◌≡◌, ℕ, zero, suc, ◌<◌, List, [], ◌∷◌, length, map, get_or, true, ℤ, inl, inr, arith, sym}
use Rattle.std.specs.List.{Contains}
use Rattle.std.proofs.lemmas.Int.{ints}
use Rattle.std.proofs.lemmas.List.Elements.{Contains-append_cases}
use Rattle.sift_base.specs.Units.{has}
use Rattle.sift_base.specs.laws.Counts.{has-head, has-tail}
use Rattle.sift_skew.specs.Leading.{SlackIsPositive, LeadIsAtMostOne, SkewIsUnique, SlackIsUnique}

-- the offset at a place is some unit's
offset_at : (f : ℕ → ℤ) (us : List ℕ) (z : ℤ) (k : ℕ) → k < length (map f us) → get_or (map f us) k z ≡ z
    → (u : ℕ) × (has us u ≡ true) × (z ≡ f u)
offset_at f [] z k below at = absurd (omega arith)
offset_at f (u ∷ us) z zero below at = (u, has-head u us, sym at)
offset_at f (u ∷ us) z (suc k) below at =
    let rest = offset_at f us z k (omega arith) at in
    (rest.0, has-tail u us rest.0 rest.1, rest.2)

-- an offset of a list is some unit's
pub Contains-map : (f : ℕ → ℤ) (us : List ℕ) (z : ℤ) → Contains (map f us) z → (u : ℕ) × (has us u ≡ true) × (z ≡ f u)
Contains-map f us z among = offset_at f us z among.0 among.1 among.2

-- the slack is at least 1 where clocks of admitted limits are within the skew, and change at the boundary by at most the skew,
-- the reading error and the drift together
pub slack_is_positive : SlackIsPositive
slack_is_positive skew error rate length slack us clock next admitted together change figure =
    let p = Contains-map clock us figure.attained.0 figure.attained.2 in
    elim (Contains-append_cases (map clock us) (map next us) figure.attained.1 figure.attained.3) [
      | inl q_now ↦
          let q = Contains-map clock us figure.attained.1 q_now in
          omega (arith, ints, p.2, q.2, together q.0 p.0 q.1 p.1, change p.0 p.1, admitted.long, figure.attained.4)
      | inr q_next ↦
          let q = Contains-map next us figure.attained.1 q_next in
          omega (arith, ints, p.2, q.2, together q.0 p.0 q.1 p.1, change q.0 q.1, admitted.long, figure.attained.4)
    ]

-- where the slack is at least 1, each clock enters the next subframe before any clock enters the one after it
pub lead_is_at_most_one : LeadIsAtMostOne
lead_is_at_most_one length slack now next figure some p q p_in q_in subframe =
    omega (arith, ints, figure.least p q p_in q_in)

-- offsets have at most one skew
pub skew_is_unique : SkewIsUnique
skew_is_unique offsets a b is_a is_b =
    let at_a = is_a.attained in
    let at_b = is_b.attained in
    omega (arith, ints, at_a.4, at_b.4, is_a.largest at_b.0 at_b.1 at_b.2 at_b.3, is_b.largest at_a.0 at_a.1 at_a.2 at_a.3)

-- a frame's clocks have at most one slack
pub slack_is_unique : SlackIsUnique
slack_is_unique length now next a b is_a is_b =
    let at_a = is_a.attained in
    let at_b = is_b.attained in
    omega (arith, ints, at_a.4, at_b.4, is_a.least at_b.0 at_b.1 at_b.2 at_b.3, is_b.least at_a.0 at_a.1 at_a.2 at_a.3)
