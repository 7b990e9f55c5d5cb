-- Working units vote the words that the tasks make, and catch no working unit for its words.
use Rattle.std.proofs.Common.{◌≡◌, inl, inr, ℕ, zero, suc, ◌+◌, ◌<◌, ◌≤◌, List, [], ◌∷◌, map, slice_index, Bool, true, false, not, Option, Some, refl, sym, ap, ◌∙◌, arith}
use Rattle.std.specs.Prelude.{count_by}
use Rattle.std.specs.List.{filter, list_any, range_with_len}
use Rattle.std.proofs.lemmas.Bool.{cases_Bool, true≢false, eq-eqb, and_parts}
use Rattle.std.proofs.lemmas.Bool.Decides.{eqb_tells}
use Rattle.std.proofs.lemmas.List.{length-map}
use Rattle.std.proofs.lemmas.Grind.{same_number_lists}
use Rattle.sift_base.specs.Units.{has}
use Rattle.sift_base.specs.declared.slots.Slot.TheVariants.{Out}
use Rattle.sift_base.specs.laws.Counts.{count-cons, of_filtered, in_filtered}
use Rattle.sift_vote.specs.Majority.{IsMajority, differs, majority_of}
use Rattle.sift_vote.specs.laws.Found.{majority_is_found}
use Rattle.sift_agree.specs.laws.Taking.{votes-working}
use Rattle.sift_agree.specs.laws.Winners.{won-agreed}
use Rattle.sift_mission.specs.Data.{FlownMission}
use Rattle.sift_mission.specs.Slots.{executors, is_held}
use Rattle.sift_conduct.specs.Conduct.{UnitFrame, made, polled, poll_catches}
use Rattle.sift_conduct.specs.Frames.{last_of}
use Rattle.sift_flight.specs.Flight.{Flight, Strays}
use Rattle.sift_flight.proofs.Ideal.{IsStep}
use Rattle.sift_flight.proofs.Working.{InFrame, Member, by_config, conduct_here, hears, out_call}

-- no more of a filtered list pass a test
pub count-filter-≤ : (p q : ℕ → Bool) (us : List ℕ) → count_by p (filter q us) ≤ count_by p us
count-filter-≤ p q [] = omega arith
count-filter-≤ p q (u ∷ us) =
    let rest = count-filter-≤ p q us in
    elim (cases_Bool (q u)) [
      | inl t ↦ rw t (omega (arith, rest, count-cons p u us, count-cons p u (filter q us)))
      | inr f ↦ rw f (omega (arith, rest, count-cons p u us))
    ]

-- some of so many numbers passes, from this one on
found_from : (from n : ℕ) (p : ℕ → Bool) → list_any p (range_with_len from n) ≡ true → (x : ℕ) × (x < from + n) × (p x ≡ true)
found_from from zero p e = absurd cc
found_from from (suc n) p e = elim (cases_Bool (p from)) [
  | inl t ↦ (from, omega arith, t)
  | inr t ↦ let r = found_from (from + 1) n p (rw t at e) in let low : r.0 < from + 1 + n = r.1 in (r.0, omega arith, r.2)
]

-- some number below n passes
pub any_found : (n : ℕ) (p : ℕ → Bool) → list_any p (range_with_len 0 n) ≡ true → (x : ℕ) × (x < n) × (p x ≡ true)
any_found n p e = let r = found_from 0 n p e in let low : r.0 < 0 + n = r.1 in (r.0, omega arith, r.2)

-- a word doesn't differ from itself
pub same_not_differs : (w : ℕ) → differs (Some w) (Some w) ≡ true → ⊥
same_not_differs w e = let z = rw (eq-eqb w w refl) at e in cc

module _ (m : FlownMission) (strays : Strays) (fl : Flight) (f : ℕ) (us : List ℕ) (here : InFrame m strays fl f us)
    (ins before outs : List ℕ) (step : IsStep m us ins before outs)
    (same_ins : (u : ℕ) → Member m f us u → (fl.account u f).ins ≡ ins)
    (same_last : (u : ℕ) → Member m f us u → last_of m (fl.account u) f ≡ before) where
  -- a member in the frame
  abbrev frame_here : ℕ → UnitFrame
  frame_here u = by_config m strays fl f us here us u

  abbrev place : ℕ → ℕ → ℕ → Option ℕ
  place u w = polled (frame_here u) w

  -- the words below a number are the ideal ones
  Earlier : ℕ → Type 0
  Earlier w = (v u : ℕ) → v < w → Member m f us u → slice_index (fl.account u f).outs v ≡ slice_index outs v

  -- the configuration holds no word that someone executes
  kept_by : (w : ℕ) → w < m.words → (v : ℕ) → m.executes us w v ≡ true → is_held m us w ≡ false
  kept_by w low v runs = elim (cases_Bool (is_held m us w)) [
    | inr kept ↦ kept
    | inl held ↦ absurd (true≢false (sym runs ∙ here.flyable.fits.executors.none us w v here.config low held))
  ]

  -- then so is the next word that isn't held, as each member makes it
  makes : (w : ℕ) → w < m.words → is_held m us w ≡ false → Earlier w → (u : ℕ) → Member m f us u → made (frame_here u) w ≡ slice_index outs w
  unfolding Earlier
  makes w low kept earlier u wu =
      here.flyable.fits.read.reads w (fl.account u f).ins (fl.account u f).ins (fl.account u f).outs outs (last_of m (fl.account u) f) low (λ x x_low t. refl)
      (λ v v_low t. earlier v u (here.flyable.fits.read.earlier w v low v_low t) wu)
      ∙ ((λ i. m.word w (same_ins u wu i) outs (same_last u wu i)) ∙ sym (rw kept at (step.makes w low)))

  -- and each working executor's place has it
  place_is : (w : ℕ) → w < m.words → Earlier w → (u : ℕ) → Member m f us u → (v : ℕ)
      → has (executors m us w) v ≡ true → m.works v f ≡ true → place u w v ≡ Some (slice_index outs w)
  place_is w low earlier u wu v hv wv =
      let t = of_filtered (m.executes us w) us v hv in
      let kept = kept_by w low v t.0 in
      let v' : Member m f us v = record { member = t.1; works = wv } in
      elim (eqb_tells v u) [
        | inl e ↦ rw e.0 (ap (λ x. Some x) (makes w low kept earlier u wu))
        | inr e ↦ rw e.0 (hears m strays fl f us here u v (Out w) wu v' (out_call m strays fl f us here w v u low t.0 v' wu e.1) ∙ ap (λ x. Some x) (makes w low kept earlier v v'))
      ]

  -- so it is the majority
  vote_is : (w : ℕ) → w < m.words → is_held m us w ≡ false → Earlier w → (u : ℕ) → Member m f us u → IsMajority (map (place u w) (executors m us w)) (slice_index outs w)
  vote_is w low kept earlier u wu =
      let votes = votes-working (λ v. m.works v f) (executors m us w) (place u w) (slice_index outs w) (place_is w low earlier u wu) in
      omega (
        arith,
        votes,
        length-map (executors m us w) (place u w),
        here.flyable.fits.executors.three us w here.config low kept,
        count-filter-≤ (λ v. not (m.works v f)) (m.executes us w) us,
        here.margin.few,
      )

  -- each member has the ideal word: by vote, or where it is held as the one of the frame before
  word_is : (w : ℕ) → w < m.words → Earlier w → (u : ℕ) → Member m f us u → slice_index (fl.account u f).outs w ≡ slice_index outs w
  word_is w low earlier u wu =
      let votes = (conduct_here m strays fl f us here u wu).outputs w low in
      elim (cases_Bool (is_held m us w)) [
        | inl held ↦ rw held at votes ∙ (ap (λ ws. slice_index ws w) (same_last u wu) ∙ sym (rw held at (step.makes w low)))
        | inr kept ↦ rw kept at votes ∙ sym (won-agreed _ (slice_index outs w) (vote_is w low kept earlier u wu))
      ]

  below : (n : ℕ) → n ≤ m.words → Earlier n
  unfolding Earlier
  below zero few v u h wu = absurd (omega arith)
  below (suc n) few v u h wu =
      elim (eqb_tells v n) [
        | inl e ↦ rw e.1 (word_is n few (below n (omega arith)) u wu)
        | inr e ↦ below n (omega arith) v u (omega (arith, e.1)) wu
      ]

  -- each member's outputs are the ideal ones
  pub output_is : (u : ℕ) → Member m f us u → (fl.account u f).outs ≡ outs
  unfolding Earlier
  output_is u wu =
      let c = (conduct_here m strays fl f us here u wu).outputs_count in
      same_number_lists (fl.account u f).outs outs (c ∙ sym step.count) (λ w low. below m.words (omega arith) w u (omega (arith, c)) wu)

  -- a word that someone executes is made by each member as the ideal one
  pub made_is : (w : ℕ) → w < m.words → (v : ℕ) → m.executes us w v ≡ true → (u : ℕ) → Member m f us u → made (frame_here u) w ≡ slice_index outs w
  made_is w low v runs u wu = makes w low (kept_by w low v runs) (below w (omega (arith, low))) u wu

  -- and found as the ideal one by each member's vote
  pub vote_finds : (w : ℕ) → w < m.words → (v : ℕ) → m.executes us w v ≡ true → (u : ℕ) → Member m f us u
      → majority_of (map (place u w) (executors m us w)) ≡ Some (slice_index outs w)
  vote_finds w low v runs u wu =
      (majority_is_found (map (place u w) (executors m us w)) (slice_index outs w)).1 (vote_is w low (kept_by w low v runs) (below w (omega (arith, low))) u wu)

  -- no member catches a member for a word
  pub none_polled : (u v : ℕ) → Member m f us u → Member m f us v → poll_catches (frame_here u) v ≡ false
  none_polled u v wu wv = elim (cases_Bool (poll_catches (frame_here u) v)) [
    | inr e ↦ e
    | inl t ↦
        let found = any_found m.words _ (and_parts (has us v) _ t).1 in
        let w : ℕ = found.0 in
        let both = and_parts (m.executes us w v) _ found.2 in
        let low = below w (omega (arith, found.1)) in
        let at_place = place_is w found.1 low u wu v (in_filtered (m.executes us w) us v wv.member both.0) wv.works in
        absurd (same_not_differs (slice_index outs w) (rw (at_place, vote_finds w found.1 v both.0 u wu) at both.1))
  ]
