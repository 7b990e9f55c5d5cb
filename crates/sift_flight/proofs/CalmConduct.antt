-- What is alike in all calm missions: the conduct of a unit from figures, own words, and premises.
use Rattle.std.proofs.Common.{◌≡◌, ◌⊎◌, ⊎_elim, inl, inr, ℕ, ◌+◌, ◌<◌, ◌^◌, List, [], ◌∷◌, length, map, slice_index, Bool, true, false, not, ◌&&◌, ◌||◌, nat_eq, if◌then◌else◌, Option, Some, pos, ◌+ℤ◌, refl, sym, ap, ◌∙◌, subst, arith, ltb-true, eq-eqb, eqb-true}
use Rattle.std.specs.FinSet as set
use Rattle.std.specs.Ordering.{nat_cmp}
use Rattle.std.proofs.lemmas.Bool.{cases_Bool, and_parts}
use Rattle.sift_base.specs.Units.{has, holds, has_bit, bits_of}
use Rattle.sift_base.specs.declared.slots.Slot.{Slot}
use Rattle.sift_base.specs.declared.slots.Slot.TheVariants.{Clock, Sense, RelaySense, Out, Report, RelayReport}
use Rattle.sift_base.specs.laws.Others.{told_apart}
use Rattle.sift_vote.specs.Majority.{agreed_of}
use Rattle.sift_config.specs.Config.{reader_of}
use Rattle.sift_clock.specs.Correction.{corrected_offset}
use Rattle.sift_config.specs.laws.Readers.{reader_in}
use Rattle.sift_agree.specs.Agreement.{taken}
use Rattle.sift_exec.specs.Conviction.{nobody, everyone_in, next_by}
use Rattle.sift_exec.specs.laws.Everyone.{holds-everyone}
use Rattle.sift_mission.specs.Slots.{executors, calls}
use Rattle.sift_mission.specs.laws.Calls.{Call, call_of, call_is}
use Rattle.sift_conduct.specs.Conduct.{input_of, polled, poll_catches, relay_catches, clock_catches, reading_by, own_word, Conduct}
use Rattle.sift_flight.specs.Calm.{Calm, four_units, mission_of}
use Rattle.sift_flight.specs.CalmFlight.{word_in}
use Rattle.sift_flight.proofs.CalmBoards.{heard_by, frame_in}

-- one more unit of a list
has-cons : (v : ℕ) (us : List ℕ) (u : ℕ) → has (v ∷ us) u ≡ true → (v ≡ u) ⊎ (has us u ≡ true)
has-cons v us u h = elim (cases_Bool (nat_eq v u)) [ inl t ↦ inl (eqb-true v u t) | inr f ↦ inr (rw f at h) ]

-- what holds of each of the four units
pub four : (P : ℕ → Type 0) → P 0 → P 1 → P 2 → P 3 → (u : ℕ) → has four_units u ≡ true → P u
four P a b c d u h =
    ⊎_elim (λ e. subst P e a) (λ h1.
    ⊎_elim (λ e. subst P e b) (λ h2.
    ⊎_elim (λ e. subst P e c) (λ h3.
    ⊎_elim (λ e. subst P e d) (λ h4. absurd (let z : ⊥ = cc in z)) (has-cons 3 [] u h3)) (has-cons 2 (3 ∷ []) u h2)) (has-cons 1 (2 ∷ 3 ∷ []) u h1)) (has-cons 0 (1 ∷ 2 ∷ 3 ∷ []) u h)

-- nobody is caught, in any way
none_caught : (v : ℕ) → holds (everyone_in nobody) v ≡ false
none_caught v = holds-everyone nobody v ∙ (λ i. (set.contains-empty nat_cmp v i || set.contains-empty nat_cmp v i) || set.contains-empty nat_cmp v i)

-- so the report is 0
pub no_report : bits_of (everyone_in nobody) ≡ 0
unfolding bits_of
no_report i =
    0 + (if none_caught 0 i then 2 ^ 0 else 0) + (if none_caught 1 i then 2 ^ 1 else 0) + (if none_caught 2 i then 2 ^ 2 else 0) + (if none_caught 3 i then 2 ^ 3 else 0)
    + (if none_caught 4 i then 2 ^ 4 else 0) + (if none_caught 5 i then 2 ^ 5 else 0) + (if none_caught 6 i then 2 ^ 6 else 0) + (if none_caught 7 i then 2 ^ 7 else 0)

-- a test passes for some of the four
abbrev pub some_of_four : (ℕ → Bool) → Bool
some_of_four g = g 0 || (g 1 || (g 2 || g 3))

-- a test that passes for no other and for none of them passes for no unit
none_pass : (g : ℕ → Bool) → ((v : ℕ) → has four_units v ≡ false → g v ≡ false) → some_of_four g ≡ false → (v : ℕ) → g v ≡ false
none_pass g outside none v = elim (cases_Bool (has four_units v)) [ inl t ↦ four (λ v. g v ≡ false) n.0 n.1 n.2 n.3 v t | inr t ↦ outside v t ]
  where
    neither : (a b : Bool) → a || b ≡ false → (a ≡ false) × (b ≡ false)
    neither true b e = absurd cc
    neither false b e = (refl, e)

    n : (g 0 ≡ false) × (g 1 ≡ false) × (g 2 ≡ false) × (g 3 ≡ false)
    n = let a = neither (g 0) _ none in let b = neither (g 1) _ a.1 in let d = neither (g 2) (g 3) b.1 in (a.0, b.0, d.0, d.1)

module _ (c : Calm) where
  -- the places that a unit polls of a word
  abbrev pub place : ℕ → ℕ → ℕ → Option ℕ
  place u = polled (frame_in c u (heard_by c u))

  -- whom unit u takes each report to name, where its own is this one
  abbrev names_with : ℕ → ℕ → ℕ → ℕ → Bool
  names_with u own r v = has_bit (if nat_eq r u then own else agreed_of (taken four_units r u (λ q. heard_by c u Report r) (λ q p. heard_by c u (RelayReport r) p))) v

  -- the figures of a unit's conduct
  pub record HasFigures (u : ℕ) : Type 0 where
    pub ins : (x : ℕ) → x < length c.sensed → slice_index c.sensed x ≡ input_of (frame_in c u (heard_by c u)) x
    pub votes : (w : ℕ) → w < length c.tasks → slice_index c.outs w ≡ agreed_of (map (place u w) (executors (mission_of c) four_units w))
    pub polls : some_of_four (poll_catches (frame_in c u (heard_by c u))) ≡ false
    pub relays : some_of_four (relay_catches (frame_in c u (heard_by c u))) ≡ false
    pub clocks : some_of_four (clock_catches (frame_in c u (heard_by c u))) ≡ false
    pub cfg : four_units ≡ next_by (names_with u 0) four_units
    pub clk : pos 0 ≡ corrected_offset (pos 0) four_units (reading_by (frame_in c u (heard_by c u))) (pos 0) u +ℤ pos 0

  -- a unit with these figures does in the frame what it ought to, where each task has its output word
  pub conduct_by : length c.outs ≡ length c.tasks → (u : ℕ) → HasFigures u → Conduct (frame_in c u (heard_by c u))
  conduct_by count u g = record {
    busy = refl;
    inputs_count = refl;
    inputs = g.ins;
    outputs_count = count;
    outputs = g.votes;
    polls = λ v. set.contains-empty nat_cmp v ∙ sym (none_pass (poll_catches (frame_in c u (heard_by c u))) (λ v e. rw e refl) g.polls v);
    relays = λ v. set.contains-empty nat_cmp v ∙ sym (none_pass (relay_catches (frame_in c u (heard_by c u))) (λ v e. rw e refl) g.relays v);
    clocks = λ v. set.contains-empty nat_cmp v ∙ sym (none_pass (clock_catches (frame_in c u (heard_by c u))) (λ v e. rw e refl) g.clocks v);
    next_cfg = g.cfg ∙ ap (λ (own : ℕ). next_by (names_with u own) four_units) (sym no_report);
    next_clk = g.clk;
  }

  heard_of : (u p : ℕ) (k : Slot) → Call (mission_of c) four_units k p u → heard_by c u k p ≡ Some (word_in c k)
  heard_of u p k call = rw (call_is (mission_of c) four_units k p u call) refl

  -- each unit's own words are those of the slots
  pub own_words : ((w : ℕ) → w < length c.tasks → (mission_of c).word w c.sensed c.outs c.starts ≡ slice_index c.outs w)
      → (u : ℕ) (k : Slot) (q : ℕ) → calls (mission_of c) four_units k u q ≡ true → own_word (frame_in c u (heard_by c u)) k ≡ Some (word_in c k)
  own_words makes u Clock q t = refl
  own_words makes u (Sense x) q t = refl
  own_words makes u (RelaySense x) q t =
      let call = call_of (mission_of c) four_units (RelaySense x) u q t in
      heard_of u (reader_of four_units x) (Sense x) (record {
        slot = call.slot;
        from = reader_in four_units x (omega arith);
        to = call.from;
        other = λ e. told_apart u (reader_of four_units x) call.sender (sym e);
        sender = eq-eqb (reader_of four_units x) (reader_of four_units x) refl;
      })
  own_words makes u (Out w) q t = ap (λ n. Some n) (makes w (ltb-true w (length c.tasks) (call_of (mission_of c) four_units (Out w) u q t).slot))
  own_words makes u Report q t = ap (λ n. Some n) no_report
  own_words makes u (RelayReport s) q t =
      let call = call_of (mission_of c) four_units (RelayReport s) u q t in
      let d = and_parts (has four_units s) (not (nat_eq u s) && not (nat_eq q s)) call.sender in
      let e = and_parts (not (nat_eq u s)) (not (nat_eq q s)) d.1 in
      heard_of u s Report (record { slot = refl; from = d.0; to = call.from; other = λ z. told_apart u s e.0 (sym z); sender = refl })
