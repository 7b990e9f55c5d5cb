-- Two flights of which one frame is that of a round flight, and which begin it alike, have the same inputs and outputs in it.
use Rattle.std.proofs.Common.{◌≡◌, ⊎_elim, ℕ, zero, suc, ◌<◌, ◌≤◌, List, map, slice_index, true, false, nat_eq, if◌then◌else◌, Some}
use Rattle.std.proofs.Common.{refl, sym, ap, ◌∙◌, subst, arith, ltb-true}
use Rattle.std.proofs.lemmas.Bool.{cases_lt}
use Rattle.std.proofs.lemmas.Grind.{same_number_lists}
use Rattle.sift_base.specs.Word.{word_of}
use Rattle.sift_base.specs.Units.{has}
use Rattle.sift_base.specs.declared.slots.Slot.TheVariants.{Clock, Sense, RelaySense, Out}
use Rattle.sift_vote.specs.Majority.{agreed_of}
use Rattle.sift_config.specs.Config.{reader_of}
use Rattle.sift_agree.specs.Agreement.{taken}
use Rattle.sift_mission.specs.Data.{FlownMission}
use Rattle.sift_mission.specs.Slots.{executors, is_held}
use Rattle.sift_mission.specs.laws.Calls.{call_of}
use Rattle.sift_conduct.specs.Conduct.{Account, UnitFrame, unit_frame, input_of, made, polled, voted, Conduct}
use Rattle.sift_conduct.specs.Frames.{last_of, Flies, IdleConduct}
use Rattle.sift_flight.specs.Flight.{Flight, config_of, Strays}
use Rattle.sift_flight.specs.Existence.{StrayHearing}
use Rattle.sift_flight.proofs.Same.{AreBothRound, HearAlike, conduct_other, busy_one, idle_one, by_place, say, hear}

module _ (m : FlownMission) (strays strays' : Strays) (stray : StrayHearing) (fl gl : Flight) (f : ℕ) (b : AreBothRound m strays strays' stray fl gl f) where
  abbrev us : ℕ → List ℕ
  us u = config_of gl u f

  -- a unit in the frame, by the second flight's configuration
  abbrev frame_one : ℕ → UnitFrame
  frame_one u = unit_frame m (us u) u f (fl.account u f) (fl.heard u f) (last_of m (fl.account u) f)

  abbrev frame_other : ℕ → UnitFrame
  frame_other u = unit_frame m (us u) u f (gl.account u f) (gl.heard u f) (last_of m (gl.account u) f)

  -- the clocks' words are heard alike in both flights
  pub heard_clock : HearAlike m fl gl f Clock
  heard_clock = hear m strays strays' stray fl gl f b Clock (say m strays strays' stray fl gl f b Clock (λ u q hu t. ap (λ c. Some (word_of c)) (b.clk u hu)))

  -- the word of each sensor is heard alike, as its reader says it
  pub heard_sense : (x : ℕ) → HearAlike m fl gl f (Sense x)
  heard_sense x = hear m strays strays' stray fl gl f b (Sense x) (say m strays strays' stray fl gl f b (Sense x) (λ u q hu t. refl))

  -- the relays of each sensor's word are heard alike
  pub heard_relay : (x : ℕ) → HearAlike m fl gl f (RelaySense x)
  heard_relay x = hear m strays strays' stray fl gl f b (RelaySense x) (say m strays strays' stray fl gl f b (RelaySense x) (λ u q hu t. ap (λ h. h (reader_of (us u) x)) (heard_sense x u hu)))

  -- the busy conduct of both
  abbrev one : (u : ℕ) → Flies m u f → has (us u) u ≡ true → Conduct (frame_one u)
  one u hu t = busy_one m strays strays' stray fl gl f b u hu t

  abbrev other : (u : ℕ) → Flies m u f → has (us u) u ≡ true → Conduct (frame_other u)
  other u hu t = (conduct_other m strays strays' stray fl gl f b u hu).busy t

  abbrev idle : (u : ℕ) → Flies m u f → has (us u) u ≡ false → IdleConduct (fl.account u f) × IdleConduct (gl.account u f)
  idle u hu t = (idle_one m strays strays' stray fl gl f b u hu t, (conduct_other m strays strays' stray fl gl f b u hu).idle t)

  -- the inputs are the same
  pub ins_same : (u : ℕ) → Flies m u f → (fl.account u f).ins ≡ (gl.account u f).ins
  ins_same u hu = by_place m strays strays' stray fl gl f b (λ u. (fl.account u f).ins ≡ (gl.account u f).ins) u
      (λ t.
      let cf = one u hu t in
      let cg = other u hu t in
      same_number_lists (fl.account u f).ins (gl.account u f).ins (cf.inputs_count ∙ sym cg.inputs_count)
      (λ x x_low. let within : x < m.sensors = omega (arith, cf.inputs_count) in cf.inputs x within ∙ (same x ∙ sym (cg.inputs x within))))
      (λ t. let i = idle u hu t in ap (λ (z : Account). z.ins) i.0 ∙ sym (ap (λ (z : Account). z.ins) i.1))
    where
      same : (x : ℕ) → input_of (frame_one u) x ≡ input_of (frame_other u) x
      same x = λ i. if nat_eq (reader_of (us u) x) u then m.sensed x f else agreed_of (taken (us u) (reader_of (us u) x) u
          (λ q. heard_sense x u hu i (reader_of (us u) x)) (λ q p. heard_relay x u hu i p))

  -- words below a number are voted alike
  pub SameOuts : ℕ → Type 0
  SameOuts n = (w u : ℕ) → w < n → Flies m u f → slice_index (fl.account u f).outs w ≡ slice_index (gl.account u f).outs w

  pub made_same : (w : ℕ) → w < m.words → SameOuts w → (u : ℕ) → Flies m u f → made (frame_one u) w ≡ made (frame_other u) w
  unfolding SameOuts
  made_same w low outs u hu =
      b.fits.read.reads w (fl.account u f).ins (fl.account u f).ins (fl.account u f).outs (gl.account u f).outs (last_of m (fl.account u) f) low
      (λ x x_low t. refl)
      (λ v v_low t. outs v u (b.fits.read.earlier w v low v_low t) hu)
      ∙ (λ i. m.word w (ins_same u hu i) (gl.account u f).outs (b.last u hu i))

  -- an output word is heard alike, where the words below it are voted alike
  pub heard_out : (w : ℕ) → (w < m.words → SameOuts w) → HearAlike m fl gl f (Out w)
  heard_out w outs = hear m strays strays' stray fl gl f b (Out w) (say m strays strays' stray fl gl f b (Out w) (λ u q hu t.
      let low = ltb-true w m.words (call_of m (us u) (Out w) u q t).slot in ap (λ n. Some n) (made_same w low (outs low) u hu)))

  -- a unit polls the same places of an output word in both flights, where the words below it are voted alike
  pub polled_same : (w : ℕ) → w < m.words → SameOuts w → (u : ℕ) → Flies m u f
      → polled (frame_one u) w ≡ polled (frame_other u) w
  polled_same w low outs u hu = λ i v. if nat_eq v u then Some (made_same w low outs u hu i) else heard_out w (λ z. outs) u hu i v

  voted_same : (w : ℕ) → w < m.words → SameOuts w → (u : ℕ) → Flies m u f
      → voted (frame_one u) w ≡ voted (frame_other u) w
  voted_same w low outs u hu = λ i. if is_held m (us u) w then slice_index (b.last u hu i) w else agreed_of (map (polled_same w low outs u hu i) (executors m (us u) w))

  vote_same : (w : ℕ) → w < m.words → SameOuts w → (u : ℕ) → Flies m u f → slice_index (fl.account u f).outs w ≡ slice_index (gl.account u f).outs w
  vote_same w low outs u hu = by_place m strays strays' stray fl gl f b (λ u. slice_index (fl.account u f).outs w ≡ slice_index (gl.account u f).outs w) u
      (λ t. (one u hu t).outputs w low ∙ (voted_same w low outs u hu ∙ sym ((other u hu t).outputs w low)))
      (λ t. let i = idle u hu t in ap (λ (z : Account). slice_index z.outs w) i.0 ∙ sym (ap (λ (z : Account). slice_index z.outs w) i.1))

  -- all output words of the mission below a number are voted alike in both flights
  pub outs_same : (n : ℕ) → n ≤ m.words → SameOuts n
  unfolding SameOuts
  outs_same zero few w u w_low hu = absurd (omega arith)
  outs_same (suc n) few w u w_low hu = ⊎_elim (λ (z : w < n). outs_same n (omega arith) w u z hu)
      (λ (z : n ≤ w). let e : n ≡ w = omega arith in
      subst (λ v. slice_index (fl.account u f).outs v ≡ slice_index (gl.account u f).outs v) e (vote_same n few (outs_same n (omega arith)) u hu)) (cases_lt w n)

  -- all outputs
  pub all_outs : (u : ℕ) → Flies m u f → (fl.account u f).outs ≡ (gl.account u f).outs
  unfolding SameOuts
  all_outs u hu = by_place m strays strays' stray fl gl f b (λ u. (fl.account u f).outs ≡ (gl.account u f).outs) u
      (λ t.
      let cf = one u hu t in
      let cg = other u hu t in
      same_number_lists (fl.account u f).outs (gl.account u f).outs (cf.outputs_count ∙ sym cg.outputs_count)
      (λ w w_low. outs_same m.words (omega arith) w u (omega (arith, cf.outputs_count)) hu))
      (λ t. let i = idle u hu t in ap (λ (z : Account). z.outs) i.0 ∙ sym (ap (λ (z : Account). z.outs) i.1))
