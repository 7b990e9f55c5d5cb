-- In a frame that is made each unit does what its conduct says.
use Rattle.std.proofs.Common.{◌≡◌, ⊎_elim, ℕ, zero, suc, ◌<◌, ◌≤◌, List, [], ◌∷◌, ◌++◌, length, map, slice_index, Bool, true, false, ◌&&◌, nat_eq, if◌then◌else◌, Some, refl, sym, ap, ◌∙◌, subst, arith, ltb-true, length-append}
use Rattle.std.specs.FinSet as set
use Rattle.std.specs.List.{filter}
use Rattle.std.proofs.lemmas.Bool.{cases_lt}
use Rattle.std.proofs.lemmas.List.{get_or_append_left}
use Rattle.std.proofs.Math.Seq.{get_or-append_seam}
use Rattle.sift_base.specs.Units.{has, holds}
use Rattle.sift_base.specs.declared.slots.Slot.{Slot}
use Rattle.sift_base.specs.declared.slots.Slot.TheVariants.{Clock, Sense, RelaySense, Out, Report, RelayReport}
use Rattle.sift_base.specs.laws.ReadBack.{has-filter}
use Rattle.sift_vote.specs.Majority.{agreed_of}
use Rattle.sift_mission.specs.Data.{FlownMission}
use Rattle.sift_mission.specs.Slots.{executors, is_held, calls}
use Rattle.sift_mission.specs.Fits.{Fits}
use Rattle.sift_mission.specs.laws.Calls.{call_of}
use Rattle.sift_conduct.specs.Conduct.{own_word, Conduct}
use Rattle.sift_conduct.specs.Frames.{IdleConduct}
use Rattle.sift_flight.specs.Existence.{StrayHearing}
use Rattle.sift_flight.proofs.Making.{Start, row, set_by, own_by, inputs, vote_by, outs_to, outputs, out_word, report_word, heard_here, busy_account, account_here, frame_here}

-- ---- rows and sets

-- a row has as many numbers as are asked for
pub row_count : (rule : ℕ → ℕ) (n : ℕ) → length (row rule n) ≡ n
row_count rule zero = refl
row_count rule (suc n) = length-append (row rule n) (rule n ∷ []) ∙ let e = row_count rule n in omega (arith, e)

-- each by the rule
pub row_at : (rule : ℕ → ℕ) (n i : ℕ) → i < n → slice_index (row rule n) i ≡ rule i
row_at rule zero i low = absurd (omega arith)
row_at rule (suc n) i low =
    let count = row_count rule n in
    ⊎_elim
    (λ (z : i < n). get_or_append_left (row rule n) (rule n ∷ []) 0 i (omega (arith, count)) ∙ row_at rule n i z)
    (λ (z : n ≤ i).
    let e : i ≡ length (row rule n) = omega (arith, count) in
    ap (λ j. slice_index (row rule n ++ (rule n ∷ [])) j) e ∙ (get_or-append_seam (row rule n) (rule n) [] 0 ∙ ap rule (sym count ∙ sym e)))
    (cases_lt i n)

-- a set by a test that passes for units of the configuration alone holds those that pass
pub set_holds : (test : ℕ → Bool) (us : List ℕ) (v : ℕ) → holds (set_by (λ u. has us u && test u) us) v ≡ (has us v && test v)
set_holds test us v =
    set.contains-from_list_nat (filter (λ u. has us u && test u) us) v ∙ (has-filter (λ u. has us u && test u) us v ∙ once (has us v) (test v))
  where
    once : (a b : Bool) → ((a && b) && a) ≡ (a && b)
    once true true = refl
    once true false = refl
    once false b = refl

module _ (m : FlownMission) (stray : StrayHearing) (f : ℕ) (start : ℕ → Start) (fits : Fits m) where
  -- the words that a unit votes are a row
  outs_row : (n u : ℕ) → outs_to m stray f start n u ≡ row (λ w. vote_by m stray f start (outs_to m stray f start w) w u) n
  outs_row zero u = refl
  outs_row (suc n) u = ap (λ l. l ++ (vote_by m stray f start (outs_to m stray f start n) n u ∷ [])) (outs_row n u)

  outs_count : (n u : ℕ) → length (outs_to m stray f start n u) ≡ n
  outs_count n u = ap length (outs_row n u) ∙ row_count _ n

  outs_at : (n w u : ℕ) → w < n → slice_index (outs_to m stray f start n u) w ≡ vote_by m stray f start (outs_to m stray f start w) w u
  outs_at n w u low = ap (λ l. slice_index l w) (outs_row n u) ∙ row_at _ n w low

  -- a word is made of all outputs as it is of those before it
  made_early : (w u : ℕ) → w < m.words → m.word w (inputs m stray f start u) (outputs m stray f start u) (start u).last
      ≡ m.word w (inputs m stray f start u) (outs_to m stray f start w u) (start u).last
  made_early w u low = fits.read.reads w (inputs m stray f start u) (inputs m stray f start u) (outputs m stray f start u) (outs_to m stray f start w u) (start u).last low
      (λ x x_low t. refl)
      (λ v v_low t. let before = fits.read.earlier w v low v_low t in outs_at m.words v u v_low ∙ sym (outs_at w v u before))

  -- each unit's own word, as it is made, is that of its conduct, where it says the slot
  pub own_is : (k : Slot) (p q : ℕ) → calls m (start p).cfg k p q ≡ true →
      own_by m stray f start (out_word m stray f start) (report_word m stray f start) k p
      ≡ own_word (frame_here m stray f start p (account_here m stray f start p)) k
  own_is Clock p q t = refl
  own_is (Sense x) p q t = refl
  own_is (RelaySense x) p q t = refl
  own_is (Out w) p q t =
      let c = call_of m (start p).cfg (Out w) p q t in
      rw c.from (ap (λ n. Some n) (sym (made_early w p (ltb-true w m.words c.slot))))
  own_is Report p q t = refl
  own_is (RelayReport s) p q t = refl

  -- the conduct of a unit that is in its configuration
  busy_is : (u : ℕ) → has (start u).cfg u ≡ true → Conduct (frame_here m stray f start u (busy_account m stray f start u))
  busy_is u t = record {
    busy = rw t refl;
    inputs_count = row_count _ m.sensors;
    inputs = λ s low. row_at _ m.sensors s low;
    outputs_count = outs_count m.words u;
    outputs = λ w low. outs_at m.words w u low ∙ (λ i.
        if is_held m (start u).cfg w then slice_index (start u).last w
        else agreed_of (map (λ v. if nat_eq v u then Some (sym (made_early w u low) i) else heard_here m stray f start u (Out w) v)
        (executors m (start u).cfg w)));
    polls = λ v. set_holds _ (start u).cfg v;
    relays = λ v. set_holds _ (start u).cfg v;
    clocks = λ v. set_holds _ (start u).cfg v;
    next_cfg = refl;
    next_clk = refl;
  }

  -- a unit in its configuration has that account
  account_is : (u : ℕ) → has (start u).cfg u ≡ true → account_here m stray f start u ≡ busy_account m stray f start u
  account_is u t = rw t refl

  -- a unit in its configuration is busy, and does in the frame that is made what it ought to
  pub busy_here : (u : ℕ) → has (start u).cfg u ≡ true → Conduct (frame_here m stray f start u (account_here m stray f start u))
  busy_here u t = subst (λ a. Conduct (frame_here m stray f start u a)) (sym (account_is u t)) (busy_is u t)

  -- and one outside it is idle
  pub idle_here : (u : ℕ) → has (start u).cfg u ≡ false → IdleConduct (account_here m stray f start u)
  idle_here u t = rw t refl
