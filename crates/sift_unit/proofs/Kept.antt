-- What a slot that was heard, and a task that was run, leave of all else in the memory.
use Rattle.std.proofs.Common.{◌≡◌, ◌≢◌, ℕ, List, length, true, false, Option, refl, sym, ap, ◌∙◌, ne_eqb, arith, get_or-set_other, length-set}
use Rattle.std.specs.Prelude.{ℤ, nat_lt}
use Rattle.std.specs.FinSet as set
use Rattle.sift_base.specs.Units.{has, holds}
use Rattle.sift_base.specs.declared.slots.Slot.{Slot}
use Rattle.sift_base.specs.declared.slots.Slot.TheVariants.{Clock, Sense, RelaySense, Out, Report, RelayReport}
use Rattle.sift_base.specs.laws.ReadBack.{false_last}
use Rattle.sift_mission.specs.Data.{FlownMission}
use Rattle.sift_mission.specs.Fits.{is_caught_in}
use Rattle.sift_conduct.specs.Conduct.{Account, Places, UnitFrame, unit_frame}
use Rattle.sift_unit_frame.specs.Memory.{Memory, note, run, is_made_by}
use Rattle.sift_unit_frame.specs.Tidings.{busy_account}
use Rattle.sift_unit_frame.specs.Conditions.{IsShaped}
use Rattle.sift_unit_frame.specs.laws.Sets.{renewed-other, length-renewed}
use Rattle.sift_unit.specs.Remembered.{Heard, Ran, Matches, Settled}

module _ (m : FlownMission) (us : List ℕ) (u f : ℕ) (clk : ℤ) (a : Account) (h : Places) (last : List ℕ) where
  -- the unit in the frame
  abbrev here : UnitFrame
  here = unit_frame m us u f a h last

  -- what comes of another slot stays
  pub heard_kept : (k k' : Slot) (heard : List (Option ℕ)) (b : Memory) → k' ≢ k → Heard here clk b k' →
      Heard here clk (note m us u f clk last k heard b) k'
  heard_kept Clock Clock heard b ne z = absurd (ne refl)
  heard_kept (Sense x) (Sense y) heard b ne z = λ other. get_or-set_other b.direct x y _ _ (λ e. ne (ap Sense e)) ∙ z other
  heard_kept (RelaySense x) (RelaySense y) heard b ne z = (
    get_or-set_other b.ins x y _ 0 (λ e. ne (ap RelaySense e)) ∙ z.0,
    λ v. ap (λ s. holds s v) (get_or-set_other b.relay x y _ set.empty (λ e. ne (ap RelaySense e))) ∙ z.1 v,
  )
  heard_kept (Out x) (Out y) heard b ne z = (
    get_or-set_other b.outs x y _ 0 (λ e. ne (ap Out e)) ∙ z.0,
    λ v. ap (λ s. holds s v) (get_or-set_other b.poll x y _ set.empty (λ e. ne (ap Out e))) ∙ z.1 v,
  )
  heard_kept Report Report heard b ne z = absurd (ne refl)
  heard_kept (RelayReport x) (RelayReport y) heard b ne z =
      λ member other. get_or-set_other b.agreed x y _ 0 (λ e. ne (ap RelayReport e)) ∙ z member other
  heard_kept k k' heard b ne z = z

  -- a slot that is heard changes no word that was made
  pub ran_heard : (w : ℕ) (k : Slot) (heard : List (Option ℕ)) (b : Memory) → Ran here b w → Ran here (note m us u f clk last k heard b) w
  ran_heard w Clock heard b z = z
  ran_heard w (Sense x) heard b z = z
  ran_heard w k heard b z = z

  -- a task that is run changes nothing that was heard
  pub heard_run : (t : ℕ) (k' : Slot) (b : Memory) → Heard here clk b k' → Heard here clk (run m us u last t b) k'
  heard_run t Clock b z = z
  heard_run t k' b z = z

  -- the words of another task stay
  pub ran_kept : (t w : ℕ) (b : Memory) → m.task w ≢ t → Ran here b w → Ran here (run m us u last t b) w
  ran_kept t w b ne z = λ e.
      renewed-other (is_made_by m us u t) (λ v. m.word v b.ins b.outs last) b.made w 0 w (omega arith) (rw (ne_eqb (m.task w) t ne) (false_last (nat_lt w m.words))) ∙ z e

  -- an account that matches afterwards matched in what another slot settled
  pub matches_back : (k' k : Slot) (heard : List (Option ℕ)) (b : Memory) → k' ≢ k → Matches (note m us u f clk last k heard b) a k' → Matches b a k'
  matches_back (RelaySense y) (RelaySense x) heard b ne z = sym (get_or-set_other b.ins x y _ 0 (λ e. ne (ap RelaySense e))) ∙ z
  matches_back (Out y) (Out x) heard b ne z = sym (get_or-set_other b.outs x y _ 0 (λ e. ne (ap Out e))) ∙ z
  matches_back k' k heard b ne z = z

  -- and in all, where a task was run
  pub matches_run : (t : ℕ) (k' : Slot) (b : Memory) → Matches (run m us u last t b) a k' → Matches b a k'
  matches_run t Clock b z = z
  matches_run t k' b z = z

  -- a slot that catches nobody for the report leaves the catches
  pub settled_back : (k : Slot) (heard : List (Option ℕ)) (b : Memory) → is_caught_in k ≡ false →
      Settled m us (note m us u f clk last k heard b) a → Settled m us b a
  settled_back (Sense x) heard b none z = z
  settled_back Report heard b none z = z
  settled_back (RelayReport s) heard b none z = z
  settled_back Clock heard b none z = absurd (let w : ⊥ = cc in w)
  settled_back (RelaySense x) heard b none z = absurd (let w : ⊥ = cc in w)
  settled_back (Out w) heard b none z = absurd (let w : ⊥ = cc in w)

  -- and so does a task that is run
  pub settled_run : (t : ℕ) (b : Memory) → Settled m us (run m us u last t b) a → Settled m us b a
  settled_run t b z = z

-- ---- the own account

-- what a board would account for now matches what it settled
pub matches_own : (m : FlownMission) (us : List ℕ) (u : ℕ) (clk : ℤ) (b : Memory) (k : Slot) → Matches b (busy_account m us u clk b) k
matches_own m us u clk b Clock = tt
matches_own m us u clk b (Sense x) = tt
matches_own m us u clk b (RelaySense x) = refl
matches_own m us u clk b (Out w) = refl
matches_own m us u clk b Report = tt
matches_own m us u clk b (RelayReport s) = tt

-- ---- lengths

-- a unit that is in its configuration has a made word for each word of the mission
pub made_long : (m : FlownMission) (us : List ℕ) (u : ℕ) (b : Memory) → IsShaped m us u b → has us u ≡ true → length b.made ≡ m.words
made_long m us u b s member = s.made ∙ rw member refl

module _ (m : FlownMission) where
  -- a slot that is heard keeps the lengths
  pub shape_noted : (us : List ℕ) (u f : ℕ) (clk : ℤ) (last : List ℕ) (k : Slot) (heard : List (Option ℕ)) (b : Memory) → IsShaped m us u b →
      IsShaped m us u (note m us u f clk last k heard b)
  shape_noted us u f clk last Clock heard b s =
      record { direct = s.direct; ins = s.ins; relay = s.relay; made = s.made; outs = s.outs; poll = s.poll; agreed = s.agreed }
  shape_noted us u f clk last (Sense x) heard b s = record {
    direct = rw (length-set b.direct x _) s.direct;
    ins = s.ins;
    relay = s.relay;
    made = s.made;
    outs = s.outs;
    poll = s.poll;
    agreed = s.agreed;
  }
  shape_noted us u f clk last (RelaySense x) heard b s = record {
    direct = s.direct;
    ins = length-set b.ins x _ ∙ s.ins;
    relay = rw (length-set b.relay x _) s.relay;
    made = s.made;
    outs = s.outs;
    poll = s.poll;
    agreed = s.agreed;
  }
  shape_noted us u f clk last (Out w) heard b s = record {
    direct = s.direct;
    ins = s.ins;
    relay = s.relay;
    made = s.made;
    outs = length-set b.outs w _ ∙ s.outs;
    poll = rw (length-set b.poll w _) s.poll;
    agreed = s.agreed;
  }
  shape_noted us u f clk last Report heard b s =
      record { direct = s.direct; ins = s.ins; relay = s.relay; made = s.made; outs = s.outs; poll = s.poll; agreed = s.agreed }
  shape_noted us u f clk last (RelayReport v) heard b s = record {
    direct = s.direct;
    ins = s.ins;
    relay = s.relay;
    made = s.made;
    outs = s.outs;
    poll = s.poll;
    agreed = rw (length-set b.agreed v _) s.agreed;
  }

  -- and so does a task that is run
  pub shape_run : (us : List ℕ) (u : ℕ) (last : List ℕ) (t : ℕ) (b : Memory) → IsShaped m us u b → IsShaped m us u (run m us u last t b)
  shape_run us u last t b s = record {
    direct = s.direct;
    ins = s.ins;
    relay = s.relay;
    made = length-renewed (is_made_by m us u t) (λ w. m.word w b.ins b.outs last) b.made 0 ∙ s.made;
    outs = s.outs;
    poll = s.poll;
    agreed = s.agreed;
  }
