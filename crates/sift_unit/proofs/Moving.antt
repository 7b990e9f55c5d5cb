-- A board moves on within its frame, with its memory as it is.
use Rattle.std.proofs.Common.{◌≡◌, ◌⊎◌, inl, inr, ℕ, ◌+◌, ◌*◌, ◌<◌, ◌≤◌, List, length, true, false, Option, Some, sym, ap, ◌∙◌, subst, arith}
use mathlib.Core.Logic.{dite}
use native.Mathlib.Decide.{ℕ_discrete}
use Rattle.sift_base.specs.Units.{has, unit_limit}
use Rattle.sift_base.specs.declared.slots.Slot.{Slot}
use Rattle.sift_buffer.specs.Conduct.{Hearing}
use Rattle.sift_buffer.specs.Conduct.{Conduct as Acts}
use Rattle.sift_mission.specs.Data.{FlownMission}
use Rattle.sift_mission.specs.Slots.{is_slot, calls}
use Rattle.sift_mission.specs.Fits.{Fits}
use Rattle.sift_mission.specs.laws.Tasks.{few_tasks}
use Rattle.sift_mission.specs.Stops.{spot, hear_spot, say_spot}
use Rattle.sift_unit.specs.Desk.{Desk, cursor, heard_mark, run_mark, moved}
use Rattle.sift_unit.specs.Going.{Accounts, Words, ActsTo, Fate, Meets, InRange, Going, HasHeard}
use Rattle.sift_unit.proofs.Acting.{acts_on}

-- no mark lies between two places
pub record Free (m : FlownMission) (us : List ℕ) (u at at' : ℕ) : Type 0 where
  pub up : at ≤ at'
  pub heard : has us u ≡ true → (k : Slot) → is_slot m k ≡ true → heard_mark m us k ≤ at' → heard_mark m us k ≤ at
  pub ran : has us u ≡ true → (t : ℕ) → t < m.tasks → run_mark m us t ≤ at' → run_mark m us t ≤ at

-- what was heard is still known
abbrev pub Grows : FlownMission → Acts → Acts → Type 0
Grows m c c' = (f : ℕ) (k : Slot) (p : ℕ) (x : Hearing) → is_slot m k ≡ true → c.heard f (m.number k) p ≡ Some x → c'.heard f (m.number k) p ≡ Some x

module _ (m : FlownMission) (fit : Fits m) where
  -- a fate of the board further on is one of the board before
  pub fate_back : (b : Desk) (i t k o : ℕ) (ps : List (Option ℕ)) (c c' : Acts) (a : Accounts) (h : Words) → cursor b ≤ spot i t k o → Grows m c c' →
      Fate m (moved b i t k o ps) c' a h → Fate m b c a h
  fate_back b i t k o ps c c' a h up grows fate = record {
    heard = λ f k p x slot e. fate.heard f k p x slot (grows f k p x slot e);
    accounts = fate.accounts;
    cfg = fate.cfg;
    clk = fate.clk;
    agrees = λ t. let ag = fate.agrees t in record { matches = λ k slot low. ag.matches k slot (omega arith); settled = λ low. ag.settled (omega arith) };
  }

  -- what held before holds further on, with the acts and the places there
  pub meets_on : (b : Desk) (i t k o : ℕ) (ps : List (Option ℕ)) (c c' : Acts) (a : Accounts) (h : Words) → Free m b.cfg b.unit (cursor b) (spot i t k o) →
      Meets m b c a h → ActsTo m b.unit c' a h b.frame (spot i t k o) → HasHeard m (moved b i t k o ps) h → Meets m (moved b i t k o ps) c' a h
  meets_on b i t k o ps c c' a h free mt acts places = record {
    acts = acts;
    ended = mt.ended;
    begins = mt.begins;
    last = mt.last;
    places = places;
    remembers = λ t. let rm = mt.remembers t in record {
      heard = λ k slot low. rm.heard k slot (free.heard t k slot low);
      ran = λ w few low. rm.ran w few (free.ran t (m.task w) (fit.counted.task w few) low);
    };
  }

  -- no mark lies between a place and the next of its slot
  pub free_place : (b : Desk) → InRange m b → b.slot < m.slots → b.other < unit_limit → Free m b.cfg b.unit (cursor b) (spot b.subframe b.part b.slot (b.other + 1))
  free_place b r low here = let few = fit.numbered.few in let part = r.part in record {
    up = omega arith;
    heard = λ t k slot low'. let nk = fit.numbered.low k slot in omega arith;
    ran = λ t k slot low'. let nk = few_tasks m fit in omega arith;
  }

  -- a board in range stays so at another place of its frame
  pub range_at : (b : Desk) (i t k o : ℕ) (ps : List (Option ℕ)) → InRange m b → i < m.period → t ≤ 2 → k ≤ m.slots → o ≤ unit_limit →
      length ps ≡ unit_limit → InRange m (moved b i t k o ps)
  range_at b i t k o ps r inside part slot other wide = record {
    unit = r.unit;
    frame = r.frame;
    subframe = inside;
    part = part;
    slot = slot;
    other = other;
    count = r.count;
    config = r.config;
    configs = r.configs;
    clk = r.clk;
    clocks = r.clocks;
    last = r.last;
    places = wide;
    shape = r.shape;
  }

  -- and at the next place of its slot
  pub range_place : (b : Desk) (ps : List (Option ℕ)) → InRange m b → b.other < unit_limit → length ps ≡ unit_limit →
      InRange m (moved b b.subframe b.part b.slot (b.other + 1) ps)
  range_place b ps r here wide = range_at b b.subframe b.part b.slot (b.other + 1) ps r r.subframe r.part r.slot (omega arith) wide

  -- ---- places at which nothing is to be said or heard

  -- a move past such places
  pub record Skips (b : Desk) (i t k o : ℕ) : Type 0 where
    pub free : Free m b.cfg b.unit (cursor b) (spot i t k o)
    pub says : (k' : Slot) (q : ℕ) → calls m b.cfg k' b.unit q ≡ true → say_spot m b.cfg k' q < spot i t k o → say_spot m b.cfg k' q < cursor b
    pub hears : (k' : Slot) (p : ℕ) → calls m b.cfg k' p b.unit ≡ true → hear_spot m b.cfg k' p < spot i t k o → hear_spot m b.cfg k' p < cursor b
    pub subframe : i < m.period
    pub part : t ≤ 2
    pub slot : k ≤ m.slots
    pub other : o ≤ unit_limit

  -- it stays in range
  pub skip_range : (b : Desk) (i t k o : ℕ) → InRange m b → Skips b i t k o → InRange m (moved b i t k o b.places)
  skip_range b i t k o r s = range_at b i t k o b.places r s.subframe s.part s.slot s.other r.places

  -- a move within a slot is to the next unit, past one from which nothing is to be heard
  pub record NextPlace (b : Desk) (i t k o : ℕ) : Type 0 where
    pub subframe : i ≡ b.subframe
    pub part : t ≡ b.part
    pub slot : k ≡ b.slot
    pub other : o ≡ b.other + 1
    pub quiet : t ≡ 0 → i ≡ m.heard_in b.cfg (m.kind b.slot) → calls m b.cfg (m.kind b.slot) b.other b.unit ≡ false

  -- a board keeps what holds of it
  pub skip_going : (b : Desk) (i t k o : ℕ) (c : Acts) (n : ℕ) → Going m b c → Skips b i t k o → (o ≡ 0) ⊎ NextPlace b i t k o →
      n ≡ b.frame * m.period + i → Going m (moved b i t k o b.places) (record c { progress = n })
  skip_going b i t k o c n g s stay np = let r = g.range in record {
    range = skip_range b i t k o r s;
    progress = np;
    left = g.left;
    meets = λ a h fate'.
        let c' = record c { progress = n } in
        let fate = fate_back b i t k o b.places c c' a h s.free.up (λ f k p x slot e. e) fate' in
        let mt = g.meets a h fate in
        let acts : ActsTo m b.unit c a h b.frame (spot i t k o)
        = acts_on m fit b.unit a h b.frame b.cfg r.config fate.cfg c (cursor b) (spot i t k o) s.free.up s.says s.hears mt.acts in
        meets_on b i t k o b.places c c' a h s.free mt (record { said = acts.said; heard = acts.heard }) (λ zero few sub p below call. elim stay [
          | inl e ↦ absurd (omega arith)
          | inr e ↦
              let sub' : b.subframe ≡ m.heard_in b.cfg (m.kind b.slot) = sym e.subframe ∙ (sub ∙ ap (λ z. m.heard_in b.cfg (m.kind z)) e.slot) in
              let call' : calls m b.cfg (m.kind b.slot) p b.unit ≡ true = subst (λ z. calls m b.cfg (m.kind z) p b.unit ≡ true) e.slot call in
              let before : p < b.other = dite (ℕ_discrete p b.other)
              (λ z. absurd (let no' = e.quiet zero (e.subframe ∙ sub') in let yes' : calls m b.cfg (m.kind b.slot) b.other b.unit ≡ true = rw (← z) call' in let w : ⊥ = cc in w))
              (λ z. let o' = e.other in omega arith) in
              rw e.slot (mt.places (sym e.part ∙ zero) (subst (λ z. z < m.slots) e.slot few) sub' p before call')
        ]);
  }
