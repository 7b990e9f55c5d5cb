-- A board concludes a slot that it has heard, and runs a task.
use Rattle.std.proofs.Common.{◌≡◌, ◌≢◌, inl, inr, ℕ, ◌+◌, ◌<◌, ◌≤◌, true, false, sym, ap, ◌∙◌, subst, arith}
use Rattle.std.proofs.lemmas.Bool.{cases_Bool}
use mathlib.Core.Logic.{dite}
use native.Mathlib.Decide.{ℕ_discrete}
use Rattle.sift_base.specs.Units.{unit_limit}
use Rattle.sift_base.specs.declared.slots.Slot.{Slot}
use Rattle.sift_buffer.specs.Conduct.{Conduct as Acts}
use Rattle.sift_mission.specs.Data.{FlownMission}
use Rattle.sift_mission.specs.Slots.{is_slot}
use Rattle.sift_mission.specs.Fits.{Fits, is_caught_in}
use Rattle.sift_mission.specs.laws.Tasks.{few_tasks}
use Rattle.sift_unit_frame.specs.Memory.{Memory, note}
use Rattle.sift_unit_frame.specs.Conditions.{IsShaped}
use Rattle.sift_mission.specs.Stops.{spot}
use Rattle.sift_unit.specs.Remembered.{Heard}
use Rattle.sift_unit.specs.Desk.{Desk, cursor, heard_mark, run_mark}
use Rattle.sift_unit.specs.Going.{Accounts, Words, ActsTo, Fate, InRange, Going, desk_frame}
use Rattle.sift_unit.proofs.Kept.{heard_kept, ran_heard, matches_back, settled_back, shape_noted}
use Rattle.sift_unit.proofs.HeardNew.{heard_new}
use Rattle.sift_unit.proofs.Acting.{small_of, acts_on}
use Rattle.sift_unit.proofs.Skipping.{kind_is}

module _ (m : FlownMission) (fit : Fits m) where
  -- the board at the next slot, with another memory
  abbrev pub onto : Desk → Memory → Desk
  onto b memory = record b { slot = b.slot + 1; other = 0; memory = memory }

  -- the memory after the slot was heard at which the board stands
  abbrev pub noted : Desk → Memory
  noted b = note m b.cfg b.unit b.frame b.clk b.last (m.kind b.slot) b.places b.memory

  -- the board stays in range
  pub range_onto : (b : Desk) (memory : Memory) → InRange m b → b.slot < m.slots → IsShaped m b.cfg b.unit memory → InRange m (onto b memory)
  range_onto b memory r low shape = record {
    unit = r.unit;
    frame = r.frame;
    subframe = r.subframe;
    part = r.part;
    slot = omega arith;
    other = omega arith;
    count = r.count;
    config = r.config;
    configs = r.configs;
    clk = r.clk;
    clocks = r.clocks;
    last = r.last;
    places = r.places;
    shape = shape;
  }

  -- a board that goes on to the next slot, with the memory after this one, stays in range
  pub note_range : (b : Desk) → InRange m b → b.slot < m.slots → InRange m (onto b (noted b))
  note_range b r low = range_onto b (noted b) r low (shape_noted m b.cfg b.unit b.frame b.clk b.last (m.kind b.slot) b.places b.memory r.shape)

  -- the acts at a slot's end
  pub slot_acts : (b : Desk) (c : Acts) (a : Accounts) (h : Words) → InRange m b → (a b.frame).cfg ≡ b.cfg → b.slot < m.slots → b.part ≤ 1 →
      (b.part ≡ 0 → b.other ≡ unit_limit) → ActsTo m b.unit c a h b.frame (cursor b) → ActsTo m b.unit c a h b.frame (spot b.subframe b.part (b.slot + 1) 0)
  slot_acts b c a h r mine low part end acts =
      let few = fit.numbered.few in let other = r.other in
      acts_on m fit b.unit a h b.frame b.cfg r.config mine c (cursor b) (spot b.subframe b.part (b.slot + 1) 0) (omega arith)
      (λ k' q t up. let sm = small_of m b.cfg k' b.unit q fit r.config t in let s1 = sm.number in let s2 = sm.to in omega arith)
      (λ k' q t up. let sm = small_of m b.cfg k' q b.unit fit r.config t in let s1 = sm.number in let s2 = sm.from in
      dite (ℕ_discrete b.part 0) (λ z. let e = end z in omega arith) (λ z. omega arith))
      acts

  -- a slot's mark that lies before the slot's end lies before the cursor, but for this slot's own
  pub heard_below : (b : Desk) (k : Slot) → InRange m b → b.slot < m.slots → is_slot m k ≡ true → (b.part ≡ 0 → m.number k ≢ b.slot) →
      heard_mark m b.cfg k ≤ spot b.subframe b.part (b.slot + 1) 0 → heard_mark m b.cfg k ≤ cursor b
  heard_below b k r low slot ne up =
      let nk = fit.numbered.low k slot in let few = fit.numbered.few in
      dite (ℕ_discrete b.part 0) (λ z. let ne' = ne z in omega arith) (λ z. omega arith)

  -- and so does a task's
  pub ran_below : (b : Desk) (t : ℕ) → InRange m b → b.slot < m.slots → t < m.tasks → (b.part ≡ 1 → t ≢ b.slot) →
      run_mark m b.cfg t ≤ spot b.subframe b.part (b.slot + 1) 0 → run_mark m b.cfg t ≤ cursor b
  ran_below b t r low tl ne up =
      let nt = few_tasks m fit in let few = fit.numbered.few in
      dite (ℕ_discrete b.part 1) (λ z. let ne' = ne z in omega arith) (λ z. omega arith)

  -- a slot of another number is another slot
  not_kind : (b : Desk) (k : Slot) → b.slot < m.slots → m.number k ≢ b.slot → k ≢ m.kind b.slot
  not_kind b k low ne e = ne (ap m.number e ∙ fit.numbered.there b.slot low)

  -- ---- a slot was heard

  -- where a board stands that has heard all of a slot
  pub record AtNote (b : Desk) : Type 0 where
    pub part : b.part ≡ 0
    pub slot : b.slot < m.slots
    pub other : b.other ≡ unit_limit
    pub subframe : b.subframe ≡ m.heard_in b.cfg (m.kind b.slot)

  -- a fate of the board afterwards is one of the board before
  note_fate : (b : Desk) (c : Acts) (a : Accounts) (h : Words) → InRange m b → AtNote b → Fate m (onto b (noted b)) c a h → Fate m b c a h
  note_fate b c a h r at fate =
      let few = fit.numbered.few in let part = at.part in let end = at.other in let sub = at.subframe in let low = at.slot in
      let k0 = m.kind b.slot in
      record {
        heard = fate.heard;
        accounts = fate.accounts;
        cfg = fate.cfg;
        clk = fate.clk;
        agrees = λ member. let ag = fate.agrees member in record {
          matches = λ k sk past.
              let nk = fit.numbered.low k sk in
              let ne : k ≢ m.kind b.slot = λ e.
              let ek : m.number k ≡ b.slot = ap m.number e ∙ fit.numbered.there b.slot low in
              let es : m.heard_in b.cfg k ≡ b.subframe = ap (λ x. m.heard_in b.cfg x) e ∙ sym sub in
              omega arith in
              matches_back m b.cfg b.unit b.frame b.clk (a b.frame) (h b.frame) b.last k k0 b.places b.memory ne (ag.matches k sk (omega arith));
          settled = λ past.
              let none : is_caught_in (m.kind b.slot) ≡ false = elim (cases_Bool (is_caught_in (m.kind b.slot))) [
                | inl t ↦ absurd (let early = fit.timed.caught b.cfg (m.kind b.slot) r.config (fit.numbered.slot b.slot low) t in omega arith)
                | inr t ↦ t
              ] in
              settled_back m b.cfg b.unit b.frame b.clk (a b.frame) (h b.frame) b.last k0 b.places b.memory none (ag.settled (omega arith));
        };
      }

  -- a board that concludes a slot keeps what holds of it
  pub note_going : (b : Desk) (c : Acts) → Going m b c → AtNote b → Going m (onto b (noted b)) c
  note_going b c g at =
      let r = g.range in let few = fit.numbered.few in let part = at.part in let end = at.other in let sub = at.subframe in let low = at.slot in
      let k0 = m.kind b.slot in
      record {
        range = note_range b r low;
        progress = g.progress;
        left = g.left;
        meets = λ a h fate'.
            let fate = note_fate b c a h r at fate' in
            let mt = g.meets a h fate in
            record {
              acts = slot_acts b c a h r fate.cfg low (omega arith) (λ z. end) mt.acts;
              ended = mt.ended;
              begins = mt.begins;
              last = mt.last;
              places = λ zero few' sub' p below call. absurd (omega arith);
              remembers = λ member.
                  let rm = mt.remembers member in
                  let new : Heard (desk_frame m b a h) b.clk (noted b) (m.kind b.slot)
                  = heard_new m b.cfg b.unit b.frame b.clk (a b.frame) (h b.frame) b.last fit r.config member k0 b.places b.memory
                  (fit.numbered.slot b.slot low) r.shape
                  (λ p call. mt.places part low sub p (let sm = small_of m b.cfg (m.kind b.slot) p b.unit fit r.config call in let s2 = sm.from in omega arith) call)
                  (λ k' sk' early. rm.heard k' sk' (let nk' = fit.numbered.low k' sk' in omega arith))
                  (λ w few' early. rm.ran w few'
                  (let nk' = fit.counted.task w few' in let nt = few_tasks m fit in let e = fit.timed.run b.cfg w r.config few' in omega arith)) in
                  record {
                    heard = λ k sk past. let nk = fit.numbered.low k sk in dite (ℕ_discrete (m.number k) b.slot)
                        (λ e. subst (λ z. Heard (desk_frame m b a h) b.clk (noted b) z) (kind_is m fit b k sk e) new)
                        (λ ne. heard_kept m b.cfg b.unit b.frame b.clk (a b.frame) (h b.frame) b.last k0 k b.places b.memory (not_kind b k low ne)
                        (rm.heard k sk (heard_below b k r low sk (λ z. ne) past)));
                    ran = λ w few' past. ran_heard m b.cfg b.unit b.frame b.clk (a b.frame) (h b.frame) b.last w k0 b.places b.memory
                        (rm.ran w few' (ran_below b (m.task w) r low (fit.counted.task w few') (λ z e. absurd (omega arith)) past));
                  };
            };
      }
