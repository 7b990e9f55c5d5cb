-- A board passes places, slots, parts and subframes at which it has nothing to do.
use Rattle.std.proofs.Common.{◌≡◌, ◌≢◌, ◌⊎◌, inl, inr, ◌+◌, ◌<◌, ◌≤◌, true, false, refl, sym, ap, ◌∙◌, arith}
use Rattle.std.proofs.lemmas.Bool.{cases_Bool, both_ways}
use mathlib.Core.Logic.{dite}
use native.Mathlib.Decide.{ℕ_discrete}
use Rattle.sift_base.specs.Units.{unit_limit}
use Rattle.sift_base.specs.declared.slots.Slot.{Slot}
use Rattle.sift_buffer.specs.Conduct.{Conduct as Acts}
use Rattle.sift_mission.specs.Data.{FlownMission}
use Rattle.sift_mission.specs.Slots.{is_slot, calls}
use Rattle.sift_mission.specs.Fits.{Fits}
use Rattle.sift_mission.specs.laws.Tasks.{few_tasks}
use Rattle.sift_mission.specs.Stops.{hear_spot, say_spot}
use Rattle.sift_unit.specs.Desk.{Desk, cursor, is_hearing, is_saying, moved}
use Rattle.sift_unit.specs.Going.{Going}
use Rattle.sift_unit.proofs.Past.{spot_same}
use Rattle.sift_unit.proofs.Acting.{small_of}
use Rattle.sift_unit.proofs.Moving.{free_place, skip_going}
use Rattle.sift_unit.proofs.Hearing.{hearing_at}
use Rattle.sift_unit.proofs.Saying.{said_on, saying_at}

module _ (m : FlownMission) (fit : Fits m) where
  -- the slot whose number is the one at which a board stands
  pub kind_is : (b : Desk) (k : Slot) → is_slot m k ≡ true → m.number k ≡ b.slot → m.kind b.slot ≡ k
  kind_is b k slot e = ap m.kind (sym e) ∙ fit.numbered.back k slot

  -- past a place that is no call
  pub pass_going : (b : Desk) (c : Acts) → Going m b c → b.slot < m.slots → b.other < unit_limit → is_hearing m b ≡ false → is_saying m b ≡ false →
      Going m (said_on m fit b) c
  pass_going b c g low here noh nos =
      let r = g.range in let few = fit.numbered.few in let part = r.part in
      let i = b.subframe in let t = b.part in let k = b.slot in let o = b.other in
      skip_going m fit b b.subframe b.part b.slot (b.other + 1) c c.progress g (record {
        free = free_place m fit b r low here;
        says = λ k' q call up.
            let sm = small_of m b.cfg k' b.unit q fit r.config call in let s1 = sm.number in let s2 = sm.to in
            let ne : say_spot m b.cfg k' q ≢ cursor b = λ z.
            let s = spot_same (m.due b.cfg k') 2 (m.number k') q i t k o (omega arith) (omega arith) (omega arith) (omega arith) (omega arith) (omega arith) z in
            let ke = kind_is b k' sm.slot s.slot in
            both_ways _ nos (saying_at m fit b (sym s.part) low (sym s.subframe ∙ ap (λ x. m.due b.cfg x) (sym ke)) (rw (ke, ← s.other) call)) in
            omega arith;
        hears = λ k' q call up.
            let sm = small_of m b.cfg k' q b.unit fit r.config call in let s1 = sm.number in let s2 = sm.from in
            let ne : hear_spot m b.cfg k' q ≢ cursor b = λ z.
            let s = spot_same (m.heard_in b.cfg k') 0 (m.number k') q i t k o (omega arith) (omega arith) (omega arith) (omega arith) (omega arith) (omega arith) z in
            let ke = kind_is b k' sm.slot s.slot in
            both_ways _ noh (hearing_at m fit b (sym s.part) low (sym s.subframe ∙ ap (λ x. m.heard_in b.cfg x) (sym ke)) (rw (ke, ← s.other) call)) in
            omega arith;
        subframe = r.subframe;
        part = r.part;
        slot = r.slot;
        other = omega arith;
      }) (inr (record {
        subframe = refl;
        part = refl;
        slot = refl;
        other = refl;
        quiet = λ zero sub. elim (cases_Bool (calls m b.cfg (m.kind b.slot) b.other b.unit)) [
          | inl call ↦ absurd (both_ways _ noh (hearing_at m fit b zero low sub call))
          | inr none ↦ none
        ];
      })) g.progress

  -- a slot, or what is left of it, of which nothing is to be concluded
  pub record Idles (b : Desk) : Type 0 where
    pub hears : b.part ≡ 0 → b.subframe ≢ m.heard_in b.cfg (m.kind b.slot)
    pub runs : b.part ≡ 1 → b.slot < m.tasks → b.subframe ≢ m.run_in b.cfg b.slot
    pub says : b.part ≡ 2 → (b.other ≡ unit_limit) ⊎ (b.subframe ≢ m.due b.cfg (m.kind b.slot))

  -- past such a slot
  pub slot_going : (b : Desk) (c : Acts) → Going m b c → b.slot < m.slots → Idles b → Going m (moved b b.subframe b.part (b.slot + 1) 0 b.places) c
  slot_going b c g low idle =
      let r = g.range in let few = fit.numbered.few in let part = r.part in let other = r.other in
      skip_going m fit b b.subframe b.part (b.slot + 1) 0 c c.progress g (record {
        free = record {
          up = omega arith;
          heard = λ member k slot up. let nk = fit.numbered.low k slot in dite (ℕ_discrete b.part 0)
              (λ z. dite (ℕ_discrete (m.number k) b.slot)
              (λ e. let ne : b.subframe ≢ m.heard_in b.cfg k = λ s. idle.hears z (s ∙ ap (λ x. m.heard_in b.cfg x) (sym (kind_is b k slot e))) in omega arith)
              (λ e. omega arith))
              (λ z. omega arith);
          ran = λ member t tl up. let nt = few_tasks m fit in dite (ℕ_discrete b.part 1)
              (λ z. dite (ℕ_discrete t b.slot)
              (λ e. let ne : b.subframe ≢ m.run_in b.cfg t = λ s. idle.runs z (omega arith) (s ∙ ap (λ x. m.run_in b.cfg x) e) in omega arith)
              (λ e. omega arith))
              (λ z. omega arith);
        };
        says = λ k' q call up.
            let sm = small_of m b.cfg k' b.unit q fit r.config call in let s1 = sm.number in let s2 = sm.to in dite (ℕ_discrete b.part 2)
            (λ z. dite (ℕ_discrete (m.number k') b.slot)
            (λ e. elim (idle.says z) [
              | inl o ↦ omega arith
              | inr n ↦ let ne : b.subframe ≢ m.due b.cfg k' = λ s. n (s ∙ ap (λ x. m.due b.cfg x) (sym (kind_is b k' sm.slot e))) in omega arith
            ])
            (λ e. omega arith))
            (λ z. omega arith);
        hears = λ k' q call up.
            let sm = small_of m b.cfg k' q b.unit fit r.config call in let s1 = sm.number in let s2 = sm.from in dite (ℕ_discrete b.part 0)
            (λ z. dite (ℕ_discrete (m.number k') b.slot)
            (λ e. let ne : b.subframe ≢ m.heard_in b.cfg k' = λ s. idle.hears z (s ∙ ap (λ x. m.heard_in b.cfg x) (sym (kind_is b k' sm.slot e))) in omega arith)
            (λ e. omega arith))
            (λ z. omega arith);
        subframe = r.subframe;
        part = r.part;
        slot = omega arith;
        other = omega arith;
      }) (inl refl) g.progress

  -- the last slot of a part was passed, or the last task was run
  abbrev pub IsPartDone : Desk → Type 0
  IsPartDone b = (b.slot ≡ m.slots) ⊎ ((b.part ≡ 1) × (m.tasks ≤ b.slot))

  -- from a part to the next
  pub part_going : (b : Desk) (c : Acts) → Going m b c → IsPartDone b → b.part < 2 → Going m (moved b b.subframe (b.part + 1) 0 0 b.places) c
  part_going b c g end low =
      let r = g.range in let few = fit.numbered.few in let other = r.other in let slots = r.slot in let nt = few_tasks m fit in
      skip_going m fit b b.subframe (b.part + 1) 0 0 c c.progress g (record {
        free = record {
          up = omega arith;
          heard = λ member k slot up. let nk = fit.numbered.low k slot in elim end [ inl e ↦ omega arith | inr e ↦ let e0 = e.0 in omega arith ];
          ran = λ member t tl up. elim end [ inl e ↦ omega arith | inr e ↦ let e1 = e.1 in let e0 = e.0 in omega arith ];
        };
        says = λ k' q call up. let sm = small_of m b.cfg k' b.unit q fit r.config call in let s1 = sm.number in let s2 = sm.to in omega arith;
        hears = λ k' q call up. let sm = small_of m b.cfg k' q b.unit fit r.config call in let s1 = sm.number in let s2 = sm.from in
            elim end [ inl e ↦ omega arith | inr e ↦ let e0 = e.0 in omega arith ];
        subframe = r.subframe;
        part = omega arith;
        slot = omega arith;
        other = omega arith;
      }) (inl refl) g.progress

  -- from a subframe to the next
  pub subframe_going : (b : Desk) (c : Acts) → Going m b c → b.slot ≡ m.slots → b.part ≡ 2 → b.subframe + 1 < m.period →
      Going m (moved b (b.subframe + 1) 0 0 0 b.places) (record c { progress = c.progress + 1 })
  subframe_going b c g end last low =
      let r = g.range in let few = fit.numbered.few in let other = r.other in
      skip_going m fit b (b.subframe + 1) 0 0 0 c (c.progress + 1) g (record {
        free = record {
          up = omega arith;
          heard = λ member k slot up. let nk = fit.numbered.low k slot in omega arith;
          ran = λ member t tl up. let nt = few_tasks m fit in omega arith;
        };
        says = λ k' q call up. let sm = small_of m b.cfg k' b.unit q fit r.config call in let s1 = sm.number in let s2 = sm.to in omega arith;
        hears = λ k' q call up. let sm = small_of m b.cfg k' q b.unit fit r.config call in let s1 = sm.number in let s2 = sm.from in omega arith;
        subframe = low;
        part = omega arith;
        slot = omega arith;
        other = omega arith;
      }) (inl refl) (let p = g.progress in omega arith)
