-- The account of a frame meets the equations of conduct, once all was heard.
use Rattle.std.proofs.Common.{◌≡◌, inl, inr, ℕ, List, true, not, nat_eq, refl, sym, ap, ◌∙◌, subst, lt-ltb}
use Rattle.std.specs.Prelude.{ℤ, length, slice_index, ◌+ℤ◌}
use Rattle.std.specs.List.{range_with_len}
use Rattle.std.proofs.lemmas.Bool.{cases_Bool, eqb-false}
use Rattle.sift_base.specs.Units.{has, has_bit, holds}
use Rattle.sift_base.specs.declared.slots.Slot.{Slot}
use Rattle.sift_base.specs.declared.slots.Slot.TheVariants.{Clock, RelaySense, Out, RelayReport}
use Rattle.sift_base.specs.laws.ReadBack.{and_in}
use Rattle.sift_base.specs.laws.Ranges.{any-same}
use Rattle.sift_clock.specs.Correction.{corrected_offset}
use Rattle.sift_exec.specs.laws.NextConfigs.{next-same}
use Rattle.sift_mission.specs.Data.{FlownMission, IsConfigOf}
use Rattle.sift_mission.specs.Slots.{is_slot}
use Rattle.sift_conduct.specs.Conduct.{Account, Places, UnitFrame, unit_frame, Conduct, report_in, report_of, reading_by}
use Rattle.sift_conduct.specs.Frames.{IdleConduct}
use Rattle.sift_unit_frame.specs.Memory.{Memory}
use Rattle.sift_unit_frame.specs.Tidings.{busy_account, idle_account, names_now}
use Rattle.sift_unit_frame.specs.Conditions.{IsShaped}
use Rattle.sift_unit_frame.specs.laws.Sets.{holds-gathered}
use Rattle.sift_unit.specs.Remembered.{Heard, with_clock}
use Rattle.sift_unit.proofs.Tests.{any-and}

module _ (m : FlownMission) (us : List ℕ) (u f : ℕ) (clk : ℤ) (a : Account) (h : Places) (last : List ℕ) (config : IsConfigOf m us) where
  -- the unit in the frame
  abbrev here : UnitFrame
  here = unit_frame m us u f a h last

  -- the conduct of a unit that is in its configuration
  pub busy_is : (b : Memory) → IsShaped m us u b → a ≡ busy_account m us u clk b →
      ((k : Slot) → is_slot m k ≡ true → Heard here clk b k) → Conduct here
  busy_is b shape e heard = record {
    busy = ap (λ (z : Account). z.idle) e;
    inputs_count = ap (λ (z : Account). length z.ins) e ∙ shape.ins;
    inputs = λ x low. ap (λ (z : Account). slice_index z.ins x) e ∙ (heard (RelaySense x) (lt-ltb x m.sensors low)).0;
    outputs_count = ap (λ (z : Account). length z.outs) e ∙ shape.outs;
    outputs = λ w low. ap (λ (z : Account). slice_index z.outs w) e ∙ (heard (Out w) (lt-ltb w m.words low)).0;
    polls = λ v. ap (λ (z : Account). holds z.bad.poll v) e ∙ holds-gathered _ us v
        ∙ and_in (has us v) _ _ (λ t. any-same m.words _ _ (λ w low. (heard (Out w) (lt-ltb w m.words low)).1 v ∙ rw t refl));
    relays = λ v. ap (λ (z : Account). holds z.bad.relay v) e ∙ holds-gathered _ us v
        ∙ and_in (has us v) _ _ (λ t. any-same m.sensors _ _ (λ x low. (heard (RelaySense x) (lt-ltb x m.sensors low)).1 v ∙ rw t refl)
        ∙ any-and (range_with_len 0 m.sensors) (not (nat_eq v u)) _);
    clocks = λ v. ap (λ (z : Account). holds z.bad.clock v) e ∙ holds-gathered (holds b.clock) us v
        ∙ and_in (has us v) _ _ (λ t. (heard Clock refl).0 v ∙ rw (ck, t) refl);
    next_cfg = ap (λ (z : Account). z.next_cfg) e ∙ next-same (names_now m us u b) (λ r v. has_bit (report_of us u a h r) v) us named;
    next_clk = ap (λ (z : Account). z.next_clk) e ∙ (heard Clock refl).1
        ∙ (λ i. corrected_offset (m.skew +ℤ m.error) us (reading_by (with_clock here (back i))) (back i) u +ℤ m.drift u);
  }
    where
      ck : a.clk ≡ clk
      ck = ap (λ (z : Account). z.clk) e

      back : clk ≡ a.clk
      back = sym ck

      mine : busy_account m us u clk b ≡ a
      mine = sym e

      named : (r v : ℕ) → has us r ≡ true → names_now m us u b r v ≡ has_bit (report_of us u a h r) v
      named r v from = ap (λ w. has_bit w v) (elim (cases_Bool (nat_eq r u)) [
        | inl t ↦ rw t (λ i. report_in (mine i))
        | inr t ↦ rw t (heard (RelayReport r) (config.inside r from) from (eqb-false r u t))
      ])

-- the account of a unit that isn't
pub idle_is : (us : List ℕ) (clk : ℤ) (a : Account) → a ≡ idle_account us clk → IdleConduct a
idle_is us clk a e = subst IdleConduct (sym e) refl
