-- A board jumps within its subframe, past places at which it has nothing to do.
use Rattle.std.proofs.Common.{◌≡◌, inl, inr, ℕ, ◌≤◌, false, refl, arith}
use Rattle.std.proofs.lemmas.Bool.{cases_lt, both_ways}
use Rattle.sift_base.specs.Units.{has}
use Rattle.sift_mission.specs.Data.{FlownMission}
use Rattle.sift_mission.specs.Fits.{Fits}
use Rattle.sift_mission.specs.laws.Calls.{call_of}
use Rattle.sift_mission.specs.laws.Tasks.{few_tasks}
use Rattle.sift_mission.specs.Stops.{spot, hear_spot, say_spot, IsNothingBetween, hearing, running, saying}
use Rattle.sift_unit.specs.Desk.{Desk, cursor, heard_mark, run_mark}
use Rattle.sift_unit.specs.Going.{InRange}
use Rattle.sift_unit.specs.BoardLaws.{JumpLaw}
use Rattle.sift_unit.proofs.Acting.{small_of}
use Rattle.sift_unit.proofs.Moving.{Skips, skip_going}

module _ (m : FlownMission) (fit : Fits m) where
  -- from the start of a slot to the next stop, or the subframe's end
  pub jump_skips : (b : Desk) (t k : ℕ) → InRange m b → b.other ≡ 0 → t ≤ 2 → k ≤ m.slots → cursor b ≤ spot b.subframe t k 0 →
      IsNothingBetween m b.cfg (cursor b) (spot b.subframe t k 0) → Skips m fit b b.subframe t k 0
  jump_skips b t k r at ht hk up none = let few = fit.numbered.few in record {
    free = record {
      up = up;
      heard = λ member j slot low. let nj = fit.numbered.low j slot in elim (cases_lt (cursor b) (heard_mark m b.cfg j)) [
        | inl over ↦ absurd (none _ (hearing j slot refl) (omega arith) (omega arith))
        | inr z ↦ z
      ];
      ran = λ member t' tl low. let nt = few_tasks m fit in elim (cases_lt (cursor b) (run_mark m b.cfg t')) [
        | inl over ↦ absurd (none _ (running t' tl refl) (omega arith) (omega arith))
        | inr z ↦ z
      ];
    };
    says = λ j q call low.
        let sm = small_of m b.cfg j b.unit q fit r.config call in let s1 = sm.number in let s2 = sm.to in
        elim (cases_lt (say_spot m b.cfg j q) (cursor b)) [
          | inl z ↦ z
          | inr over ↦ absurd (none _ (saying j sm.slot refl) (omega arith) (omega arith))
        ];
    hears = λ j q call low.
        let sm = small_of m b.cfg j q b.unit fit r.config call in let s1 = sm.number in let s2 = sm.from in
        elim (cases_lt (hear_spot m b.cfg j q) (cursor b)) [
          | inl z ↦ z
          | inr over ↦ absurd (none _ (hearing j sm.slot refl) (omega arith) (omega arith))
        ];
    subframe = r.subframe;
    part = ht;
    slot = hk;
    other = omega arith;
  }

  -- a unit outside its configuration has nothing to do in a subframe
  pub idle_skips : (b : Desk) → InRange m b → has b.cfg b.unit ≡ false → cursor b ≤ spot b.subframe 2 m.slots 0 → Skips m fit b b.subframe 2 m.slots 0
  idle_skips b r out up = record {
    free = record { up = up; heard = λ member. absurd (both_ways _ out member); ran = λ member. absurd (both_ways _ out member) };
    says = λ k q call low. absurd (both_ways _ out (call_of m b.cfg k b.unit q call).from);
    hears = λ k p call low. absurd (both_ways _ out (call_of m b.cfg k p b.unit call).to);
    subframe = r.subframe;
    part = omega arith;
    slot = omega arith;
    other = omega arith;
  }

-- a board may jump to where there is no stop before
pub jump_law : JumpLaw
jump_law m b c t k fit g at ht hk up none =
    skip_going m fit b b.subframe t k 0 c c.progress g (jump_skips m fit b t k g.range at ht hk up none) (inl refl) g.progress
