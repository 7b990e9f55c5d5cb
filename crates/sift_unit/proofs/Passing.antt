-- Moves of a board within its subframe, without its port.
use Rattle.std.proofs.Common.{◌≡◌, ◌⊎◌, inl, inr, ℕ, List, ◌+◌, ◌<◌, ◌≤◌, false, refl, sym, ◌∙◌, subst, arith, eq-eqb}
use Rattle.std.proofs.lemmas.Bool.{or_parts, both_ways}
use mathlib.Core.Logic.{dite}
use native.Mathlib.Decide.{ℕ_discrete}
use Rattle.sift_base.specs.Units.{has, unit_limit}
use Rattle.sift_mission.specs.Data.{FlownMission}
use Rattle.sift_mission.specs.Fits.{Fits}
use Rattle.sift_mission.specs.laws.Tasks.{few_tasks}
use Rattle.sift_unit_frame.specs.Memory.{Memory}
use Rattle.sift_mission.specs.Stops.{spot, IsNothingBetween}
use Rattle.sift_unit.specs.Desk.{Desk, cursor, is_hearing, is_saying, is_call, is_end, moved}
use Rattle.sift_unit.specs.Going.{InRange}
use Rattle.sift_unit.specs.Passing.{Passes, Onward}
use Rattle.sift_unit.specs.Boards.{IsSameBoard}
use Rattle.sift_unit.specs.declared.board.Board.{Board as TheBoard}
use Rattle.sift_unit.proofs.Moving.{range_at, skip_range, skip_going}
use Rattle.sift_unit.proofs.Skipping.{Idles, IsPartDone, pass_going, slot_going, part_going}
use Rattle.sift_unit.proofs.Jumping.{jump_skips, idle_skips}
use Rattle.sift_unit.proofs.Noting.{onto, noted, AtNote, note_range, note_going}
use Rattle.sift_unit.proofs.Running.{ran_on, AtRun, run_range, run_going}

-- one move after another
pub passes_on : (m : FlownMission) (a b d : Desk) → Passes m a b → Passes m b d → Passes m a d
passes_on m a b d p q = record {
  range = q.range;
  going = λ c g. q.going c (p.going c g);
  unit = q.unit ∙ p.unit;
  frame = q.frame ∙ p.frame;
  subframe = q.subframe ∙ p.subframe;
}

-- and one board on the way
pub same_on : (a b d : TheBoard) → IsSameBoard a b → IsSameBoard b d → IsSameBoard a d
same_on a b d p q = record { unit = q.unit ∙ p.unit; frames = q.frames ∙ p.frames; storm = q.storm ∙ p.storm; turned = q.turned ∙ p.turned }

-- a board that isn't at its subframe's end is in an earlier part, or at an earlier slot
inside_is : (m : FlownMission) (b : Desk) → InRange m b → is_end m b ≡ false → (b.part < 2) ⊎ (b.slot < m.slots)
inside_is m b r inside = let part = r.part in let slot = r.slot in dite (ℕ_discrete b.part 2)
    (λ e. dite (ℕ_discrete b.slot m.slots)
    (λ s. absurd (both_ways _ inside (rw (eq-eqb b.part 2 e, eq-eqb b.slot m.slots s) refl)))
    (λ s. inr (omega arith)))
    (λ n. inl (omega arith))

module _ (m : FlownMission) (fit : Fits m) (b : Desk) (r : InRange m b) where
  -- a board in range elsewhere in its subframe
  range_moved : (t k o : ℕ) → t ≤ 2 → k ≤ m.slots → o ≤ unit_limit → InRange m (moved b b.subframe t k o b.places)
  range_moved t k o ht hk ho = range_at m fit b b.subframe t k o b.places r r.subframe ht hk ho r.places

  -- past a place that is no call
  pub place_onward : b.slot < m.slots → b.other < unit_limit → is_call m b ≡ false → Onward m b (moved b b.subframe b.part b.slot (b.other + 1) b.places)
  place_onward low here idle =
      let no = or_parts (is_hearing m b) (is_saying m b) idle in let few = fit.numbered.few in let part = r.part in
      record {
        passes = record {
          range = range_moved b.part b.slot (b.other + 1) r.part r.slot (omega arith);
          going = λ c g. pass_going m fit b c g low here no.0 no.1;
          unit = refl;
          frame = refl;
          subframe = refl;
        };
        less = omega arith;
      }

  -- past a slot of which nothing is to be concluded
  pub slot_onward : b.slot < m.slots → Idles m fit b → Onward m b (moved b b.subframe b.part (b.slot + 1) 0 b.places)
  slot_onward low idle =
      let few = fit.numbered.few in let part = r.part in let other = r.other in
      record {
        passes = record {
          range = range_moved b.part (b.slot + 1) 0 r.part (omega arith) (omega arith);
          going = λ c g. slot_going m fit b c g low idle;
          unit = refl;
          frame = refl;
          subframe = refl;
        };
        less = omega arith;
      }

  -- to the next part
  pub part_onward : (t : ℕ) → IsPartDone m fit b → b.part < 2 → t ≡ b.part + 1 → Onward m b (moved b b.subframe t 0 0 b.places)
  part_onward t end low e =
      let few = fit.numbered.few in let other = r.other in let slot = r.slot in
      subst (λ z. Onward m b (moved b b.subframe z 0 0 b.places)) (sym e) (record {
        passes = record {
          range = range_moved (b.part + 1) 0 0 (omega arith) (omega arith) (omega arith);
          going = λ c g. part_going m fit b c g end low;
          unit = refl;
          frame = refl;
          subframe = refl;
        };
        less = omega arith;
      })

  -- to a later slot, where there is no stop before
  pub jump_onward : (k : ℕ) → b.other ≡ 0 → b.slot < k → k ≤ m.slots → IsNothingBetween m b.cfg (spot b.subframe b.part b.slot 0) (spot b.subframe b.part k 0) →
      Onward m b (moved b b.subframe b.part k b.other b.places)
  jump_onward k at low high none =
      let few = fit.numbered.few in let part = r.part in
      let here : cursor b ≡ spot b.subframe b.part b.slot 0 = omega arith in
      let skips = jump_skips m fit b b.part k r at r.part high (omega arith) (subst (λ z. IsNothingBetween m b.cfg z (spot b.subframe b.part k 0)) (sym here) none) in
      let jump : Onward m b (moved b b.subframe b.part k 0 b.places) = record {
        passes = record {
          range = skip_range m fit b b.subframe b.part k 0 r skips;
          going = λ c g. skip_going m fit b b.subframe b.part k 0 c c.progress g skips (inl refl) g.progress;
          unit = refl;
          frame = refl;
          subframe = refl;
        };
        less = omega arith;
      } in
      subst (λ z. Onward m b (moved b b.subframe b.part k z b.places)) (sym at) jump

  -- to the subframe's end, where the unit is outside its configuration
  pub idle_onward : has b.cfg b.unit ≡ false → is_end m b ≡ false → Onward m b (moved b b.subframe 2 m.slots 0 b.places)
  idle_onward out inside =
      let few = fit.numbered.few in let part = r.part in let slot = r.slot in let other = r.other in
      let up : cursor b < spot b.subframe 2 m.slots 0 = elim (inside_is m b r inside) [ inl low ↦ omega arith | inr low ↦ omega arith ] in
      let skips = idle_skips m fit b r out (omega arith) in
      record {
        passes = record {
          range = skip_range m fit b b.subframe 2 m.slots 0 r skips;
          going = λ c g. skip_going m fit b b.subframe 2 m.slots 0 c c.progress g skips (inl refl) g.progress;
          unit = refl;
          frame = refl;
          subframe = refl;
        };
        less = elim (inside_is m b r inside) [ inl low ↦ omega arith | inr low ↦ omega arith ];
      }

  -- past a slot, all of which was heard
  pub note_onward : (e : Memory) → AtNote m fit b → e ≡ noted m fit b → (last : List ℕ) → last ≡ b.last → Onward m b (record (onto m fit b e) { last = last })
  note_onward e at is last same =
      let few = fit.numbered.few in let part = at.part in let low = at.slot in let other = at.other in
      subst (λ z. Onward m b (record (onto m fit b e) { last = z })) (sym same) (subst (λ z. Onward m b (onto m fit b z)) (sym is) (record {
        passes = record { range = note_range m fit b r at.slot; going = λ c g. note_going m fit b c g at; unit = refl; frame = refl; subframe = refl };
        less = omega arith;
      }))

  -- past a task that was run
  pub run_onward : (e : Memory) → AtRun m fit b → e ≡ ran_on m fit b → (last : List ℕ) → last ≡ b.last → Onward m b (record (onto m fit b e) { last = last })
  run_onward e at is last same =
      let few = fit.numbered.few in let nt = few_tasks m fit in let part = at.part in let low = at.slot in let other = r.other in
      subst (λ z. Onward m b (record (onto m fit b e) { last = z })) (sym same) (subst (λ z. Onward m b (onto m fit b z)) (sym is) (record {
        passes = record { range = run_range m fit b r at.slot; going = λ c g. run_going m fit b c g at; unit = refl; frame = refl; subframe = refl };
        less = omega arith;
      }))
