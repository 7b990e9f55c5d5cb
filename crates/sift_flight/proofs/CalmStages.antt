-- What is asked of a calm mission, and how far its units have come.
use Rattle.std.proofs.Common.{◌⊎◌, length, ◌≡◌, inl, inr, ℕ, ◌+◌, ◌-◌, ◌<◌, ◌≤◌, false, refl, arith}
use Rattle.std.proofs.lemmas.Bool.{cases_Bool}
use Rattle.sift_base.specs.Layout.{sensor_limit, word_limit}
use Rattle.sift_base.specs.Word.{word_count}
use Rattle.sift_buffer.specs.Conduct.{never}
use Rattle.sift_buffer.specs.Lawful.{HasStage}
use Rattle.sift_flight.specs.Calm.{Calm, due_in, heard_in}
use Rattle.sift_flight.specs.CalmFlight.{progress_of, left_of, word_in, acts_of}

-- what is asked of a calm mission: its frame is of a length that may be, its sensors and tasks are few, its words are words, and its slots are heard in time
pub record IsPlain (c : Calm) : Type 0 where
  pub long : 12 ≤ c.period
  pub short : c.period ≤ 64
  pub sensors : length c.sensed ≤ sensor_limit
  pub tasks : length c.tasks ≤ word_limit
  pub starts : length c.starts ≡ length c.tasks
  pub steady : c.turns 0 ≡ false
  pub words : (n : ℕ) → word_in c (c.kind n) < word_count
  pub timed : (n : ℕ) → (due_in c (c.kind n) + 2 ≤ heard_in c (c.kind n)) × (heard_in c (c.kind n) + 2 ≤ c.period)

-- a unit flies on, or it has left
stage_of : (c : Calm) (u : ℕ) → ((left_of c u ≡ never) × (progress_of c u ≡ c.period)) ⊎ ((left_of c u ≡ c.period - 1) × (progress_of c u ≡ never))
stage_of c u = elim (cases_Bool (c.turns u)) [ inl t ↦ inr (rw t refl, rw t refl) | inr t ↦ inl (rw t refl, rw t refl) ]

module _ (c : Calm) (plain : IsPlain c) where
  -- its numbers, with the length of the frame
  pub record InRange (u : ℕ) : Type 0 where
    pub progress : (c.period ≤ progress_of c u) × (progress_of c u ≤ never)
    pub left : (c.period ≤ left_of c u + 1) × (left_of c u ≤ never)
    pub stage : HasStage (acts_of c u)
    pub gone : left_of c u < never → left_of c u ≤ c.period

  -- each unit's
  pub in_range : (u : ℕ) → InRange u
  in_range u = elim (stage_of c u) [
    | inl s ↦ record {
      progress = (omega (arith, s), omega (arith, s, plain.short));
      left = (omega (arith, s, plain.short), omega (arith, s));
      stage = inl (s.0, omega (arith, s, plain.short));
      gone = λ z. absurd (omega (arith, s));
    }
    | inr s ↦ record {
      progress = (omega (arith, s, plain.short), omega (arith, s));
      left = (omega (arith, s), omega (arith, s, plain.short));
      stage = inr (omega (arith, s, plain.short), s.1);
      gone = λ z. omega (arith, s);
    }
  ]

  -- a unit that has not left has come to the frame's end
  pub flies_on : (u : ℕ) → left_of c u ≡ never → progress_of c u ≡ c.period
  flies_on u stays = elim (stage_of c u) [ inl s ↦ s.1 | inr s ↦ absurd (omega (arith, s, plain.short)) ]
