-- Whatever faulty clocks show, the working ones stay together.
use Rattle.std.specs.Prelude.{◌≡◌, ℕ, ◌+◌, ◌*◌, List, length, Option, ℤ, pos}
use Rattle.std.specs.List.{All}
use Rattle.sift_clocklab.specs.Laboratory.{Laboratory, working_of}
use Rattle.sift_clocklab.specs.Conditions.{AreOfClocks, AreTogether, IsReady}
use Rattle.sift_clocklab.specs.Rounds.{run_offsets}

-- the offsets of the working clocks after a round are as they are to be: two of them are at most the skew apart, and none is
-- farther than this from 0
pub record AreKept (lab : Laboratory) (far : ℕ) (offsets : List ℤ) : Type 0 where
  pub together : AreTogether lab offsets
  pub of_clocks : AreOfClocks lab (pos far) offsets

-- how far from 0 a clock may be after so many rounds: as far as it may start, and for each round three sizes more, the limits
-- of a skew, an error and a drift
abbrev pub farthest_after : ℕ → ℕ
farthest_after rounds = 8000 + rounds * 24000

-- how far it may be after the most rounds that a laboratory runs
abbrev pub farthest : ℕ
farthest = farthest_after 1000

-- each list of offsets of a run is kept, one for the start and one for each round
pub record IsKept (lab : Laboratory) (offsets : List (List ℤ)) : Type 0 where
  pub lists : length offsets ≡ lab.rounds + 1
  pub each : All (AreKept lab farthest) offsets

-- in each round of a laboratory that can be run, whatever is shown in it, the offsets are kept
abbrev pub OffsetsAreKept : Type 0
OffsetsAreKept =
    (lab : Laboratory) (shown : List (List (Option ℤ))) → IsReady lab →
    All (AreKept lab (farthest_after (length shown))) (run_offsets lab shown)

-- a round of a laboratory that can be run: the offsets before it are kept, and each faulty clock shows each working one
-- something
pub record IsClockRound (lab : Laboratory) (offsets : List ℤ) (shown : List (Option ℤ)) : Type 0 where
  pub ready : IsReady lab
  pub kept : AreKept lab farthest offsets
  pub each_shown : length shown ≡ working_of lab * lab.m
