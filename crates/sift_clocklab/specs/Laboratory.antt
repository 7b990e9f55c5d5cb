-- A laboratory of clocks: the first ones work, and the others are faulty.
use Rattle.std.specs.Prelude.{ℕ, ◌-◌, List, [], map, get_or, Bool, nat_lt, Option, ℤ, pos, ◌+ℤ◌}
use Rattle.std.specs.List.{range_with_len}
use Rattle.sift_clocklab.specs.declared.lab.Lab.{Lab}
use Rattle.sift_clocklab.specs.declared.lab.LabRun.{LabRun}

-- n clocks, m of them faulty; the skew that they are to keep, the most that a reading is wrong by and that a clock drifts by
-- in a round; how many rounds they run; and of each working clock its offset at the start, its drift in a round, and by how
-- much it misreads each working clock
pub record Laboratory : Type 0 where
  pub n : ℕ
  pub m : ℕ
  pub skew : ℤ
  pub error : ℤ
  pub rate : ℤ
  pub rounds : ℕ
  pub start : List ℤ
  pub drift : List ℤ
  pub noise : List (List ℤ)

-- the laboratory that a lab of the code stands for
abbrev pub laboratory_of : Lab → Laboratory
laboratory_of lab = record {
  n = lab.n;
  m = lab.m;
  skew = lab.skew;
  error = lab.error;
  rate = lab.rate;
  rounds = lab.rounds;
  start = lab.start.items;
  drift = lab.drift.items;
  noise = map (λ row. row.items) lab.noise.items;
}

-- ---- clocks

-- the numbers of all clocks
abbrev pub clocks_of : Laboratory → List ℕ
clocks_of lab = range_with_len 0 lab.n

-- how many of them work
abbrev pub working_of : Laboratory → ℕ
working_of lab = lab.n - lab.m

-- the working ones: the first
abbrev pub working_clocks : Laboratory → List ℕ
working_clocks lab = range_with_len 0 (working_of lab)

-- the faulty ones: the others
abbrev pub faulty_clocks : Laboratory → List ℕ
faulty_clocks lab = range_with_len (working_of lab) lab.m

-- whether a clock works
abbrev pub works : Laboratory → ℕ → Bool
works lab p = nat_lt p (working_of lab)

-- ---- figures

-- the farthest reading that isn't too far: as far as working clocks may be apart, and misread
abbrev pub reading_limit : Laboratory → ℤ
reading_limit lab = lab.skew +ℤ lab.error

-- the drift of a working clock in a round
abbrev pub drift_of : Laboratory → ℕ → ℤ
drift_of lab q = get_or lab.drift q (pos 0)

-- by how much q misreads p, where both work
abbrev pub noise_of : Laboratory → ℕ → ℕ → ℤ
noise_of lab q p = get_or (get_or lab.noise q []) p (pos 0)

-- ---- runs

-- the offsets of the working clocks: one list for the start, and one more for each round; and what the faulty clocks
-- showed, one list for each round
pub record Run : Type 0 where
  pub offsets : List (List ℤ)
  pub shown : List (List (Option ℤ))

-- the run that one of the code stands for
abbrev pub run_of : LabRun → Run
run_of run = record { offsets = map (λ row. row.items) run.offsets.items; shown = map (λ row. row.items) run.shown.items }
