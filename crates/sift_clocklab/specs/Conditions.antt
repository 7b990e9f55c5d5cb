-- Which laboratories are run.
use Rattle.std.specs.Prelude.{◌≡◌, ℕ, ◌+◌, ◌*◌, ◌<◌, ◌≤◌, ◌⊎◌, List, length, get_or, ℤ, pos, ◌+ℤ◌, ◌-ℤ◌, ◌*ℤ◌, ◌≤ℤ◌, ◌<ℤ◌}
use Rattle.std.specs.List.{All}
use Rattle.sift_clock.specs.Distance.{IsWithin}
use Rattle.sift_clocklab.specs.Laboratory.{Laboratory, working_of}

-- so many clocks, so many of them faulty, and this skew, reading error and drift in a round are admitted: more than two
-- thirds of the clocks work, and the skew has room for the errors and the drifts
pub record IsAdmitted (n m : ℕ) (skew error rate : ℤ) : Type 0 where
  pub enough : 3 * m + 1 ≤ n
  pub room : (pos (2 * n) *ℤ (error +ℤ rate)) ≤ℤ (skew *ℤ (pos n -ℤ pos (3 * m)))

-- they are refused: too few clocks work, or the skew has too little room
abbrev pub IsRefused : (n m : ℕ) (skew error rate : ℤ) → Type 0
IsRefused n m skew error rate =
    (n < 3 * m + 1) ⊎ ((skew *ℤ (pos n -ℤ pos (3 * m))) <ℤ (pos (2 * n) *ℤ (error +ℤ rate)))

-- the most ticks of a skew, an error, a drift and a start
abbrev pub tick_limit : ℤ
tick_limit = pos 8000

-- the ticks are a size that a laboratory may have
abbrev pub AreTicks : ℤ → Type 0
AreTicks ticks = (pos 0 ≤ℤ ticks) × (ticks ≤ℤ tick_limit)

-- the numbers are in the ranges of a laboratory
pub record AreInRange (n m : ℕ) (skew error rate : ℤ) (rounds : ℕ) : Type 0 where
  pub some_clocks : 1 ≤ n
  pub few_clocks : n ≤ 32
  pub few_faulty : m ≤ 10
  pub small_skew : AreTicks skew
  pub small_error : AreTicks error
  pub small_rate : AreTicks rate
  pub some_rounds : 1 ≤ rounds
  pub few_rounds : rounds ≤ 1000

-- there is a number for each working clock, and each is at most so far from 0
pub record AreOfClocks (lab : Laboratory) (far : ℤ) (numbers : List ℤ) : Type 0 where
  pub each : length numbers ≡ working_of lab
  pub near : All (λ number. IsWithin far number (pos 0)) numbers

-- both clocks work
pub record BothWork (lab : Laboratory) (q p : ℕ) : Type 0 where
  pub own : q < working_of lab
  pub other : p < working_of lab

-- two of these offsets of working clocks are at most the skew apart
abbrev pub AreTogether : Laboratory → List ℤ → Type 0
AreTogether lab offsets = (p q : ℕ) → p < working_of lab → q < working_of lab →
    get_or offsets p (pos 0) ≤ℤ (get_or offsets q (pos 0) +ℤ lab.skew)

-- a laboratory that can be run: it is admitted, and the working clocks start together, and drift and misread one another
-- no more than they may
pub record IsReady (lab : Laboratory) : Type 0 where
  pub admitted : IsAdmitted lab.n lab.m lab.skew lab.error lab.rate
  pub in_range : AreInRange lab.n lab.m lab.skew lab.error lab.rate lab.rounds
  pub start : AreOfClocks lab tick_limit lab.start
  pub together : AreTogether lab lab.start
  pub drift : AreOfClocks lab lab.rate lab.drift
  pub noise_of_each : length lab.noise ≡ working_of lab
  pub noise : All (AreOfClocks lab lab.error) lab.noise
