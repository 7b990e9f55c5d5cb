-- Which clocks a mission may have, in whole ticks.
use Rattle.std.specs.Prelude.{ℤ, pos, ◌+ℤ◌, ◌*ℤ◌, ◌≤ℤ◌}

-- the largest skew at which a clock word is read right
abbrev pub skew_limit : ℤ
skew_limit = pos 8000

-- the largest of the four numbers that is asked about
abbrev pub number_limit : ℤ
number_limit = pos 1000000

-- the farthest offset from 0 of which figures are told
abbrev pub offset_limit : ℤ
offset_limit = pos 100000000

-- the number is one to ask about
abbrev pub IsNumber : ℤ → Type 0
IsNumber n = (pos 0 ≤ℤ n) × (n ≤ℤ number_limit)

-- the four numbers are numbers to ask about
abbrev pub AreNumbers : ℤ → ℤ → ℤ → ℤ → Type 0
AreNumbers skew error rate length = IsNumber skew × IsNumber error × IsNumber rate × IsNumber length

-- clocks with this skew, reading error, drift in a frame and subframe length are admitted: the correction keeps the skew,
-- words tell the offsets apart, and a subframe is longer than any lead
pub record IsAdmitted (skew error rate length : ℤ) : Type 0 where
  pub kept : (pos 5 *ℤ (error +ℤ rate)) ≤ℤ skew
  pub told : skew ≤ℤ skew_limit
  pub long : (pos 2 *ℤ skew +ℤ error +ℤ rate +ℤ pos 1) ≤ℤ length
