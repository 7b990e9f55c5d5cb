-- How many steps the calls of a port make.
use Rattle.std.specs.Prelude.{ℕ, ◌+◌, ◌-◌, ◌==◌, nat_lt, if◌then◌else◌, Option, Some, None}
use Rattle.sift_buffer.specs.Views.{View}
use Rattle.sift_buffer.specs.declared.port.Entering.{Entering}
use Rattle.sift_buffer.specs.declared.port.Entering.TheVariants.{Entered, NotYet}

-- how many units there are below k but for the own one
abbrev pub others_below : ℕ → ℕ → ℕ
others_below own k = if nat_lt own k then k - 1 else k

-- a round of looks: one at each other unit, up to the first that was found behind
abbrev pub looks_of : View → Option (ℕ × ℕ) → ℕ
looks_of v None = others_below v.unit v.ranges.units
looks_of v (Some x) = others_below v.unit (x.0 + 1)

-- a try to enter: the looks, and where the unit entered one store of its number
abbrev pub steps_of_try : View → Entering → ℕ
steps_of_try v Entered = others_below v.unit v.ranges.units + 1
steps_of_try v (NotYet p n) = others_below v.unit (p + 1)

-- a try to turn: at progress 0 the store alone
abbrev pub steps_of_turn : View → Entering → ℕ
steps_of_turn v Entered = if v.conduct.progress == 0 then 1 else others_below v.unit v.ranges.units + 1
steps_of_turn v (NotYet p n) = others_below v.unit (p + 1)
