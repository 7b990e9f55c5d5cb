-- What the workers come to that are asked for: the order of one, and how many there are.
use Rattle.std.specs.Prelude.{ℕ, ◌≤◌, ◌*◌, nat_lt, if◌then◌else◌}
use Rattle.sift_jobs.specs.declared.order.Workers.{Workers}
use Rattle.sift_jobs.specs.declared.order.Workers.TheVariants.{One, Several, OneEach}
use Rattle.sift_mission.specs.Data.{MissionData}

-- the order in which one worker steps the units: that of the one who is asked for; several have none, and one in their place takes order 0
abbrev pub order_by : Workers → ℕ
order_by (One order) = order
order_by (Several count) = 0
order_by OneEach = 0

-- how many subframes there are in a flight, each counted once for each unit
abbrev pub unit_subframes : MissionData → ℕ
unit_subframes mission = mission.units * mission.frames * mission.period

-- a flight of fewer is short: one worker has flown it before threads would have paid for their start
abbrev pub long_flight : ℕ
long_flight = 40000

-- how many workers fly a mission: as many as are asked for, and where nobody asks one for each unit, but one alone for a short flight
abbrev pub count_by : MissionData → Workers → ℕ
count_by mission (One order) = 1
count_by mission (Several count) = count
count_by mission OneEach = if nat_lt (unit_subframes mission) long_flight then 1 else mission.units

-- they are several, who fly together, and so wait for one another
abbrev pub FlyTogether : MissionData → Workers → Type 0
FlyTogether mission workers = 2 ≤ count_by mission workers
