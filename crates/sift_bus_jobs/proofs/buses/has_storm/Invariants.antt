use Rattle.std.proofs.Common.{◌≡◌, ◌<◌, ℕ, None}
use Rattle.sift_mission.specs.Parts.{flown_of}
use Rattle.sift_bus_jobs.proofs.buses.has_storm.Given as goal

-- no unit below the number has a storm
abbrev pub invariant-loop-number : goal.invariant-loop-number
invariant-loop-number l = (u : ℕ) → u < l.number → (flown_of l.mission).storm u ≡ None
