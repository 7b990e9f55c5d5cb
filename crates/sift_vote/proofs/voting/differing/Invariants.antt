use Rattle.std.proofs.Common.{◌≡◌, ℕ, take}
use Rattle.sift_base.specs.Units.{holds}
use Rattle.sift_vote.specs.Majority.{has_differing}
use Rattle.sift_vote.proofs.voting.differing.Given as goal

-- the units so far are those of the first units that have a place that differs
abbrev pub invariant-loop-position : goal.invariant-loop-position
invariant-loop-position l = (u : ℕ) → holds l.caught u ≡ has_differing (take l.position l.fn.units) (take l.position l.fn.places) l.fn.vote u
