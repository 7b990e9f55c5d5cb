use Rattle.std.proofs.Common.{All, take}
use Rattle.sift_vote.specs.laws.Votes.{Loses}
use Rattle.sift_vote.proofs.voting.majority.Given as goal

-- no word so far is the majority
abbrev pub invariant-loop-place : goal.invariant-loop-place
invariant-loop-place l = All (Loses l.places) (take l.place-index l.places)
