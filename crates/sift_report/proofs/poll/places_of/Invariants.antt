use Rattle.std.proofs.Common.{◌≡◌, map, take}
use Rattle.sift_report.proofs.poll.places_of.Given as goal

-- the words so far
abbrev pub invariant-loop-poll : goal.invariant-loop-poll
invariant-loop-poll l = l.places.items ≡ map (λ poll. poll.word) (take l.poll-index l.polls)
