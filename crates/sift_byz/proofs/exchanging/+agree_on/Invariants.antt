use Rattle.sift_byz.proofs.exchanging.+agree_on.Given as goal

-- each call has a round fewer
abbrev pub decreases-agree_on : goal.decreases-agree_on
decreases-agree_on l = l.rounds
