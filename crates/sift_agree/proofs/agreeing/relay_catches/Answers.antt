use Rattle.sift_agree.proofs.agreeing.relay_catches.Goals as goal

-- the own word is the vote
pub returns : goal.returns
returns c = c.differing.ensures
