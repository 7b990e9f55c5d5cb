use Rattle.sift_unit_frame.proofs.memory.Memory.word_to.Goals as goal

-- what the script puts in its place
pub returns-in-Some : goal.returns-in-Some
returns-in-Some c = rw (← c.override_of.ensures, c.in-Some.is)
