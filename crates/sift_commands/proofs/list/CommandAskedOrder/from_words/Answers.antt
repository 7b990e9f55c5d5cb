use Rattle.sift_commands.proofs.list.CommandAskedOrder.from_words.Goals as goal

-- what asks for no listed one asks for none that stands for it
pub returns-in-None-clause-none : goal.returns-in-None-clause-none
returns-in-None-clause-none g c = λ means job. c.in-None.ensures.none means job.listed
