use Rattle.sift_library.proofs.answer_of.Goals as goal

-- the words are those that stand in the text
pub returns-clause-told : goal.returns-clause-told
returns-clause-told c = rw (← c.in_ok-words.ensures) (rw (← c.deref.ensures.value) c.answer_in.ensures.told)
