use Rattle.sift_script.proofs.Steady as laws
use Rattle.sift_script.proofs.checked.working_units_say_their_words.Goals as goal

pub returns : goal.returns
returns c = laws.working_units_say_their_words
