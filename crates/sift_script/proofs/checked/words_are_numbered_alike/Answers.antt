use Rattle.sift_script.proofs.Slots as laws
use Rattle.sift_script.proofs.checked.words_are_numbered_alike.Goals as goal

pub returns : goal.returns
returns c = laws.words_are_numbered_alike
