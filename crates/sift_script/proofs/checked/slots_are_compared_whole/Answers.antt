use Rattle.sift_script.proofs.Slots as laws
use Rattle.sift_script.proofs.checked.slots_are_compared_whole.Goals as goal

pub returns : goal.returns
returns c = laws.slots_are_compared_whole
