use Rattle.sift_code.proofs.lemmas.Ending.{sound_ends}
use Rattle.sift_code.proofs.checked.checked_code_ends.Goals as goal

-- sound code comes to its end
pub returns : goal.returns
returns c = sound_ends
