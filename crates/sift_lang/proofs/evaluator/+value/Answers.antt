use Rattle.std.proofs.Common.{◌<◌, length}
use Rattle.std.proofs.lemmas.Grind.{get_or_default_zero}
use Rattle.sift_lang.proofs.evaluator.+value.Goals as goal

-- a word voted in this frame
pub returns-in-Now : goal.returns-in-Now
returns-in-Now t c =
    let there : c.in-Now.w < length c.args.readings.now.made.now = rw c.in-Now.is at c.requires.nows in
    rw c.in-Now.is (get_or_default_zero c.args.readings.now.made.now c.in-Now.w c.index-readings-w.result there)
