use Rattle.sift_options.proofs.Texts.{same}
use Rattle.sift_options.proofs.setting.number_of.Goals as goal

pub returns : goal.returns
returns c = same c.args.text.now c.digits.result c.digits.ensures.found c.digits.ensures.exact
