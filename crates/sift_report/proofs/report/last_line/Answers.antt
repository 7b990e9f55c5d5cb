use Rattle.std.proofs.Common.{refl}
use Rattle.sift_report.proofs.report.last_line.Goals as goal

pub returns : goal.returns
returns c = rw (c.config_at.ensures.config, c.frames-frames.ensures, c.requires.margin) refl
