use Rattle.std.proofs.Common.{sym, subst}
use Rattle.std.proofs.lemmas.Bool.Decides.{Decides-eqb}
use Rattle.std.proofs.lemmas.Slice.Eq.{strip_prefix_is}
use Rattle.sift_judge_jobs.specs.Divided.{AreWholeLines, divider}
use Rattle.sift_judge_jobs.proofs.Places.{stripped_elsewhere, stripped_there}
use Rattle.sift_judge_jobs.proofs.lines.report_at.Goals as goal

-- the divider follows whole lines
pub returns-clause-there : goal.returns-clause-there
returns-clause-there c =
    let begins = subst AreWholeLines c.split_at.ensures.front (c.are_whole_lines.ensures.0 c.if-not-are_whole_lines.false) in
    stripped_there c.args.bytes.now c.args.place c.split_at.result.1.now c.strip_prefix.result (sym c.split_at.ensures.back) begins
    (strip_prefix_is Decides-eqb c.split_at.result.1.now divider c.strip_prefix.result c.strip_prefix.ensures.cases)

-- or it doesn't follow
pub returns-clause-elsewhere : goal.returns-clause-elsewhere
returns-clause-elsewhere c =
    stripped_elsewhere c.args.bytes.now c.args.place c.split_at.result.1.now c.strip_prefix.result (sym c.split_at.ensures.back)
    (strip_prefix_is Decides-eqb c.split_at.result.1.now divider c.strip_prefix.result c.strip_prefix.ensures.cases)
