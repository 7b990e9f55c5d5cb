use Rattle.std.proofs.Common.{◌∙◌, ◌∷◌, ◌+◌, ℕ, List, ap, drop}
use Rattle.sift_line.specs.Line.{line_text}
use Rattle.sift_line.specs.Texts.{texts_of}
use Rattle.sift_judge_jobs.proofs.Steps.{first_refused, first_text, found_end, no_end, not_there, to_the_end, unended}
use Rattle.sift_judge_jobs.proofs.lines.first_line.Goals as goal

-- no line feed ends it
pub returns-in_err-end-clause-none : goal.returns-in_err-end-clause-none
returns-in_err-end-clause-none c = rw c.from_residual.ensures
    (unended c.args.version c.args.report.now c.requires (no_end c.args.report.now c.first_end.result c.first_end.ensures c.in_err-end.was))

-- it is no line's
pub returns-in_err-line-clause-none : goal.returns-in_err-line-clause-none
returns-in_err-line-clause-none c =
    let at = found_end c.args.report.now c.first_end.result c.in_ok-end.end c.first_end.ensures c.in_ok-end.was in
    rw c.from_residual-in_err-line.ensures
    (first_refused c.args.version c.args.report.now c.in_ok-end.end at.0 at.1
    (λ line is printed. not_there c.read_text.result line c.in_err-line.was (c.read_text.ensures.exact line is printed)))

-- what stands before the line feed is the first text
pub returns-clause-begun : goal.returns-clause-begun
returns-clause-begun c =
    let at = found_end c.args.report.now c.first_end.result c.in_ok-end.end c.first_end.ensures c.in_ok-end.was in
    ap (λ (rest : List ℕ). line_text c.in_ok-line.line ∷ texts_of rest) (to_the_end c.args.report.now (c.in_ok-end.end + 1))
    ∙ ap (λ (text : List ℕ). text ∷ texts_of (drop (c.in_ok-end.end + 1) c.args.report.now)) c.in_ok-line.ensures.printed
    ∙ first_text c.args.report.now c.in_ok-end.end at.0 at.1
