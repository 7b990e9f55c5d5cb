use Rattle.std.proofs.Common.{◌≡◌, ◌∙◌, List, ℕ, sym, subst}
use Rattle.std.specs.Prelude.{IfSome, IsUtf8}
use Rattle.sift_line.specs.Line.{line_text}
use Rattle.sift_judge_jobs.proofs.Steps.{failed_as, found_as, read_as}
use Rattle.sift_judge_jobs.proofs.lines.read_text.Goals as goal

-- bytes that are no text are no line's
pub returns-in_err-text-clause-exact : goal.returns-in_err-text-clause-exact
returns-in_err-text-clause-exact c =
    let failed = failed_as c.from_utf8.result (λ text. (text.now ≡ c.args.bytes.now) × IsUtf8 c.args.bytes.now) _
    (sym c.ok.ensures.value ∙ c.in_err-text.was) c.from_utf8.ensures.cases in
    λ line is printed. absurd (failed.1.0 (subst IsUtf8 printed (c.lines_are_texts.ensures line is.holds)))

-- of a text it is the line that is read
pub returns-clause-line : goal.returns-clause-line
returns-clause-line c = read_as c.args.version c.read_line.result c.read_line.ensures.line c.read_line.ensures.version

pub returns-clause-printed : goal.returns-clause-printed
returns-clause-printed c =
    let text = found_as c.from_utf8.result c.in_ok-text.text (λ text. (text.now ≡ c.args.bytes.now) × IsUtf8 c.args.bytes.now) _
    (sym c.ok.ensures.value ∙ c.in_ok-text.was) c.from_utf8.ensures.cases in
    subst (λ (bytes : List ℕ). IfSome c.read_line.result (λ line. line_text line ≡ bytes)) text.0 c.read_line.ensures.printed

pub returns-clause-exact : goal.returns-clause-exact
returns-clause-exact c =
    let text = found_as c.from_utf8.result c.in_ok-text.text (λ text. (text.now ≡ c.args.bytes.now) × IsUtf8 c.args.bytes.now) _
    (sym c.ok.ensures.value ∙ c.in_ok-text.was) c.from_utf8.ensures.cases in
    λ line is printed. c.read_line.ensures.exact line is.holds is.told (printed ∙ sym text.0)
