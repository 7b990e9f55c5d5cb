use Rattle.std.proofs.Common.{◌≡◌, ◌∙◌, ◌++◌, ◌∷◌, ◌==◌, [], ℕ, List, ap, arith, inr, rules, sym}
use Rattle.std.proofs.lemmas.Grind.{common_steps}
use Rattle.std.specs.List.{before_first}
use Rattle.sift_reread.specs.Report.{line_feed}
use Rattle.sift_reread.proofs.reread.first_line.Goals as goal

pub returns-clause-line : goal.returns-clause-line
returns-clause-line c = (c.in_ok-read_line.ensures.line, c.in_ok-read_line.ensures.version)

-- the line feed stands between the line and what is behind it
pub returns-clause-begun : goal.returns-clause-begun
returns-clause-begun c =
    let whole : (c.in_ok-line.line.now ++ line_feed ∷ []) ++ c.in_ok-line.later.now ≡ c.args.text.now = grind (arith, common_steps) in
    ap (λ (line : List ℕ). (line ++ line_feed ∷ []) ++ c.in_ok-line.later.now) c.in_ok-read_line.ensures.printed ∙ whole

-- no line of the version stands before the line feed
pub returns-in_err-read_line-clause-none : goal.returns-in_err-read_line-clause-none
returns-in_err-read_line-clause-none c =
    let before : c.in_ok-line.line.now ≡ before_first (λ b. b == line_feed) c.args.text.now = search rules in
    rw c.from_residual-in_err-read_line.ensures
    (inr (λ line is same. let found = c.in_err-read_line.ensures.exact line is.0 is.1 (same ∙ sym before) in (cc)))
