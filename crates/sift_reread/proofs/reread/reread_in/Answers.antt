use Rattle.std.proofs.Common.{◌≤◌, length, string_bytes, arith, rules}
use Rattle.sift_reread.proofs.Lines.{one_more, whole, whole_at_end}
use Rattle.sift_reread.proofs.reread.reread_in.Goals.{else-loop-lines-test, then-loop-lines-test+then-is_empty}
use Rattle.sift_reread.proofs.reread.reread_in.Goals as goal

-- a line more is printed
pub loop-lines-preserved : goal.loop-lines-preserved
loop-lines-preserved c = (
  rw c.in_ok-push_line.ensures (one_more c.args.version c.args.report.now (string_bytes c.loop-lines.text) c.loop-lines.rest.now c.in-Some.later.now
      c.loop-lines.lines c.in-Some.line c.loop-lines.invariant.0 c.in-Some.ensures.line c.in-Some.ensures.begun),
  search rules,
)

-- none is left
pub returns-clause-same : goal.returns-clause-same
returns-clause-same c = elim c.loop-lines-test.branch [
  | else-loop-lines-test w ↦
      let all : length c.args.report.now ≤ c.loop-lines.lines = grind arith in
      whole_at_end c.args.version c.args.report.now (string_bytes c.loop-lines.text) c.loop-lines.rest.now c.loop-lines.lines c.loop-lines.invariant.0 all
  | then-loop-lines-test+then-is_empty w ↦
      let none : length c.loop-lines.rest.now ≤ 0 = grind arith in
      whole c.args.version c.args.report.now (string_bytes c.loop-lines.text) c.loop-lines.rest.now c.loop-lines.lines c.loop-lines.invariant.0 none
]
