use Rattle.std.proofs.Common.{◌≡◌, ◌∙◌, sym, ap, arith}
use Rattle.sift_code.specs.Bound.{bound_of, kept}
use Rattle.sift_lang.specs.Tree.{block_of, tree_of}
use Rattle.sift_compile.specs.Code.{task_code}
use Rattle.sift_compile.specs.Length.{task_steps}
use Rattle.sift_compile.proofs.Allowed.{counted, kept_over, kept_within}
use Rattle.sift_compile.proofs.Steps.{code_is_measured}
use Rattle.sift_compile.proofs.compiler.test_limits.Goals as goal

-- the code is longer than it may be
pub returns-then-len-gt-CODE_LIMIT-clause-over : goal.returns-then-len-gt-CODE_LIMIT-clause-over
returns-then-len-gt-CODE_LIMIT-clause-over c =
    let len = counted (block_of c.args.task.now.body.items) c.block_takes-len.result (rw c.deref.ensures.value at c.block_takes-len.ensures) in
    (omega (arith, len, c.if-len-gt-CODE_LIMIT.true), len)

-- it is short, and its bound is over the budget
pub returns-then-bound-budget-clause-over : goal.returns-then-bound-budget-clause-over
returns-then-bound-budget-clause-over c =
    let len = counted (block_of c.args.task.now.body.items) c.block_takes-len.result (rw c.deref.ensures.value at c.block_takes-len.ensures) in
    let steps : c.block_takes-bound.result ≡ kept (task_steps (tree_of c.args.task.now)) = rw c.deref-2.ensures.value at c.block_takes-bound.ensures in
    let bound : c.block_takes-bound.result ≡ kept (bound_of (task_code (tree_of c.args.task.now))) =
    steps ∙ ap kept (sym (code_is_measured (tree_of c.args.task.now)).quick) in (
      omega (arith, len, c.if-len-gt-CODE_LIMIT.false),
      kept_over c.args.budget (bound_of (task_code (tree_of c.args.task.now))) (omega (arith, bound, c.if-bound-budget.true)),
      bound,
    )

-- or within it
pub returns-clause-allowed : goal.returns-clause-allowed
returns-clause-allowed c =
    let len = counted (block_of c.args.task.now.body.items) c.block_takes-len.result (rw c.deref.ensures.value at c.block_takes-len.ensures) in
    let steps : c.block_takes-bound.result ≡ kept (task_steps (tree_of c.args.task.now)) = rw c.deref-2.ensures.value at c.block_takes-bound.ensures in
    let bound : c.block_takes-bound.result ≡ kept (bound_of (task_code (tree_of c.args.task.now))) =
    steps ∙ ap kept (sym (code_is_measured (tree_of c.args.task.now)).quick) in
    λ ok. record {
      short = omega (arith, len, c.if-len-gt-CODE_LIMIT.false);
      quick = kept_within c.args.budget (bound_of (task_code (tree_of c.args.task.now))) (omega (arith, c.requires))
          (omega (arith, bound, c.if-bound-budget.false));
    }
