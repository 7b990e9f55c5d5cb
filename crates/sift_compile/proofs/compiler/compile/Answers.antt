use Rattle.std.proofs.Common.{sym, subst}
use Rattle.sift_code.specs.Refusal.{Program}
use Rattle.sift_lang.specs.Tree.{tree_of}
use Rattle.sift_compile.specs.Correct.{Means}
use Rattle.sift_compile.proofs.Giving.{means_its_task}
use Rattle.sift_compile.proofs.Steps.{code_is_measured}
use Rattle.sift_compile.proofs.compiler.compile.Goals as goal

-- ---- the length and the steps, at each answer

pub returns-in_err-test_limits-clause-measured : goal.returns-in_err-test_limits-clause-measured
returns-in_err-test_limits-clause-measured c = code_is_measured (tree_of c.args.task.now)

pub returns-in_err-check-clause-measured : goal.returns-in_err-check-clause-measured
returns-in_err-check-clause-measured c = code_is_measured (tree_of c.args.task.now)

pub returns-clause-measured : goal.returns-clause-measured
returns-clause-measured c = code_is_measured (tree_of c.args.task.now)

-- ---- what the code means

pub returns-clause-means : goal.returns-clause-means
returns-clause-means c =
    subst (λ (p : Program). Means p (tree_of c.args.task.now)) (sym c.in_ok-check.ensures) (means_its_task c.args.sensors c.args.words (tree_of c.args.task.now) c.requires.sound)
