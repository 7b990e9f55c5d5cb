-- A task whose code is over a limit, as compiling tells it.
use Rattle.std.proofs.Common.{◌≡◌, inl, inr, ℕ, refl, sym, subst, ap, ◌∙◌}
use Rattle.std.specs.Prelude.{◌<◌, ◌≤◌, length}
use Rattle.sift_base.specs.declared.stop.Stop.TheVariants as stop
use Rattle.sift_code.specs.Bound.{bound_of, kept}
use Rattle.sift_compile.specs.Code.{task_code}
use Rattle.sift_compile.specs.Correct.{IsMeasured}
use Rattle.sift_compile.specs.Length.{code_limit, task_length, task_steps}
use Rattle.sift_compile.specs.Stop as code
use Rattle.sift_compile.specs.declared.compiler.CompileStop.{CompileStop}
use Rattle.sift_compile.specs.declared.compiler.CompileStop.TheVariants.{CodeTooLong, TooManySteps}
use Rattle.sift_lang.specs.Tree.{TaskTree}
use Rattle.sift_scenario.specs.Refusal.{IsOver}
use Rattle.sift_scenario.specs.Testing.{code_refusal_of}
use Rattle.sift_scenario.specs.declared.mission.Refused.{Refused}

-- what compiling tells where the task is refused so
pub record IsTold (left task : ℕ) (tree : TaskTree) (refused : Refused) : Type 0 where
  pub told : CompileStop
  pub over : code.IsOver left (task_code tree) told
  pub is : code_refusal_of task told ≡ stop.Refused refused

pub told_over : (left task : ℕ) (tree : TaskTree) (refused : Refused) → IsMeasured tree → IsOver left task tree refused → IsTold left task tree refused
told_over left task tree refused measured (inl (long, is)) = record {
  told = CodeTooLong (kept (length (task_code tree)));
  over = (subst (λ (n : ℕ). code_limit < n) (sym measured.long) long, refl);
  is = ap (λ (n : ℕ). code_refusal_of task (CodeTooLong (kept n))) measured.long ∙ ap stop.Refused (sym is);
}
told_over left task tree refused measured (inr (short, slow, is)) = record {
  told = TooManySteps (kept (bound_of (task_code tree)));
  over = (
    subst (λ (n : ℕ). n ≤ code_limit) (sym measured.long) short,
    subst (λ (n : ℕ). left < n) (sym measured.quick) slow,
    refl,
  );
  is = ap (λ (n : ℕ). code_refusal_of task (TooManySteps (kept n))) measured.quick ∙ ap stop.Refused (sym is);
}
