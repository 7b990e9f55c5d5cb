-- Tasks in their turns.
use Rattle.std.proofs.Common.{◌≡◌, ℕ, List, length, Some, inl, inr, refl}
use Rattle.std.specs.List.{slice_get}
use Rattle.sift_lang.specs.Tree.{TaskTree}
use Rattle.sift_parse.specs.Roll.{Roll, roll_of}
use Rattle.sift_parse.specs.declared.task.Names.{Names}
use Rattle.sift_document.specs.Rules.{EachMatches}
use Rattle.sift_scenario.specs.Program.{AreAllowed, IsTreeOf, steps_left, turn_of}
use Rattle.sift_scenario.specs.Refusal.{IsFirstRefused, IsNoTask, IsOver}
use Rattle.sift_scenario.specs.Task.{Form}
use Rattle.sift_scenario.specs.declared.mission.Refused.{Refused}

-- names that differ in the turn alone are the same at a task's turn
pub same_turn :
    (one other : Names) (task : ℕ) → one.sensors ≡ other.sensors → one.tasks ≡ other.tasks
    → roll_of (let n : Names = record { sensors = one.sensors; tasks = one.tasks; this = task } in n) ≡ turn_of task (roll_of other)
same_turn one other task sensors tasks = rw (sensors, tasks) refl

module _
    (roll : Roll) (forms : List Form) (trees : List TaskTree) (task : ℕ) (form : Form) (refused : Refused) (long : length trees ≡ task)
    (each : EachMatches (λ place f tree. IsTreeOf (turn_of place roll) f tree) forms trees) (allowed : AreAllowed trees)
    (there : slice_get forms task ≡ Some form) where
  -- a text that is no task, after tasks that have trees and code
  pub text_first : IsNoTask (turn_of task roll) task form refused → IsFirstRefused roll forms refused
  text_first here = record {
    task = task;
    trees = trees;
    as_many = long;
    earlier = each;
    allowed = allowed;
    here = record { entry = form; there = there; holds = inl here };
  }

  -- a task whose code isn't allowed
  pub code_first :
      (tree : TaskTree) → IsTreeOf (turn_of task roll) form tree → IsOver (steps_left trees) task tree refused
      → IsFirstRefused roll forms refused
  code_first tree is over = record {
    task = task;
    trees = trees;
    as_many = long;
    earlier = each;
    allowed = allowed;
    here = record { entry = form; there = there; holds = inr (tree, is, over) };
  }
