-- The shapes of a program's tasks, one after another.
use Rattle.std.proofs.Common.{◌≡◌, ◌<◌, ◌≤◌, ◌+◌, ℕ, List, [], ◌∷◌, ◌++◌, length, get_or, map, take, Bool, true, false, cond, refl, sym, ap, ◌∙◌, arith}
use Rattle.std.proofs.lemmas.List.{get_or-map, length-map, take_more}
use Rattle.std.proofs.lemmas.List.Elements.{filter-append}
use Rattle.std.proofs.lemmas.List.Sums.{sum_by_more, sum_by_more_le}
use Rattle.std.specs.List.{filter, list_any, range_with_len}
use Rattle.sift_base.specs.Shapes.{Shape}
use Rattle.sift_base.specs.laws.Ranges.{range-next}
use Rattle.sift_lang.specs.Tree.{TaskTree, end, tree_of}
use Rattle.sift_lang.specs.declared.tree.Task.{Task}
use Rattle.sift_program.specs.Program.{first_word, output_count, reads_task, shapes_from, task_at}
use Rattle.sift_program.specs.laws.ShapeLists.{reads_word, shape_in, length-shapes, shape-there}

-- ---- what a task needs

-- one more passes the test, or not
filter-one : (p : ℕ → Bool) (n : ℕ) (b : Bool) → p n ≡ b → filter p (n ∷ []) ≡ cond b (n ∷ []) []
filter-one p n true is = rw is refl
filter-one p n false is = rw is refl

-- of the numbers below n + 1 those pass a test that pass it below n, and n behind them where it does
pub filter_next : (p : ℕ → Bool) (n : ℕ) (b : Bool) → b ≡ p n → filter p (range_with_len 0 (n + 1)) ≡ filter p (range_with_len 0 n) ++ cond b (n ∷ []) []
filter_next p n b is =
    ap (filter p) (range-next n) ∙ filter-append p (range_with_len 0 n) (n ∷ [])
    ∙ ap (λ xs. filter p (range_with_len 0 n) ++ xs) (filter-one p n b (sym is))

module _ (tasks : List Task) where
  -- a task of the code is the tree at its place
  pub tree_there : (d : TaskTree) (i : ℕ) (task : Task) → i < length tasks → task ≡ get_or tasks i task → get_or (map tree_of tasks) i d ≡ tree_of task
  tree_there d i task low is = get_or-map tree_of tasks i task d low ∙ ap tree_of (sym is)

  -- the words of the tasks before the next one
  pub first_next : (i : ℕ) (task : Task) → i < length tasks → task ≡ get_or tasks i task → first_word (map tree_of tasks) (i + 1) ≡ first_word (map tree_of tasks) i + task.outputs
  first_next i task low is =
      let none : TaskTree = record { outputs = 0; body = end } in
      sum_by_more (λ (t : TaskTree). t.outputs) (map tree_of tasks) i none (rw length-map low)
      ∙ ap (λ (t : TaskTree). first_word (map tree_of tasks) i + t.outputs) (tree_there none i task low is)

  -- they are among all
  pub first_within : (i : ℕ) (task : Task) → i < length tasks → task ≡ get_or tasks i task → first_word (map tree_of tasks) i + task.outputs ≤ output_count (map tree_of tasks)
  first_within i task low is =
      let none : TaskTree = record { outputs = 0; body = end } in
      let most = sum_by_more_le (λ (t : TaskTree). t.outputs) (map tree_of tasks) i none (rw length-map low) in
      let here = ap (λ (t : TaskTree). t.outputs) (tree_there none i task low is) in
      omega (arith, most, here)

  -- whether a task reads a word of an earlier one
  pub read_is :
      (place e first : ℕ) (task other : Task) → place < length tasks → task ≡ get_or tasks place task
      → e < length tasks → other ≡ get_or tasks e other → first ≡ first_word (map tree_of tasks) e
      → list_any (reads_word (tree_of task)) (range_with_len first other.outputs) ≡ reads_task (map tree_of tasks) (task_at (map tree_of tasks) place) e
  read_is place e first task other low is low_e is_e so =
      let none : TaskTree = record { outputs = 0; body = end } in
      rw (tree_there none place task low is, tree_there none e other low_e is_e, so) refl

-- ---- the shapes of all

-- the shapes so far and one more
pub shapes_next :
    (tasks : List Task) (i : ℕ) (task : Task) (needs : List ℕ) → i < length tasks → task ≡ get_or tasks i task
    → needs ≡ filter (reads_task (map tree_of tasks) (task_at (map tree_of tasks) i)) (range_with_len 0 i)
    → take (i + 1) (shapes_from (map tree_of tasks) 0 (map tree_of tasks))
    ≡ take i (shapes_from (map tree_of tasks) 0 (map tree_of tasks)) ++ (let s : Shape = record { outputs = task.outputs; needs = needs } in s) ∷ []
shapes_next tasks i task needs low is read =
    let trees = map tree_of tasks in
    let none : TaskTree = record { outputs = 0; body = end } in
    let empty : Shape = record { outputs = 0; needs = [] } in
    let within : i < length trees = rw length-map low in
    let there = shape-there trees i 0 trees empty within in
    let here : task_at trees i ≡ tree_of task = tree_there tasks none i task low is in
    let outputs = ap (λ (t : TaskTree). t.outputs) here in
    take_more (shapes_from trees 0 trees) i empty (omega (arith, within, length-shapes trees 0 trees))
    ∙ ap (λ (s : Shape). take i (shapes_from trees 0 trees) ++ s ∷ [])
    (there ∙ ap (λ (n : ℕ). shape_in trees n (task_at trees i)) (let e : 0 + i ≡ i = omega arith in e)
    ∙ ap (λ (n : ℕ). let s : Shape = record { outputs = n; needs = filter (reads_task trees (task_at trees i)) (range_with_len 0 i) } in s) outputs
    ∙ ap (λ (ns : List ℕ). let s : Shape = record { outputs = task.outputs; needs = ns } in s) (sym read))
