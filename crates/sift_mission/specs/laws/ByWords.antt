-- The list of the words' tasks has the task of each word.
use Rattle.std.proofs.Common.{◌≡◌, ℕ, zero, suc, ◌+◌, ◌-◌, ◌<◌, ◌≤◌, List, [], ◌∷◌, ◌++◌, length, map, take, get_or, replicate, slice_index, inl, inr, refl, sym, ap, ◌∙◌, arith}
use Rattle.std.proofs.lemmas.Bool.{cases_lt, le-ltb, lt-ltb}
use Rattle.std.proofs.lemmas.List.{append-nil, append_assoc, length-map, length-take-le, take_more, get_or-append_right, get_or-replicate, get_or_append_left, length-append, length-replicate}
use Rattle.std.proofs.lemmas.List.Sums.{sum_by_more_le}
use Rattle.sift_lang.specs.Tree.{TaskTree, tree_of}
use Rattle.sift_lang.specs.declared.tree.Task.{Task}
use Rattle.sift_table.specs.Timing.{task_of}
use Rattle.sift_program.specs.Program.{output_count, shapes_from}
use Rattle.sift_program.specs.laws.ShapeLists.{output_count-cons}
use Rattle.sift_mission.specs.ByWord.{by_word}

-- each word has a task
pub length-by_word : (t : ℕ) (tasks : List TaskTree) → length (by_word t tasks) ≡ output_count tasks
length-by_word t [] = refl
length-by_word t (task ∷ tasks) =
    omega (arith, length-append (replicate task.outputs t) (by_word (suc t) tasks), length-replicate task.outputs t, length-by_word (suc t) tasks, output_count-cons task tasks)

-- it is the one whose word it is
pub at-by_word : (all : List TaskTree) (t : ℕ) (tasks : List TaskTree) (w : ℕ) → w < output_count tasks
    → slice_index (by_word t tasks) w ≡ t + task_of (shapes_from all t tasks) w
at-by_word all t [] w low = absurd (omega arith)
at-by_word all t (task ∷ tasks) w low =
    let own = replicate task.outputs t in
    let size : length own ≡ task.outputs = length-replicate task.outputs t in
    elim (cases_lt w task.outputs) [
      | inl less ↦ rw (lt-ltb w task.outputs less)
          (get_or_append_left own (by_word (suc t) tasks) 0 w (omega arith) ∙ (get_or-replicate task.outputs w t 0 less ∙ omega arith))
      | inr more ↦
          let rest = at-by_word all (suc t) tasks (w - task.outputs) (omega (arith, output_count-cons task tasks)) in
          rw (le-ltb w task.outputs more) (get_or-append_right own (by_word (suc t) tasks) task.outputs w 0 size more ∙ (rest ∙ omega arith))
    ]

-- the words of one task more
by_word-push : (t : ℕ) (tasks : List TaskTree) (task : TaskTree) → by_word t (tasks ++ task ∷ []) ≡ by_word t tasks ++ replicate task.outputs (t + length tasks)
by_word-push t [] task = let e : t + 0 ≡ t = omega arith in rw e (append-nil (replicate task.outputs t))
by_word-push t (first ∷ tasks) task =
    let e : t + suc (length tasks) ≡ suc t + length tasks = omega arith in
    rw e (ap (λ rest. replicate first.outputs t ++ rest) (by_word-push (suc t) tasks task)
    ∙ sym (append_assoc (replicate first.outputs t) (by_word (suc t) tasks) (replicate task.outputs (suc t + length tasks))))

-- an element of a list, as another type has it
pub get_or-map_default : {X Y : Type 0} (f : X → Y) (xs : List X) (i : ℕ) (x : X) → get_or (map f xs) i (f x) ≡ f (get_or xs i x)
get_or-map_default f [] i x = refl
get_or-map_default f (y ∷ xs) zero x = refl
get_or-map_default f (y ∷ xs) (suc i) x = get_or-map_default f xs i x

module _ (tasks : List Task) (t : ℕ) (task : Task) (low : t < length tasks) (is : task ≡ get_or tasks t task) where
  -- the tree of a task among all
  tree-is : get_or (map tree_of tasks) t (tree_of task) ≡ tree_of task
  tree-is = get_or-map_default tree_of tasks t task ∙ ap tree_of (sym is)

  -- the words of a task more
  pub by_word-more : by_word 0 (take (t + 1) (map tree_of tasks)) ≡ by_word 0 (take t (map tree_of tasks)) ++ replicate task.outputs t
  by_word-more =
      let trees = map tree_of tasks in
      let within : t < length trees = rw (length-map tasks tree_of) low in
      let size : length (take t trees) ≡ t = length-take-le t trees (omega arith) in
      let more = take_more trees t (tree_of task) within in
      let place : 0 + length (take t trees) ≡ t = omega arith in
      rw (more, tree-is) (by_word-push 0 (take t trees) (tree_of task) ∙ ap (λ n. by_word 0 (take t trees) ++ replicate task.outputs n) place)

  -- there is room for them
  pub by_word-room : length (by_word 0 (take t (map tree_of tasks))) + task.outputs ≤ output_count (map tree_of tasks)
  by_word-room =
      let trees = map tree_of tasks in
      let within : t < length trees = rw (length-map tasks tree_of) low in
      let more = sum_by_more_le (λ (tree : TaskTree). tree.outputs) trees t (tree_of task) within in
      let own : (get_or trees t (tree_of task)).outputs ≡ task.outputs = ap (λ (tree : TaskTree). tree.outputs) tree-is in
      omega (arith, length-by_word 0 (take t trees))
