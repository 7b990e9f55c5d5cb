-- The shapes of tasks with one output word each.
use Rattle.std.proofs.Common.{◌≡◌, ◌<◌, ◌≤◌, ◌+◌, ℕ, List, [], ◌∷◌, length, refl, ap, ◌∙◌, arith}
use Rattle.std.proofs.lemmas.List.{get_or-map, length-map}
use Rattle.std.proofs.lemmas.List.Sums.{sum_by-cons}
use Rattle.std.proofs.lemmas.List.Elements.{All-filter, All-head, All-tail}
use Rattle.std.specs.List.{All, range_with_len}
use Rattle.std.specs.Prelude.{slice_index}
use Rattle.sift_base.specs.Shapes.{AreShapes, Shape, shape_at}
use Rattle.sift_lang.specs.Tree.{TaskTree, end}
use Rattle.sift_script.specs.Script.{outputs_of}
use Rattle.sift_program.specs.Program.{ProgramTree, output_count, program_shapes, reads_task, task_at}
use Rattle.sift_program.specs.laws.ShapeLists.{shape_in, length-shapes, shape-there, words-shapes}
use Rattle.sift_trial.proofs.Digits.{all_below}

-- each tree has one output
abbrev pub AreOfOneWord : List TaskTree → Type 0
AreOfOneWord trees = All (λ tree. tree.outputs ≡ 1) trees

-- so there are as many words as trees
words_are : (trees : List TaskTree) → AreOfOneWord trees → output_count trees ≡ length trees
words_are [] one = refl
words_are (tree ∷ trees) one =
    let here = All-head (λ (x : TaskTree). x.outputs ≡ 1) tree trees one in
    let rest = words_are trees (All-tail (λ (x : TaskTree). x.outputs ≡ 1) tree trees one) in
    omega (arith, sum_by-cons (λ (x : TaskTree). x.outputs) tree trees, here, rest)

module _ (sensors : ℕ) (program : ProgramTree) (few : sensors ≤ 8) (few_tasks : length program.tasks ≤ 24) (one : AreOfOneWord program.tasks) where
  -- the program has a shape for each of its trees
  pub shapes_long : length (program_shapes sensors program).tasks ≡ length program.tasks
  shapes_long = length-shapes program.tasks 0 program.tasks

  -- the shape of a task that is there
  shape_is : (t : ℕ) → t < length program.tasks → shape_at (program_shapes sensors program) t ≡ shape_in program.tasks t (task_at program.tasks t)
  shape_is t low =
      let empty : Shape = record { outputs = 0; needs = [] } in
      shape-there program.tasks t 0 program.tasks empty low
      ∙ ap (λ (n : ℕ). shape_in program.tasks n (task_at program.tasks t)) (let e : 0 + t ≡ t = omega arith in e)

  one_word : (t : ℕ) → t < length program.tasks → (shape_at (program_shapes sensors program) t).outputs ≡ 1
  one_word t low =
      let none : TaskTree = record { outputs = 0; body = end } in
      ap (λ (s : Shape). s.outputs) (shape_is t low) ∙ one t none low

  -- they are shapes that a mission may have
  pub are_shapes : AreShapes (program_shapes sensors program)
  are_shapes = record {
    few_sensors = few;
    few_tasks = omega (arith, shapes_long, few_tasks);
    few_words = omega (arith, words-shapes program.tasks 0 program.tasks, words_are program.tasks one, few_tasks);
    some_outputs = λ t low. omega (arith, one_word t (omega (arith, low, shapes_long)));
    few_outputs = λ t low. omega (arith, one_word t (omega (arith, low, shapes_long)));
    earlier = λ t low. rw (shape_is t (omega (arith, low, shapes_long)))
        (All-filter (reads_task program.tasks (task_at program.tasks t)) (λ needed. needed < t) (range_with_len 0 t) (all_below t));
  }

  -- the script may speak of the word of each
  pub outputs_long : length (outputs_of (program_shapes sensors program)) ≡ length program.tasks
  outputs_long = length-map (program_shapes sensors program).tasks (λ (s : Shape). s.outputs) ∙ shapes_long

  -- for each task the script counts one output word
  pub output_is : (t : ℕ) → t < length program.tasks → slice_index (outputs_of (program_shapes sensors program)) t ≡ 1
  output_is t low =
      let empty : Shape = record { outputs = 0; needs = [] } in
      get_or-map (λ (s : Shape). s.outputs) (program_shapes sensors program).tasks t empty 0 (omega (arith, low, shapes_long)) ∙ one_word t low
