-- The shapes of a sound program are shapes that a mission may have.
use Rattle.std.proofs.Common.{◌≡◌, ◌<◌, ◌≤◌, ◌+◌, ℕ, [], length, ap, ◌∙◌, arith}
use Rattle.std.proofs.lemmas.List.Elements.{All-filter}
use Rattle.std.proofs.lemmas.List.FromFn.{get_or-range_with_len, length-range_with_len}
use Rattle.std.specs.List.{All, range_with_len}
use Rattle.sift_base.specs.Layout.{sensor_limit}
use Rattle.sift_base.specs.Shapes.{AreShapes, Shape, shape_at}
use Rattle.sift_lang.specs.Tree.{TaskTree, end}
use Rattle.sift_program.specs.Program.{ProgramTree, IsSoundProgram, program_shapes, reads_task, task_at}
use Rattle.sift_program.specs.laws.ShapeLists.{shape_in, length-shapes, shape-there, words-shapes}

-- the numbers from 0 on are below so many
below_all : (n : ℕ) → All (λ k. k < n) (range_with_len 0 n)
below_all n k d low = rw (get_or-range_with_len 0 n k d (rw length-range_with_len at low)) (omega (arith, rw length-range_with_len at low))

module _ (sensors : ℕ) (program : ProgramTree) (few : sensors ≤ sensor_limit) (sound : IsSoundProgram sensors program) where
  -- the shape of a task that is there
  shape_is : (t : ℕ) → t < length (program_shapes sensors program).tasks → shape_at (program_shapes sensors program) t ≡ shape_in program.tasks t (task_at program.tasks t)
  shape_is t low =
      let empty : Shape = record { outputs = 0; needs = [] } in
      let within : t < length program.tasks = omega (arith, low, length-shapes program.tasks 0 program.tasks) in
      shape-there program.tasks t 0 program.tasks empty within
      ∙ ap (λ (n : ℕ). shape_in program.tasks n (task_at program.tasks t)) (let e : 0 + t ≡ t = omega arith in e)

  -- the tasks of a sound program, with no more than 8 sensors, have shapes that a mission may have
  pub sound_shapes : AreShapes (program_shapes sensors program)
  sound_shapes =
      let none : TaskTree = record { outputs = 0; body = end } in
      let long = length-shapes program.tasks 0 program.tasks in record {
        few_sensors = few;
        few_tasks = omega (arith, long, sound.few_tasks);
        few_words = omega (arith, words-shapes program.tasks 0 program.tasks, sound.a_start_each, sound.few_words);
        some_outputs = λ t low. rw (shape_is t low) (sound.tasks_sound t none (omega (arith, low, long))).some_output;
        few_outputs = λ t low. rw (shape_is t low) (sound.tasks_sound t none (omega (arith, low, long))).few_outputs;
        earlier = λ t low. rw (shape_is t low)
            (All-filter (reads_task program.tasks (task_at program.tasks t)) (λ needed. needed < t) (range_with_len 0 t) (below_all t));
      }
