-- The shapes of a mission's tasks: how many words each puts out, and which tasks it reads. A schedule needs no more of them.
use Rattle.std.specs.Prelude.{ℕ, ◌<◌, ◌≤◌, List, [], length, map, take, slice_index_or}
use Rattle.std.specs.List.{All, sum_by}
use Rattle.sift_base.specs.Layout.{sensor_limit, word_limit}
use Rattle.sift_base.specs.declared.slots.TaskShape.{TaskShape}
use Rattle.sift_base.specs.declared.slots.Shapes.{Shapes}

-- the most tasks of a mission
abbrev pub task_limit : ℕ
task_limit = 24

-- the most output words of a task
abbrev pub output_limit : ℕ
output_limit = 8

-- the shape of a task: the number of its output words, and the tasks whose words of the same frame it reads
pub record Shape : Type 0 where
  pub outputs : ℕ
  pub needs : List ℕ

-- the number of a mission's sensors, and its tasks' shapes in their order
pub record AllShapes : Type 0 where
  pub sensors : ℕ
  pub tasks : List Shape

-- the shape that a value of the code stands for
abbrev pub shape_of : TaskShape → Shape
shape_of task = record { outputs = task.outputs; needs = task.needs.items }

-- the shapes that a value of the code stands for
abbrev pub shapes_of : Shapes → AllShapes
shapes_of shapes = record { sensors = shapes.sensors; tasks = map shape_of shapes.tasks.items }

-- the shape of task t, and of no words where there is no such task
abbrev pub shape_at : AllShapes → ℕ → Shape
shape_at shapes t = slice_index_or shapes.tasks t (record { outputs = 0; needs = [] })

-- how many output words these tasks have
abbrev pub words_in : List Shape → ℕ
words_in tasks = sum_by (λ task. task.outputs) tasks

-- the number of task t's first output word: the words are numbered in the order of the tasks
abbrev pub first_word : AllShapes → ℕ → ℕ
first_word shapes t = words_in (take t shapes.tasks)

-- shapes that a mission may have: at most 8 sensors and 24 tasks, 1 to 8 words a task and 64 in all, and each task reads only earlier ones
pub record AreShapes (shapes : AllShapes) : Type 0 where
  pub few_sensors : shapes.sensors ≤ sensor_limit
  pub few_tasks : length shapes.tasks ≤ task_limit
  pub few_words : words_in shapes.tasks ≤ word_limit
  pub some_outputs : (t : ℕ) → t < length shapes.tasks → 0 < (shape_at shapes t).outputs
  pub few_outputs : (t : ℕ) → t < length shapes.tasks → (shape_at shapes t).outputs ≤ output_limit
  pub earlier : (t : ℕ) → t < length shapes.tasks → All (λ needed. needed < t) (shape_at shapes t).needs
