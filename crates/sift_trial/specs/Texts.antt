-- The tasks of a drawn scenario, as trees: what the text of each pattern says, among the names of the scenario.
use Rattle.std.specs.Prelude.{◌≡◌, ℕ, ◌<◌, ◌≤◌, List, map}
use Rattle.std.specs.List.{range_with_len}
use Rattle.sift_base.specs.Draw.{draw_at}
use Rattle.sift_base.specs.Layout.{sensor_limit}
use Rattle.sift_base.specs.Shapes.{task_limit}
use Rattle.sift_compile.specs.Length.{task_length, task_steps}
use Rattle.sift_gen.specs.Tasks.{sensor_name, task_name, text_by}
use Rattle.sift_gen.specs.declared.task.Pattern.{Pattern}
use Rattle.sift_gen.specs.declared.task.Pattern.TheVariants.{Sum, Middle, Chase, Triple}
use Rattle.sift_lang.specs.declared.tree.Op.TheVariants.{Add, Sub, Mul, Lt}
use Rattle.sift_lang.specs.Tree.{Term, number, local, sense, this_frame, last_frame, binary, middle, bind, output, choose_else, step, end, TaskTree}
use Rattle.sift_parse.specs.Outcome.{IsTaskOf}
use Rattle.sift_parse.specs.Roll.{Roll}

-- ---- names

-- the names of the first sensors, and of the first tasks
abbrev pub drawn_sensors : ℕ → List (List ℕ)
drawn_sensors sensors = map sensor_name (range_with_len 0 sensors)

abbrev pub drawn_tasks : ℕ → List (List ℕ)
drawn_tasks tasks = map task_name (range_with_len 0 tasks)

-- how many words each task has: one
abbrev pub drawn_sizes : ℕ → List ℕ
drawn_sizes tasks = map (λ t. 1) (range_with_len 0 tasks)

-- the names that the texts of a drawn scenario's tasks may use, where it is task t's turn
abbrev pub drawn_roll : (sensors tasks t : ℕ) → Roll
drawn_roll sensors tasks t = record { sensors = drawn_sensors sensors; tasks = drawn_tasks tasks; sizes = drawn_sizes tasks; this = t }

-- ---- trees

-- a task whose one word is this term
abbrev pub word_tree : Term → TaskTree
word_tree value = record { outputs = 1; body = step (output 0 value) end }

-- a sensor's words are summed up in task t's word
abbrev pub sum_tree : (t a : ℕ) → TaskTree
sum_tree t a = word_tree (binary Add (sense a) (last_frame t))

-- the middle one of two sensors and the word before
abbrev pub middle_tree : (t a b : ℕ) → TaskTree
middle_tree t a b = word_tree (middle (sense a) (sense b) (last_frame t))

-- one step a frame after a sensor: down where the difference is negative, else up
abbrev pub chase_tree : (t a : ℕ) → TaskTree
chase_tree t a =
    let down = step (output 0 (binary Sub (last_frame t) (number 1))) end in
    let up = step (output 0 (binary Add (last_frame t) (number 1))) end in
    let choice = choose_else (binary Lt (local 0) (number 0)) down up in
    record { outputs = 1; body = step (bind (binary Sub (sense a) (last_frame t))) (step choice end) }

-- three times an earlier task's word, and a sensor
abbrev pub triple_tree : (d a : ℕ) → TaskTree
triple_tree d a = word_tree (binary Add (binary Mul (this_frame d) (number 3)) (sense a))

-- the tree of task t by its pattern, where the draws of the pattern are those from x, among so many sensors
abbrev pub drawn_tree : Pattern → (t sensors x : ℕ) → TaskTree
drawn_tree Sum t sensors x = sum_tree t (draw_at x 0 sensors)
drawn_tree Middle t sensors x = middle_tree t (draw_at x 0 sensors) (draw_at x 1 sensors)
drawn_tree Chase t sensors x = chase_tree t (draw_at x 0 sensors)
drawn_tree Triple t sensors x = triple_tree (draw_at x 0 t) (draw_at x 1 sensors)

-- ---- what holds of them

-- task t may have this pattern: there is a sensor to read, and for the pattern that reads an earlier task there is one
pub record IsDrawable (p : Pattern) (sensors tasks t : ℕ) : Type 0 where
  pub some_sensor : 0 < sensors
  pub few_sensors : sensors ≤ sensor_limit
  pub few_tasks : tasks ≤ task_limit
  pub among : t < tasks
  pub earlier : p ≡ Triple → 0 < t

-- the text that is drawn is a task's, with the tree of its pattern
abbrev pub DrawnTextsAreTasks : Type 0
DrawnTextsAreTasks =
    (p : Pattern) (sensors tasks t x : ℕ) → IsDrawable p sensors tasks t
    → IsTaskOf (drawn_roll sensors tasks t) (text_by p t sensors x) (drawn_tree p t sensors x)

-- the most instructions that the code of a drawn task has, and the most steps that it takes in a frame
abbrev pub most_drawn : ℕ
most_drawn = 17

-- the code of a drawn task is short
pub record IsBrief (tree : TaskTree) : Type 0 where
  pub short : task_length tree ≤ most_drawn
  pub quick : task_steps tree ≤ most_drawn

abbrev pub DrawnTasksAreBrief : Type 0
DrawnTasksAreBrief = (p : Pattern) (t sensors x : ℕ) → IsBrief (drawn_tree p t sensors x)
