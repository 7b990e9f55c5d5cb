-- The tasks of a drawn scenario: each follows one of four patterns.
use Rattle.std.specs.Prelude.{ℕ, codes, ◌==◌, ◌&&◌, nat_lt, if◌then◌else◌, List, [], ◌∷◌, ◌++◌}
use Rattle.std.specs.Fmt.{decimal}
use Rattle.std.specs.List.{concat}
use Rattle.sift_base.specs.Draw.{draw_at}
use Rattle.sift_gen.specs.declared.task.Pattern.{Pattern}
use Rattle.sift_gen.specs.declared.task.Pattern.TheVariants.{Sum, Middle, Chase, Triple}

-- ---- texts

-- the name of a sensor, and of a task
abbrev pub sensor_name : ℕ → List ℕ
sensor_name x = codes "s" ++ decimal x

abbrev pub task_name : ℕ → List ℕ
task_name t = codes "t" ++ decimal t

-- ---- patterns

-- the pattern of task t, by the number drawn for it; the first task has no earlier one
abbrev pub pattern_of : (n t : ℕ) → Pattern
pattern_of n t = if n == 1 then Middle else if n == 2 then Chase else if n == 3 && nat_lt 0 t then Triple else Sum

-- the text of task t by its pattern, where the draws of the pattern are those from x, among so many sensors
abbrev pub text_by : Pattern → (t sensors x : ℕ) → List ℕ
-- a sensor's words are summed up
text_by Sum t sensors x =
    concat (codes "out 0 = sense " ∷ sensor_name (draw_at x 0 sensors) ∷ codes " + last " ∷ task_name t ∷ codes ".0;" ∷ [])
-- the middle one of two sensors and the word before
text_by Middle t sensors x = concat (codes "out 0 = mid(sense " ∷ sensor_name (draw_at x 0 sensors) ∷ codes ", sense "
    ∷ sensor_name (draw_at x 1 sensors) ∷ codes ", last " ∷ task_name t ∷ codes ".0);" ∷ [])
-- one step a frame after a sensor
text_by Chase t sensors x = concat (codes "let d = sense " ∷ sensor_name (draw_at x 0 sensors) ∷ codes " - last " ∷ task_name t
    ∷ codes ".0; if d < 0 { out 0 = last " ∷ task_name t ∷ codes ".0 - 1; } else { out 0 = last " ∷ task_name t ∷ codes ".0 + 1; }" ∷ [])
-- three times an earlier task's word, and a sensor
text_by Triple t sensors x =
    concat (codes "out 0 = now " ∷ task_name (draw_at x 0 t) ∷ codes ".0 * 3 + sense " ∷ sensor_name (draw_at x 1 sensors) ∷ codes ";" ∷ [])

-- how many draws a pattern takes
abbrev pub draws_by : Pattern → ℕ
draws_by Sum = 1
draws_by Middle = 2
draws_by Chase = 1
draws_by Triple = 2
