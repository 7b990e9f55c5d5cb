-- The scenario that is drawn from a number, as the tree of a document, and its text.
use Rattle.std.specs.Prelude.{ℕ, List, [], ◌∷◌, pos, codes, zero, suc, ◌+◌, ◌*◌, map, nat_eq, not, ◌≡◌, false, Some}
use Rattle.std.specs.Cmp.Lexicographic.{slice_cmp}
use Rattle.std.specs.Ordering.{match_ordering, nat_cmp}
use Rattle.std.specs.Fmt.{decimal}
use Rattle.std.specs.List.{filter, flat_map, range_with_len}
use Rattle.toml.specs.Data.{Data, Members, array, integer, member, no_members, string, table}
use Rattle.toml.specs.Parse.{parse_document}
use Rattle.toml.specs.View.{items_of}
use Rattle.toml.specs.Text.{IsDocumentText}
use Rattle.sift_base.specs.Draw.{after, draw_at}
use Rattle.sift_base.specs.Word.{word_count}
use Rattle.sift_gen.specs.Tasks.{draws_by, pattern_of, sensor_name, task_name, text_by}
use Rattle.sift_gen.specs.declared.task.Pattern.{Pattern}

-- ---- tables and arrays, by their entries

-- the members and one more entry, in the order of the keys; an equal key takes the value
abbrev pub placed : List ℕ → Data → Members → Members
placed key value no_members = member key value no_members
placed key value (member other old rest) = match_ordering (slice_cmp nat_cmp key other)
    (member key value (member other old rest)) (member other value rest) (member other old (placed key value rest))

-- an array of these values
abbrev pub array_of : List Data → Data
array_of values = array (items_of values)

-- an unsigned number
abbrev pub number : ℕ → Data
number n = integer (pos n)

-- ---- sensors

-- how many words each sensor has
abbrev pub words_each : ℕ
words_each = 16

-- the words of a sensor: the draws from x
unfoldable pub sensor_words : ℕ → List Data
sensor_words x = map (λ i. number (draw_at x i word_count)) (range_with_len 0 words_each)

-- the table of sensor k, whose words are the draws from x
abbrev pub sensor_table : (k x : ℕ) → Data
sensor_table k x = table (member (codes "name") (string (sensor_name k)) (member (codes "words") (array_of (sensor_words x)) no_members))

-- the tables of the first sensors, of which the words are the draws from x
abbrev pub sensor_tables : (sensors x : ℕ) → List Data
sensor_tables sensors x = map (λ k. sensor_table k (after x (words_each * k))) (range_with_len 0 sensors)

-- ---- tasks

-- the pattern of task t, whose draws are those from x: the second is one of the four patterns
abbrev pub pattern_from : (t x : ℕ) → Pattern
pattern_from t x = pattern_of (draw_at x 1 4) t

-- the table of task t, whose draws are those from x: its start word, its pattern, and those of the pattern
abbrev pub task_table : (t sensors x : ℕ) → Data
task_table t sensors x = table (member (codes "name") (string (task_name t))
    (member (codes "start") (array_of (number (draw_at x 0 word_count) ∷ []))
    (member (codes "text") (string (text_by (pattern_from t x) t sensors (after x 2))) no_members)))

-- the generator's number where task t begins, where the first task begins at x
abbrev pub task_place : (t x : ℕ) → ℕ
task_place zero x = x
task_place (suc t) x = after (after (task_place t x) 2) (draws_by (pattern_from t (task_place t x)))

-- the tables of the first tasks
abbrev pub task_tables : (tasks sensors x : ℕ) → List Data
task_tables tasks sensors x = map (λ t. task_table t sensors (task_place t x)) (range_with_len 0 tasks)

-- ---- the fault

-- the digits of all units but one
abbrev pub other_digits : (units unit : ℕ) → List ℕ
other_digits units unit = flat_map decimal (filter (λ u. not (nat_eq u unit)) (range_with_len 0 units))

-- the item of a wrong word of a task, said to all other units
abbrev pub fault_item : (units unit task value : ℕ) → Data
fault_item units unit task value = table (member (codes "index") (number task) (member (codes "slot") (string (codes "out"))
    (member (codes "to") (string (other_digits units unit)) (member (codes "value") (number value) (member (codes "word") (number 0) no_members)))))

-- the table of the fault, whose draws are those from x: the unit, its first frame, and the task for whose word it says a wrong value
abbrev pub fault_table : (units frames tasks x : ℕ) → Data
fault_table units frames tasks x = table (member (codes "from") (number (draw_at x 1 frames))
    (member (codes "say") (array_of (fault_item units (draw_at x 0 units) (draw_at x 2 tasks) (draw_at x 3 word_count) ∷ []))
    (member (codes "unit") (number (draw_at x 0 units)) no_members)))

-- ---- the tree

-- the tree of so many units, frames, sensors and tasks: the draws of the sensors are those from x, and those of the tasks and of one fault follow
abbrev pub tree_with : (units frames sensors tasks x : ℕ) → Members
tree_with units frames sensors tasks x =
    let y = after x (words_each * sensors) in
    member (codes "fault") (array_of (fault_table units frames tasks (task_place tasks y) ∷ []))
    (member (codes "frames") (number frames)
    (member (codes "sensor") (array_of (sensor_tables sensors x))
    (member (codes "task") (array_of (task_tables tasks sensors y))
    (member (codes "units") (number units) no_members))))

-- the tree of the scenario with number n: first 5 to 8 units, 20 to 200 frames, 1 to 8 sensors and 1 to 12 tasks are drawn
abbrev pub tree_of : ℕ → Members
tree_of n = tree_with (5 + draw_at n 0 4) (20 + draw_at n 1 181) (1 + draw_at n 2 8) (1 + draw_at n 3 12) (after n 4)

-- ---- its text

-- the text is the tree of number n as `toml` prints it, not in its form with a line for each element, and it reads back as that tree
pub record IsTextOf (n : ℕ) (text : List ℕ) : Type 0 where
  pub printed : IsDocumentText false (tree_of n) text
  pub reads_back : parse_document text ≡ Some (tree_of n)

-- a number has one text at most
abbrev pub OneTextOfANumber : Type 0
OneTextOfANumber = (n : ℕ) (one other : List ℕ) → IsTextOf n one → IsTextOf n other → one ≡ other
