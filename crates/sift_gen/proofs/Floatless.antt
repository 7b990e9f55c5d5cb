-- The tree of a scenario has no float.
use Rattle.std.proofs.Common.{ℕ, zero, suc, ◌+◌, ◌*◌, List, map}
use Rattle.std.specs.List.{range_with_len}
use Rattle.toml.specs.Data.{Data}
use Rattle.sift_base.specs.Draw.{after, draw_at}
use Rattle.sift_base.specs.Word.{word_count}
use Rattle.sift_gen.proofs.OneText.{HasNoFloat, NoItemHasFloat, NoMemberHasFloat}
use Rattle.sift_gen.specs.Scenario.{number}
use Rattle.toml.specs.View.{items_of}
use Rattle.sift_gen.proofs.Trees.{document_of}
use Rattle.sift_gen.specs.Scenario.{fault_table, sensor_table, sensor_tables, sensor_words, task_place, task_table, task_tables, tree_of, tree_with, words_each}

-- a list of values without floats
floatless_list : (g : ℕ → Data) (a n : ℕ) → ((i : ℕ) → HasNoFloat (g i)) → NoItemHasFloat (items_of (map g (range_with_len a n)))
floatless_list g a zero each = tt
floatless_list g a (suc n) each = (each a, floatless_list g (a + 1) n each)

floatless_words : (x : ℕ) → NoItemHasFloat (items_of (sensor_words x))
unfolding sensor_words
floatless_words x = floatless_list (λ i. number (draw_at x i word_count)) 0 words_each (λ i. tt)

floatless_sensor : (k x : ℕ) → HasNoFloat (sensor_table k x)
floatless_sensor k x = (tt, (floatless_words x, tt))

floatless_task : (t sensors x : ℕ) → HasNoFloat (task_table t sensors x)
floatless_task t sensors x = (tt, ((tt, tt), (tt, tt)))

floatless_fault : (units frames tasks x : ℕ) → HasNoFloat (fault_table units frames tasks x)
floatless_fault units frames tasks x = (tt, (((tt, (tt, (tt, (tt, (tt, tt))))), tt), (tt, tt)))

-- a document of tables without floats
floatless_document : (units frames : ℕ) (sensors tasks : List Data) (fault : Data) → NoItemHasFloat (items_of sensors) →
    NoItemHasFloat (items_of tasks) → HasNoFloat fault → NoMemberHasFloat (document_of units frames sensors tasks fault)
floatless_document units frames sensors tasks fault s t f = ((f, tt), (tt, (s, (t, (tt, tt)))))

-- the lists of a scenario's tables
floatless_sensors : (sensors x : ℕ) → NoItemHasFloat (items_of (sensor_tables sensors x))
floatless_sensors sensors x =
    floatless_list (λ k. sensor_table k (after x (words_each * k))) 0 sensors (λ k. floatless_sensor k (after x (words_each * k)))

floatless_tasks : (tasks sensors x : ℕ) → NoItemHasFloat (items_of (task_tables tasks sensors x))
floatless_tasks tasks sensors x =
    floatless_list (λ t. task_table t sensors (task_place t x)) 0 tasks (λ t. floatless_task t sensors (task_place t x))

-- a tree has no float in it, whatever its counts
floatless_counts : (units frames sensors tasks x : ℕ) → NoMemberHasFloat (tree_with units frames sensors tasks x)
floatless_counts units frames sensors tasks x =
    let y = after x (words_each * sensors) in
    let z = task_place tasks y in
    floatless_document units frames (sensor_tables sensors x) (task_tables tasks sensors y) (fault_table units frames tasks z)
    (floatless_sensors sensors x) (floatless_tasks tasks sensors y) (floatless_fault units frames tasks z)

-- so that of every number has none
pub floatless_tree : (n : ℕ) → NoMemberHasFloat (tree_of n)
floatless_tree n = floatless_counts (5 + draw_at n 0 4) (20 + draw_at n 1 181) (1 + draw_at n 2 8) (1 + draw_at n 3 12) (after n 4)
