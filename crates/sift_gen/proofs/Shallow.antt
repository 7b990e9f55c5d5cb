-- The tree of a scenario isn't deep.
use Rattle.std.proofs.Common.{ℕ, zero, suc, ◌+◌, ◌*◌, ◌≤◌, List, map, arith}
use Rattle.std.specs.List.{range_with_len}
use Rattle.toml.specs.Data.{Data, depth, items_depth, members_depth}
use Rattle.sift_base.specs.Draw.{after, draw_at}
use Rattle.sift_base.specs.Word.{word_count}
use Rattle.sift_gen.specs.Scenario.{number}
use Rattle.toml.specs.View.{items_of}
use Rattle.sift_gen.proofs.Trees.{document_of}
use Rattle.sift_gen.specs.Scenario.{fault_table, sensor_table, sensor_tables, sensor_words, task_place, task_table, task_tables, tree_of, tree_with, words_each}

-- a list of shallow values
shallow_list : (k : ℕ) (g : ℕ → Data) (a n : ℕ) → ((i : ℕ) → depth (g i) ≤ k) → items_depth (items_of (map g (range_with_len a n))) ≤ k
shallow_list k g a zero each = omega arith
shallow_list k g a (suc n) each =
    let here = each a in
    let rest = shallow_list k g (a + 1) n each in
    omega arith

shallow_words : (x : ℕ) → items_depth (items_of (sensor_words x)) ≤ 0
unfolding sensor_words
shallow_words x = shallow_list 0 (λ i. number (draw_at x i word_count)) 0 16 (λ i. omega arith)

shallow_sensor : (k x : ℕ) → depth (sensor_table k x) ≤ 2
shallow_sensor k x = let words = shallow_words x in omega arith

shallow_task : (t sensors x : ℕ) → depth (task_table t sensors x) ≤ 2
shallow_task t sensors x = omega arith

shallow_fault : (units frames tasks x : ℕ) → depth (fault_table units frames tasks x) ≤ 3
shallow_fault units frames tasks x = omega arith

-- a document of shallow tables
shallow_document : (units frames : ℕ) (sensors tasks : List Data) (fault : Data) → items_depth (items_of sensors) ≤ 2 →
    items_depth (items_of tasks) ≤ 2 → depth fault ≤ 3 → members_depth (document_of units frames sensors tasks fault) ≤ 80
shallow_document units frames sensors tasks fault s t f = omega arith

-- the lists of a scenario's tables
shallow_sensors : (sensors x : ℕ) → items_depth (items_of (sensor_tables sensors x)) ≤ 2
shallow_sensors sensors x =
    shallow_list 2 (λ k. sensor_table k (after x (words_each * k))) 0 sensors (λ k. shallow_sensor k (after x (words_each * k)))

shallow_tasks : (tasks sensors x : ℕ) → items_depth (items_of (task_tables tasks sensors x)) ≤ 2
shallow_tasks tasks sensors x =
    shallow_list 2 (λ t. task_table t sensors (task_place t x)) 0 tasks (λ t. shallow_task t sensors (task_place t x))

-- arrays and tables of a tree nest 80 deep at most, whatever its counts
shallow_counts : (units frames sensors tasks x : ℕ) → members_depth (tree_with units frames sensors tasks x) ≤ 80
shallow_counts units frames sensors tasks x =
    let y = after x (words_each * sensors) in
    let z = task_place tasks y in
    shallow_document units frames (sensor_tables sensors x) (task_tables tasks sensors y) (fault_table units frames tasks z)
    (shallow_sensors sensors x) (shallow_tasks tasks sensors y) (shallow_fault units frames tasks z)

-- so do those of the tree of every number
pub shallow_tree : (n : ℕ) → members_depth (tree_of n) ≤ 80
shallow_tree n = shallow_counts (5 + draw_at n 0 4) (20 + draw_at n 1 181) (1 + draw_at n 2 8) (1 + draw_at n 3 12) (after n 4)
