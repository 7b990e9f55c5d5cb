-- The roll of a drawn scenario: its names are as names may be, and each sensor and each word has its name.
use Rattle.std.proofs.Common.{◌≡◌, ℕ, zero, suc, ◌+◌, ◌≤◌, ◌<◌, ◌^◌, List, [], length, get_or, map, sum, slice_get, Some, refl, sym, ap, ◌∙◌, subst, arith, codes}
use Rattle.std.specs.List.{range_with_len}
use Rattle.std.proofs.lemmas.List.FromFn.{get_or-map-range_with_len, length-map-range_with_len, take-map-range_with_len, sum_by-map-range_with_len_more}
use Rattle.std.proofs.lemmas.Option.{slice_get-get_or, slice_get_within}
use Rattle.sift_gen.specs.Tasks.{sensor_name, task_name}
use Rattle.sift_parse.specs.Outcome.{AreDistinct, AreNames}
use Rattle.sift_parse.specs.Printable.{IsNamingOf}
use Rattle.sift_parse.specs.Printing.{Naming}
use Rattle.sift_parse.specs.Roll.{first_word}
use Rattle.sift_trial.specs.Texts.{drawn_roll, drawn_sizes}
use Rattle.sift_trial.proofs.NumberedNames.{AreNumbered, letter_named, sensor_named, sensors_numbered, task_named, tasks_numbered}

-- ---- lists of names

module _ (name : ℕ → List ℕ) (n : ℕ) where
  -- the first names
  abbrev names : List (List ℕ)
  names = map name (range_with_len 0 n)

  pub named_at : (i : ℕ) → i < n → slice_get names i ≡ Some (name i)
  named_at i low =
      let many = length-map-range_with_len name 0 n in
      slice_get-get_or names i [] (omega (arith, many, low)) ∙ ap (λ w. Some w) (get_or-map-range_with_len name 0 n i i [] low (omega arith))

  -- no two of them are one, where they tell their numbers
  pub names_distinct : n ≤ 2 ^ 16 → AreNumbered name → AreDistinct names
  names_distinct few numbered i j w first second =
      let many = length-map-range_with_len name 0 n in
      let low : i < n = omega (arith, many, slice_get_within names i w first) in
      let small : j < n = omega (arith, many, slice_get_within names j w second) in
      let same : Some (name i) ≡ Some (name j) = sym (named_at i low) ∙ first ∙ sym second ∙ named_at j small in
      numbered.tells i j (omega (arith, low, few)) (omega (arith, small, few)) (cc same)

-- ---- sizes

-- each size is one
pub size_at : (n i d : ℕ) → i < n → get_or (drawn_sizes n) i d ≡ 1
size_at n i d low = get_or-map-range_with_len (λ t. 1) 0 n i i d low (omega arith)

pub sizes_long : (n : ℕ) → length (drawn_sizes n) ≡ n
sizes_long n = length-map-range_with_len (λ t. 1) 0 n

-- so there are as many words as tasks
pub words_sum : (n : ℕ) → sum (drawn_sizes n) ≡ n
words_sum zero = refl
words_sum (suc n) =
    let rest = words_sum n in
    let more = sum_by-map-range_with_len_more (λ x. x) (λ t. 1) 0 n n (omega arith) in
    let here : sum (drawn_sizes (n + 1)) ≡ n + 1 = omega (arith, more, rest) in
    let same : n + 1 ≡ suc n = omega arith in
    subst (λ k. sum (drawn_sizes k) ≡ k) same here

-- ---- the roll

-- the names that texts are printed with: the one local is `d`, and word t is the first word of task t
abbrev pub drawn_naming : Naming
drawn_naming =
    record { sensor_name = sensor_name; local_name = λ l. codes "d"; task_name = task_name; task_of = λ w. w; index_of = λ w. 0 }

-- the words before a task's are those of the tasks before it
pub first_is : (sensors tasks t k : ℕ) → k ≤ tasks → first_word (drawn_roll sensors tasks t) k ≡ k
first_is sensors tasks t k within = ap sum (take-map-range_with_len (λ t. 1) 0 tasks k within) ∙ words_sum k

module _ (sensors tasks t : ℕ) (few_sensors : sensors ≤ 8) (few_tasks : tasks ≤ 24) (low : t < tasks) where
  -- with at most 8 sensors and 24 tasks the names of the roll are as names may be
  pub drawn_names : AreNames (drawn_roll sensors tasks t)
  drawn_names =
      let many_sensors = length-map-range_with_len sensor_name 0 sensors in
      let many_tasks = length-map-range_with_len task_name 0 tasks in
      let many_sizes = sizes_long tasks in
      let words = words_sum tasks in record {
        sensors_differ = names_distinct sensor_name sensors (omega (arith, few_sensors)) sensors_numbered;
        tasks_differ = names_distinct task_name tasks (omega (arith, few_tasks)) tasks_numbered;
        few_sensors = omega (arith, many_sensors, few_sensors);
        few_tasks = omega (arith, many_tasks, few_tasks);
        some_words = λ k d here. let one = size_at tasks k d (omega (arith, here, many_sizes)) in omega (arith, one);
        few_words = λ k d here. let one = size_at tasks k d (omega (arith, here, many_sizes)) in omega (arith, one);
        words = omega (arith, words, few_tasks);
        one_of_them = omega (arith, many_tasks, low);
      }

  -- what there is has its name, and so has the one local
  pub drawn_named : (locals : ℕ) → locals ≤ 1 → IsNamingOf (drawn_roll sensors tasks t) drawn_naming locals
  drawn_named locals one_local =
      let many_sensors = length-map-range_with_len sensor_name 0 sensors in
      let words = words_sum tasks in record {
        sensors = λ x here.
            let there : x < sensors = omega (arith, here, many_sensors) in
            record { is_name = sensor_named x (omega (arith, there, few_sensors)); named = named_at sensor_name sensors x there };
        words = λ w here.
            let there : w < tasks = omega (arith, here, words) in
            let one = size_at tasks w 0 there in
            let first = first_is sensors tasks t w (omega (arith, there)) in record {
              is_name = task_named w (omega (arith, there, few_tasks));
              named = named_at task_name tasks w there;
              within = omega (arith, one);
              same = omega (arith, first);
            };
        local_names = λ l here. letter_named 100 (omega arith, omega arith);
        distinct = λ l m before here. absurd (omega (arith, before, here, one_local));
      }
