-- The trees of drawn tasks: they are sound and small, and print the texts that are drawn.
use Rattle.std.proofs.Common.{◌≡◌, ℕ, ◌*◌, ◌≤◌, ◌<◌, ◌^◌, List, [], ◌∷◌, length, codes, refl, arith, length-append}
use Rattle.std.specs.Fmt.{decimal}
use Rattle.std.specs.List.{concat}
use Rattle.std.proofs.lemmas.Fmt.{decimal_digit}
use Rattle.sift_gen.specs.Tasks.{sensor_name, task_name}
use Rattle.sift_lang.specs.declared.tree.Op.TheVariants.{Add, Sub}
use Rattle.sift_lang.specs.Sound.{AllNowsBelow, EachTerm, IsSound, IsSoundTerm}
use Rattle.sift_lang.specs.Tree.{binary, last_frame, number, TaskTree}
use Rattle.sift_parse.specs.Lexeme.{level_limit, text_limit}
use Rattle.sift_parse.specs.Printable.{depth_in, HasSmallNumbers, most_locals_in}
use Rattle.sift_parse.specs.Printing.{printed_text}
use Rattle.sift_trial.specs.Texts.{chase_tree, middle_tree, sum_tree, triple_tree}
use Rattle.sift_trial.proofs.DrawnRoll.{drawn_naming}
use Rattle.sift_trial.proofs.NumberedNames.{sensor_named, task_named}

-- ---- texts

-- the digits that stand in the texts
zero_printed : decimal 0 ≡ codes "0"
zero_printed = decimal_digit 0 (omega arith)

one_printed : decimal 1 ≡ codes "1"
one_printed = decimal_digit 1 (omega arith)

three_printed : decimal 3 ≡ codes "3"
three_printed = decimal_digit 3 (omega arith)

-- a sensor's words are summed up
abbrev pub sum_text : (t a : ℕ) → List ℕ
sum_text t a = concat (codes "out 0 = sense " ∷ sensor_name a ∷ codes " + last " ∷ task_name t ∷ codes ".0;" ∷ [])

-- the middle one of two sensors and the word before
abbrev pub middle_text : (t a b : ℕ) → List ℕ
middle_text t a b = concat (codes "out 0 = mid(sense " ∷ sensor_name a ∷ codes ", sense " ∷ sensor_name b
    ∷ codes ", last " ∷ task_name t ∷ codes ".0);" ∷ [])

-- one step a frame after a sensor
abbrev pub chase_text : (t a : ℕ) → List ℕ
chase_text t a = concat (codes "let d = sense " ∷ sensor_name a ∷ codes " - last " ∷ task_name t
    ∷ codes ".0; if d < 0 { out 0 = last " ∷ task_name t ∷ codes ".0 - 1; } else { out 0 = last " ∷ task_name t ∷ codes ".0 + 1; }" ∷ [])

-- three times an earlier task's word, and a sensor
abbrev pub triple_text : (d a : ℕ) → List ℕ
triple_text d a = concat (codes "out 0 = now " ∷ task_name d ∷ codes ".0 * 3 + sense " ∷ sensor_name a ∷ codes ";" ∷ [])

-- each tree prints its text
pub sum_printed : (t a : ℕ) → printed_text drawn_naming (sum_tree t a).body ≡ sum_text t a
sum_printed t a = rw zero_printed refl

pub middle_printed : (t a b : ℕ) → printed_text drawn_naming (middle_tree t a b).body ≡ middle_text t a b
middle_printed t a b = rw zero_printed refl

pub chase_printed : (t a : ℕ) → printed_text drawn_naming (chase_tree t a).body ≡ chase_text t a
chase_printed t a = rw (zero_printed, one_printed) refl

pub triple_printed : (d a : ℕ) → printed_text drawn_naming (triple_tree d a).body ≡ triple_text d a
triple_printed d a = rw (zero_printed, three_printed) refl

-- ---- lengths

-- each of the pieces is short
abbrev AreShort : List (List ℕ) → Type 0
AreShort [] = Unit {0}
AreShort (piece ∷ pieces) = (length piece ≤ 128) × AreShort pieces

-- so a text of few of them is
joined_short : (pieces : List (List ℕ)) → AreShort pieces → length (concat pieces) ≤ 128 * length pieces
joined_short [] short = omega arith
joined_short (piece ∷ pieces) short =
    let rest = joined_short pieces short.1 in omega (arith, length-append piece (concat pieces), short.0, rest)

-- names are short
sensor_short : (a : ℕ) → a < 2 ^ 16 → length (sensor_name a) ≤ 128
sensor_short a small = let name = (sensor_named a small).short in omega (arith, name)

task_short : (t : ℕ) → t < 2 ^ 16 → length (task_name t) ≤ 128
task_short t small = let name = (task_named t small).short in omega (arith, name)

-- ---- what the law of printing asks for

-- the tree prints the text, names what is there, reads by `now` only words of earlier tasks, and is small
pub record IsPrintedAs (sensors tasks t : ℕ) (text : List ℕ) (tree : TaskTree) : Type 0 where
  pub printed : printed_text drawn_naming tree.body ≡ text
  pub short : length text ≤ text_limit
  pub one_output : tree.outputs ≡ 1
  pub sound : IsSound sensors tasks tree
  pub nows : AllNowsBelow t tree
  pub small : EachTerm HasSmallNumbers tree.body
  pub shallow : depth_in tree.body ≤ level_limit
  pub one_local : most_locals_in 0 tree.body ≤ 1

module _ (sensors tasks t a : ℕ) (few_sensors : sensors ≤ 8) (few_tasks : tasks ≤ 24) (low : t < tasks) (sensor : a < sensors) where
  -- the names of the sensor and of the task itself are short
  this_sensor : length (sensor_name a) ≤ 128
  this_sensor = sensor_short a (omega (arith, sensor, few_sensors))

  this_task : length (task_name t) ≤ 128
  this_task = task_short t (omega (arith, low, few_tasks))

  -- the tree that sums up a sensor's words prints its text, and is sound and small
  pub sum_good : IsPrintedAs sensors tasks t (sum_text t a) (sum_tree t a)
  sum_good = record {
    printed = sum_printed t a;
    short =
        let pieces = codes "out 0 = sense " ∷ sensor_name a ∷ codes " + last " ∷ task_name t ∷ codes ".0;" ∷ [] in
        let short = joined_short pieces (omega arith, (this_sensor, (omega arith, (this_task, (omega arith, tt))))) in omega (arith, short);
    one_output = refl;
    sound = record {
      some_output = omega arith;
      few_outputs = omega arith;
      few_repeats = omega arith;
      sound_body = ((record { names = (sensor, low); needs = omega arith }, omega arith), tt);
    };
    nows = ((tt, tt), tt);
    small = ((tt, tt), tt);
    shallow = omega arith;
    one_local = omega arith;
  }

  -- the tree of the middle one of two sensors and the word before prints its text, and is sound and small
  pub middle_good : (b : ℕ) → b < sensors → IsPrintedAs sensors tasks t (middle_text t a b) (middle_tree t a b)
  middle_good b other = record {
    printed = middle_printed t a b;
    short =
        let pieces = codes "out 0 = mid(sense " ∷ sensor_name a ∷ codes ", sense " ∷ sensor_name b ∷ codes ", last " ∷ task_name t ∷ codes ".0);" ∷ [] in
        let other_sensor = sensor_short b (omega (arith, other, few_sensors)) in
        let short = joined_short pieces (omega arith, (this_sensor, (omega arith, (other_sensor, (omega arith, (this_task, (omega arith, tt))))))) in
        omega (arith, short);
    one_output = refl;
    sound = record {
      some_output = omega arith;
      few_outputs = omega arith;
      few_repeats = omega arith;
      sound_body = ((record { names = (sensor, other, low); needs = omega arith }, omega arith), tt);
    };
    nows = ((tt, tt, tt), tt);
    small = ((tt, tt, tt), tt);
    shallow = omega arith;
    one_local = omega arith;
  }

  -- one step from the last word on is sound where the local lives
  chase_step : IsSoundTerm (record { sensors = sensors; words = tasks; outputs = 1 }) 1 (binary Add (last_frame t) (number 1))
  chase_step = record { names = (low, tt); needs = omega arith }

  chase_back : IsSoundTerm (record { sensors = sensors; words = tasks; outputs = 1 }) 1 (binary Sub (last_frame t) (number 1))
  chase_back = record { names = (low, tt); needs = omega arith }

  -- the tree that goes after a sensor step by step prints its text, and is sound and small
  pub chase_good : IsPrintedAs sensors tasks t (chase_text t a) (chase_tree t a)
  chase_good = record {
    printed = chase_printed t a;
    short =
        let pieces = codes "let d = sense " ∷ sensor_name a ∷ codes " - last " ∷ task_name t ∷ codes ".0; if d < 0 { out 0 = last " ∷ task_name t
        ∷ codes ".0 - 1; } else { out 0 = last " ∷ task_name t ∷ codes ".0 + 1; }" ∷ [] in
        let short = joined_short pieces
        (omega arith, (this_sensor, (omega arith, (this_task, (omega arith, (this_task, (omega arith, (this_task, (omega arith, tt))))))))) in
        omega (arith, short);
    one_output = refl;
    sound = record {
      some_output = omega arith;
      few_outputs = omega arith;
      few_repeats = omega arith;
      sound_body = (
        (record { names = (sensor, low); needs = omega arith }, omega arith),
        ((record { names = (omega arith, tt); needs = omega arith }, ((chase_back, omega arith), tt), ((chase_step, omega arith), tt)), tt),
      );
    };
    nows = ((tt, tt), (((tt, tt), ((tt, tt), tt), ((tt, tt), tt)), tt));
    small = ((tt, tt), (((tt, omega arith), ((tt, omega arith), tt), ((tt, omega arith), tt)), tt));
    shallow = omega arith;
    one_local = omega arith;
  }

  -- the tree of three times an earlier task's word and a sensor prints its text, and is sound and small
  pub triple_good : (d : ℕ) → d < t → IsPrintedAs sensors tasks t (triple_text d a) (triple_tree d a)
  triple_good d before = record {
    printed = triple_printed d a;
    short =
        let pieces = codes "out 0 = now " ∷ task_name d ∷ codes ".0 * 3 + sense " ∷ sensor_name a ∷ codes ";" ∷ [] in
        let earlier = task_short d (omega (arith, before, low, few_tasks)) in
        let short = joined_short pieces (omega arith, (earlier, (omega arith, (this_sensor, (omega arith, tt))))) in omega (arith, short);
    one_output = refl;
    sound = record {
      some_output = omega arith;
      few_outputs = omega arith;
      few_repeats = omega arith;
      sound_body = ((record { names = ((omega (arith, before, low), tt), sensor); needs = omega arith }, omega arith), tt);
    };
    nows = (((before, tt), tt), tt);
    small = (((tt, omega arith), tt), tt);
    shallow = omega arith;
    one_local = omega arith;
  }
