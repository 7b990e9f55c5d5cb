-- The texts that are drawn are tasks, with the trees of their patterns.
use Rattle.std.proofs.Common.{ℕ, ◌<◌, ◌≤◌, List, length, sum, refl, sym, ◌∙◌, subst, arith}
use Rattle.std.proofs.lemmas.List.FromFn.{length-map-range_with_len}
use Rattle.sift_base.specs.Draw.{draw_at}
use Rattle.sift_gen.specs.Tasks.{sensor_name, text_by}
use Rattle.sift_gen.specs.declared.task.Pattern.{Pattern}
use Rattle.sift_gen.specs.declared.task.Pattern.TheVariants.{Sum, Middle, Chase, Triple}
use Rattle.sift_lang.specs.Sound.{AllNowsBelow, IsSound}
use Rattle.sift_lang.specs.Tree.{TaskTree}
use Rattle.sift_parse.specs.Outcome.{IsSoundAmong, IsTaskOf}
use Rattle.sift_parse.specs.Printable.{IsPrintable, PrintedTreeIsTask}
use Rattle.sift_trial.proofs.Values.{draw_below}
use Rattle.sift_trial.specs.Texts.{DrawnTasksAreBrief, DrawnTextsAreTasks, IsDrawable, drawn_roll, drawn_sizes, drawn_tree}
use Rattle.sift_trial.proofs.DrawnRoll.{drawn_named, drawn_names, drawn_naming, first_is, size_at, words_sum}
use Rattle.sift_trial.proofs.DrawnTrees.{IsPrintedAs, chase_good, middle_good, sum_good, triple_good}

-- a tree that is sound for the sensors and tasks of the roll is so among its names
sound_among : (sensors tasks t : ℕ) → t < tasks → (tree : TaskTree) → IsSound sensors tasks tree → AllNowsBelow t tree → IsSoundAmong (drawn_roll sensors tasks t) tree
sound_among sensors tasks t low tree sound nows =
    let many = length-map-range_with_len sensor_name 0 sensors in record {
      sound =
          subst (λ n. IsSound n (sum (drawn_sizes tasks)) tree) (sym many)
          (subst (λ n. IsSound sensors n tree) (sym (words_sum tasks)) sound);
      nows = subst (λ n. AllNowsBelow n tree) (sym (first_is sensors tasks t t (omega (arith, low)))) nows;
    }

-- the tree of each pattern prints its text, puts out one word, and reads by `now` only words of earlier tasks
pub drawn_good : (p : Pattern) (sensors tasks t x : ℕ) → IsDrawable p sensors tasks t
    → IsPrintedAs sensors tasks t (text_by p t sensors x) (drawn_tree p t sensors x)
drawn_good Sum sensors tasks t x may =
    sum_good sensors tasks t (draw_at x 0 sensors) may.few_sensors may.few_tasks may.among (draw_below x 0 sensors may.some_sensor)
drawn_good Middle sensors tasks t x may =
    middle_good sensors tasks t (draw_at x 0 sensors) may.few_sensors may.few_tasks may.among (draw_below x 0 sensors may.some_sensor)
    (draw_at x 1 sensors) (draw_below x 1 sensors may.some_sensor)
drawn_good Chase sensors tasks t x may =
    chase_good sensors tasks t (draw_at x 0 sensors) may.few_sensors may.few_tasks may.among (draw_below x 0 sensors may.some_sensor)
drawn_good Triple sensors tasks t x may =
    triple_good sensors tasks t (draw_at x 1 sensors) may.few_sensors may.few_tasks may.among (draw_below x 1 sensors may.some_sensor)
    (draw_at x 0 t) (draw_below x 0 t (may.earlier refl))

module _ (law : PrintedTreeIsTask) where
  -- a text that a good tree prints is a task with this tree
  printed_is_task : (p : Pattern) (sensors tasks t : ℕ) (text : List ℕ) (tree : TaskTree)
      → IsDrawable p sensors tasks t → IsPrintedAs sensors tasks t text tree → IsTaskOf (drawn_roll sensors tasks t) text tree
  printed_is_task p sensors tasks t text tree may good =
      let roll = drawn_roll sensors tasks t in
      let printable : IsPrintable roll drawn_naming tree = record {
        outputs = good.one_output ∙ sym (size_at tasks t 0 may.among);
        sound = sound_among sensors tasks t may.among tree good.sound good.nows;
        small = good.small;
        shallow = good.shallow;
        short = subst (λ (bytes : List ℕ). length bytes ≤ 4096) (sym good.printed) good.short;
      } in
      subst (λ (bytes : List ℕ). IsTaskOf roll bytes tree) good.printed
      (law roll drawn_naming tree (drawn_names sensors tasks t may.few_sensors may.few_tasks may.among)
      (drawn_named sensors tasks t may.few_sensors may.few_tasks may.among _ good.one_local) printable)

  -- each text that may be drawn is a task's, with the tree of its pattern
  pub drawn_texts_are_tasks : DrawnTextsAreTasks
  drawn_texts_are_tasks p sensors tasks t x may =
      printed_is_task p sensors tasks t (text_by p t sensors x) (drawn_tree p t sensors x) may (drawn_good p sensors tasks t x may)

-- the code of each pattern is short, and ends after few steps
pub drawn_tasks_are_brief : DrawnTasksAreBrief
drawn_tasks_are_brief Sum t sensors x = record { short = omega arith; quick = omega arith }
drawn_tasks_are_brief Middle t sensors x = record { short = omega arith; quick = omega arith }
drawn_tasks_are_brief Chase t sensors x = record { short = omega arith; quick = omega arith }
drawn_tasks_are_brief Triple t sensors x = record { short = omega arith; quick = omega arith }
