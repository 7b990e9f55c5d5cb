-- Programs of tasks whose trees are theirs.
use Rattle.std.proofs.Common.{◌≡◌, ◌<◌, ◌≤◌, ℕ, suc, List, [], ◌∷◌, length, get_or, map, take, Some, refl, sym, ap, ◌∙◌, arith}
use Rattle.std.proofs.lemmas.List.{get_or-map, length-map, take-map}
use Rattle.std.proofs.lemmas.List.Sums.{sum-map, sum_by_more_le}
use Rattle.std.proofs.lemmas.Option.{get_or_from_slice_get, slice_get-get_or, slice_get_within}
use Rattle.std.specs.List.{slice_get, sum}
use Rattle.toml.specs.Data.{Members}
use Rattle.sift_lang.specs.Tree.{TaskTree, end}
use Rattle.sift_lang.specs.Sound.{AllNowsBelow, IsSound}
use Rattle.sift_parse.proofs.lemmas.Sound.{task_is_sound}
use Rattle.sift_parse.specs.Answer.{HasSize}
use Rattle.sift_parse.specs.Outcome.{linear_tree}
use Rattle.sift_program.specs.Program.{ProgramTree, IsSoundProgram, first_word}
use Rattle.sift_scenario.specs.Program.{IsTreeOf, roll_for, turn_of}
use Rattle.sift_scenario.proofs.Named.{AreTreesOf}
use Rattle.sift_scenario.specs.Task.{AreForms, Form, linear, text, HasForm, counts_of, task_outputs}

-- lists of one length with the same entries are the same
same_lists : (xs ys : List ℕ) → length xs ≡ length ys → ((k : ℕ) → k < length xs → get_or xs k 0 ≡ get_or ys k 0) → xs ≡ ys
same_lists [] [] long each = refl
same_lists [] (y ∷ ys) long each = absurd (omega (arith, long))
same_lists (x ∷ xs) [] long each = absurd (omega (arith, long))
same_lists (x ∷ xs) (y ∷ ys) long each =
    let first : x ≡ y = each 0 (omega arith) in
    let rest = same_lists xs ys (omega (arith, long)) (λ k low. each (suc k) (omega (arith, low))) in
    rw (first, rest) refl

-- ---- trees of linear tasks

-- such a tree is sound where there is its word
pub sound_tree : (sensors word words factor addend : ℕ) → word < words → IsSound sensors words (linear_tree word factor addend)
sound_tree sensors word words factor addend low = record {
  some_output = omega arith;
  few_outputs = omega arith;
  few_repeats = omega arith;
  sound_body = ((record { names = ((tt, low), tt); needs = omega arith }, omega arith), tt);
}

-- it reads no word of this frame
reads_none : (word factor addend made : ℕ) → AllNowsBelow made (linear_tree word factor addend)
reads_none word factor addend made = (((tt, tt), tt), tt)

-- in its turn each task has as many words as a task may have
abbrev pub AreSized : List (List ℕ) → List Members → Type 0
AreSized sensors tasks = (t : ℕ) → t < length tasks → HasSize (turn_of t (roll_for sensors tasks))

-- ---- one task

module _ (sensors : List (List ℕ)) (tasks : List Members) (sizes : AreSized sensors tasks) (t : ℕ) (task : Members) (there : slice_get tasks t ≡ Some task) where
  -- its number of words
  count_here : get_or (counts_of tasks) t 0 ≡ task_outputs task
  count_here =
      let low = slice_get_within tasks t task there in
      get_or-map task_outputs tasks t task 0 low ∙ ap task_outputs (get_or_from_slice_get tasks t task task there)

  -- its tree has as many outputs
  outputs_here : (form : Form) (tree : TaskTree) → HasForm task form → IsTreeOf (turn_of t (roll_for sensors tasks)) form tree → tree.outputs ≡ get_or (counts_of tasks) t 0
  outputs_here (linear factor addend) tree form is = ap (λ (x : TaskTree). x.outputs) is ∙ sym (count_here ∙ form.1)
  outputs_here (text bytes) tree form is = is.outputs

  -- its tree is sound
  sound_here : (form : Form) (tree : TaskTree) → HasForm task form → IsTreeOf (turn_of t (roll_for sensors tasks)) form tree → IsSound (length sensors) (sum (counts_of tasks)) tree
  sound_here (linear factor addend) tree form is =
      let low = slice_get_within tasks t task there in
      let one : get_or (counts_of tasks) t 0 ≡ 1 = count_here ∙ form.1 in
      let room = sum_by_more_le (λ n. n) (counts_of tasks) t 0 (rw length-map low) in
      rw is (sound_tree _ _ _ factor addend (omega (arith, one, room)))
  sound_here (text bytes) tree form is = (task_is_sound _ bytes tree (sizes t (slice_get_within tasks t task there)) is).sound

  -- it reads only words of earlier tasks
  reads_here : (form : Form) (tree : TaskTree) → HasForm task form → IsTreeOf (turn_of t (roll_for sensors tasks)) form tree → AllNowsBelow (sum (take t (counts_of tasks))) tree
  reads_here (linear factor addend) tree form is = rw is (reads_none (sum (take t (counts_of tasks))) factor addend (sum (take t (counts_of tasks))))
  reads_here (text bytes) tree form is = (task_is_sound _ bytes tree (sizes t (slice_get_within tasks t task there)) is).nows

-- ---- the program

module _
    (sensors : List (List ℕ)) (tasks : List Members) (sizes : AreSized sensors tasks) (forms : List Form) (trees : List TaskTree)
    (stated : AreForms tasks forms) (parsed : AreTreesOf (roll_for sensors tasks) forms trees) where
  -- what stands at a place of the tasks, the forms and the trees
  outputs_at : (t : ℕ) (tree : TaskTree) → slice_get trees t ≡ Some tree → tree.outputs ≡ get_or (counts_of tasks) t 0
  outputs_at t tree there =
      let form = parsed.each t tree there in
      let task = stated.each t form.entry form.there in
      outputs_here sensors tasks sizes t task.entry task.there form.entry tree task.holds form.holds

  -- the trees have as many outputs as the tasks have words
  outputs_are : map (λ (tree : TaskTree). tree.outputs) trees ≡ counts_of tasks
  outputs_are =
      let none : TaskTree = record { outputs = 0; body = end } in
      let long_trees = length-map trees (λ (tree : TaskTree). tree.outputs) in
      let long_tasks = length-map tasks task_outputs in
      same_lists _ _ (omega (arith, long_trees, long_tasks, parsed.as_many, stated.as_many))
      (λ k low. let within : k < length trees = omega (arith, low, long_trees) in
      get_or-map (λ (tree : TaskTree). tree.outputs) trees k none 0 within ∙ outputs_at k (get_or trees k none) (slice_get-get_or trees k none within))

  first_is : (t : ℕ) → first_word trees t ≡ sum (take t (counts_of tasks))
  first_is t =
      sym (sum-map (λ (tree : TaskTree). tree.outputs) (take t trees))
      ∙ ap sum (sym (take-map (λ (tree : TaskTree). tree.outputs) t trees) ∙ ap (take t) outputs_are)

  -- the program is sound
  pub sound_program :
      (starts : List ℕ) → length starts ≡ sum (counts_of tasks) → sum (counts_of tasks) ≤ 64
      → 0 < length tasks → length tasks ≤ 24
      → IsSoundProgram (length sensors) (let p : ProgramTree = record { tasks = trees; starts = starts } in p)
  sound_program starts long words some few = record {
    some_task = omega (arith, parsed.as_many, stated.as_many, some);
    few_tasks = omega (arith, parsed.as_many, stated.as_many, few);
    a_start_each = long ∙ sym (sym (sum-map (λ (tree : TaskTree). tree.outputs) trees) ∙ ap sum outputs_are);
    few_words = omega (arith, long, words);
    tasks_sound = λ k d low.
        let form = parsed.each k (get_or trees k d) (slice_get-get_or trees k d low) in
        let task = stated.each k form.entry form.there in
        rw long (sound_here sensors tasks sizes k task.entry task.there form.entry (get_or trees k d) task.holds form.holds);
    reads_earlier_words = λ k tree there.
        let form = parsed.each k tree there in
        let task = stated.each k form.entry form.there in
        rw (first_is k) (reads_here sensors tasks sizes k task.entry task.there form.entry tree task.holds form.holds);
  }
