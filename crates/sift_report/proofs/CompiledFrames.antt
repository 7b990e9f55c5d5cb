-- The words that stand first in a frame are those that its tasks have made.
use Rattle.std.proofs.Common.{◌≡◌, ℕ, ◌+◌, ◌<◌, ◌≤◌, List, [], ◌++◌, length, take, drop, slice_index, sym, ap, ◌∙◌, arith}
use Rattle.std.proofs.lemmas.List.{append_assoc, take_at, get_or-take, length-take-le, length-append, length-drop}
use Rattle.std.proofs.lemmas.List.Sums.{sum_by_more_le}
use Rattle.std.proofs.lemmas.Option.{slice_get-get_or}
use Rattle.sift_lang.specs.Tree.{TaskTree, end}
use Rattle.sift_lang.specs.Meaning.{meaning}
use Rattle.sift_lang.specs.laws.States.{length-meaning}
use Rattle.sift_program.specs.Ideal.{words_made}
use Rattle.sift_program.specs.Program.{task_at, ProgramTree, IsSoundProgram, first_word, output_count}
use Rattle.sift_program.proofs.lemmas.Earlier.{meaning-same}
use Rattle.sift_program.proofs.lemmas.Frames.{first_word-more, words_made-more}

-- words in the place of others leave the list as long as it was
pub put-long : (list words : List ℕ) (at : ℕ) → at + length words ≤ length list → length (take at list ++ (words ++ drop (at + length words) list)) ≡ length list
put-long list words at room =
    let rest = drop (at + length words) list in
    omega (arith, room, length-append (take at list) (words ++ rest), length-append words rest, length-take-le at list (omega (arith, room)), length-drop (at + length words) list)

module _ (program : ProgramTree) (prev agreed : List ℕ) where
  -- the words of the first tasks stand first
  abbrev pub BeginsWith : ℕ → List ℕ → Type 0
  BeginsWith t frame = take (first_word program.tasks t) frame ≡ words_made program.tasks prev agreed [] t

  module _ (sensors : ℕ) (sound : IsSoundProgram sensors program) (t : ℕ) (frame outs : List ℕ) (there : t < length program.tasks) (long : length frame ≡ output_count program.tasks)
      (are : outs ≡ meaning (task_at program.tasks t) agreed frame prev) where
    abbrev none : TaskTree
    none = record { outputs = 0; body = end }

    abbrev first : ℕ
    first = first_word program.tasks t

    abbrev task : TaskTree
    task = task_at program.tasks t

    -- a task has as many words as it says
    size : length outs ≡ task.outputs
    size = ap length are ∙ length-meaning task agreed frame prev

    -- there is room for them in their places
    pub put-room : first + length outs ≤ length frame
    put-room = omega (arith, sum_by_more_le (λ (u : TaskTree). u.outputs) program.tasks t none there, size, long)

    -- where they are put, they stand behind those of the tasks before
    pub put-begins : BeginsWith t frame → BeginsWith (t + 1) (take first frame ++ (outs ++ drop (first + length outs) frame))
    put-begins begins =
        let made = words_made program.tasks prev agreed [] t in
        let front = take first frame in
        let rest = drop (first + length outs) frame in
        let same : meaning task agreed made prev ≡ meaning task agreed frame prev = meaning-same first task agreed made frame prev
        (λ w below. ap (λ (ws : List ℕ). slice_index ws w) (sym begins) ∙ get_or-take first frame w 0 below)
        (sound.reads_earlier_words t task (slice_get-get_or program.tasks t none there)) in
        let count : length (front ++ outs) ≡ first_word program.tasks (t + 1) =
        omega (arith, length-append front outs, length-take-le first frame (omega (arith, put-room)), size, first_word-more program.tasks t) in
        ap (take (first_word program.tasks (t + 1))) (sym (append_assoc front outs rest))
        ∙ take_at (front ++ outs) rest (first_word program.tasks (t + 1)) count
        ∙ ap (λ ws. ws ++ outs) begins
        ∙ ap (λ ws. made ++ ws) (are ∙ sym same)
        ∙ sym (words_made-more program.tasks t prev agreed [])
