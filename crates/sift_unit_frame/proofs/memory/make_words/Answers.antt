use Rattle.std.proofs.Common.{◌≡◌, ◌+◌, ◌++◌, ◌∙◌, length, take, drop, Some, ℕ, ◌<◌, arith}
use Rattle.std.specs.Prelude.{slice_get}
use Rattle.std.proofs.lemmas.Option.{slice_get-get_or}
use Rattle.sift_lang.specs.Tree.{end}
use Rattle.sift_program.specs.Program.{ProgramTree, task_at}
use Rattle.sift_mission.specs.Parts.{data_of, flown_of}
use Rattle.sift_unit_frame.specs.FrameWords.{FrameWords}
use Rattle.sift_unit_frame.proofs.Making.{run_makes, task_room}
use Rattle.sift_unit_frame.proofs.memory.make_words.Goals as goal

-- a task of a number stands among the program's
there : (program : ProgramTree) (t : ℕ) → t < length program.tasks → slice_get program.tasks t ≡ Some (task_at program.tasks t)
there program t low = slice_get-get_or program.tasks t (record { outputs = 0; body = end }) low

-- there is room for its words
pub keep_made-requires : goal.keep_made-requires
keep_made-requires c =
    let m = flown_of c.args.mission.now in
    let program = (data_of c.args.mission.now).program in
    let room = task_room m program c.a_mission_flies.ensures.program c.args.task (task_at program.tasks c.args.task) (there program c.args.task c.requires.task) in
    rw (c.run-made.ensures.same, c.deref.ensures.0, c.run-made.ensures.count, c.first_word.ensures, c.code.ensures.limits_are)
    (omega (arith, room, c.requires.all.made))

-- the words stand in their places
pub returns : goal.returns
returns c =
    let m = flown_of c.args.mission.now in
    let program = (data_of c.args.mission.now).program in
    let old = c.args.words.now in
    let ws : c.deref.result.now ≡ c.run-made.result.items = c.deref.ensures.0 in
    let made = run_makes m program c.a_mission_flies.ensures.program c.args.task (task_at program.tasks c.args.task)
    (there program c.args.task c.requires.task)
    c.code.result.now c.code.ensures old.agreed old.voted old.before c.requires.all.agreed c.requires.all.voted c.requires.all.before
    c.run-made.result.items old.made c.run-made.ensures.ran c.run-made.ensures.count c.requires.all.made in
    let put : c.keep_made.new.self ≡ record old { made = take (c.first_word.result) old.made ++ (c.run-made.result.items ++ drop (c.first_word.result + length c.run-made.result.items) old.made) }
    = c.keep_made.ensures ∙ (λ i. let w : FrameWords = c.run-made.ensures.same i in
    record w { made = take c.first_word.result w.made ++ (ws i ++ drop (c.first_word.result + length (ws i)) w.made) }) in
    put ∙ (λ i. record old {
      made = (
          (λ j. take (c.first_word.ensures j) old.made ++ (c.run-made.result.items ++ drop (c.first_word.ensures j + length c.run-made.result.items) old.made)) ∙ made) i;
    })
