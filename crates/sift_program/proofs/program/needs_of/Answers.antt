use Rattle.std.proofs.Common.{◌≡◌, ◌<◌, ◌+◌, ◌∙◌, map, length, sym, ap, append-nil, arith}
use Rattle.std.specs.List.{filter, range_with_len}
use Rattle.sift_lang.specs.Tree.{tree_of}
use Rattle.sift_program.specs.Program.{reads_task, task_at}
use Rattle.sift_program.proofs.ShapeLemmas.{filter_next, first_next, first_within, read_is}
use Rattle.sift_program.proofs.program.needs_of.Goals as goal
use Rattle.sift_program.proofs.program.needs_of.Goals.{then-reads_some+in_ok-push, else-reads_some}

-- the words of the earlier tasks are few
pub reads_some-requires : goal.reads_some-requires
reads_some-requires c =
    let low : c.loop-earlier.earlier < length c.args.tasks.now = omega (arith, c.loop-earlier-test.true, c.requires.place) in
    let within = first_within c.args.tasks.now c.loop-earlier.earlier c.index-tasks-earlier.result low c.index-tasks-earlier.is in
    let outputs = ap (λ task. task.outputs) c.index-tasks-earlier.is in
    omega (arith, within, outputs, c.loop-earlier.invariant.1, c.requires.words)

pub overflow_add-first : goal.overflow_add-first
overflow_add-first c =
    let low : c.loop-earlier.earlier < length c.args.tasks.now = omega (arith, c.loop-earlier-test.true, c.requires.place) in
    let within = first_within c.args.tasks.now c.loop-earlier.earlier c.index-tasks-earlier.result low c.index-tasks-earlier.is in
    let outputs = ap (λ task. task.outputs) c.index-tasks-earlier.is in
    omega (arith, within, outputs, c.loop-earlier.invariant.1, c.requires.words)

-- an earlier task more, of which a word is read or not
pub loop-earlier-preserved : goal.loop-earlier-preserved
loop-earlier-preserved c =
    let tasks = c.args.tasks.now in
    let e = c.loop-earlier.earlier in
    let low : e < length tasks = omega (arith, c.loop-earlier-test.true, c.requires.place) in
    let reads = reads_task (map tree_of tasks) (task_at (map tree_of tasks) c.args.place) in
    let outputs = ap (λ task. task.outputs) c.index-tasks-earlier.is in
    let read : c.reads_some.result ≡ reads e = rw (← outputs) at c.reads_some.ensures ∙ read_is tasks c.args.place e c.loop-earlier.first c.index-tasks-place.result c.index-tasks-earlier.result
    c.requires.place c.index-tasks-place.is low c.index-tasks-earlier.is c.loop-earlier.invariant.1 in
    let next = filter_next reads e c.reads_some.result read in (
      elim c.if-reads_some.branch [
        | then-reads_some+in_ok-push w ↦
            let more = rw w.if-reads_some.true at next in
            rw (w.needs-is, w.in_ok-push.ensures.items, c.loop-earlier.invariant.0) (sym more)
        | else-reads_some w ↦
            let more = rw w.if-reads_some.false at next in
            rw (w.needs-is, c.loop-earlier.invariant.0) (sym (more ∙ append-nil (filter reads (range_with_len 0 e))))
      ],
      rw (← outputs) (ap (λ n. n + c.index-tasks-earlier.result.outputs) c.loop-earlier.invariant.1
          ∙ sym (first_next tasks e c.index-tasks-earlier.result low c.index-tasks-earlier.is)),
    )
