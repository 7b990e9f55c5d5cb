use Rattle.std.proofs.Common.{◌≡◌, ◌<◌, length, slice_index, ap, sym, ◌∙◌, arith}
use Rattle.std.proofs.lemmas.List.{get_or-map, length-map}
use Rattle.sift_lang.specs.Tree.{block_of}
use Rattle.sift_parse.specs.Refusal.{IsParsed}
use Rattle.sift_parse.specs.Roll.{roll_of}
use Rattle.sift_parse.proofs.lemmas.Sound.{has_size, has_words, task_is_sound}
use Rattle.sift_parse.proofs.task.parse_task.Goals as goal

-- the body is that of the text, with as many output words as the task has
pub returns-clause-answer : goal.returns-clause-answer
returns-clause-answer c =
    let names = c.args.names.now in
    let this : names.this < length names.tasks.items =
    (let n = length-map names.tasks.items (λ t. t.0.bytes) in let m = c.requires.one_of_them in omega arith) in
    let size : c.index.result.now.1 ≡ slice_index (roll_of names).sizes names.this =
    ap (λ t. t.1) c.index.ensures ∙ sym (get_or-map (λ t. t.1) names.tasks.items names.this c.index.result.now 0 this) in
    let parsed : IsParsed (roll_of names) c.as_bytes.result.now (block_of c.in_ok-body_of.field-0.items) = c.in_ok-body_of.ensures in
    record { short = omega (arith, c.if-text-gt-TEXT_LIMIT.false); parsed = rw c.as_bytes.ensures.value at parsed; outputs = size }

-- that task is sound
pub returns-clause-sound : goal.returns-clause-sound
returns-clause-sound c =
    task_is_sound (roll_of c.args.names.now) c.args.text.now _ (has_size _ c.requires (has_words c.args.names.now c.requires))
    (returns-clause-answer c)
