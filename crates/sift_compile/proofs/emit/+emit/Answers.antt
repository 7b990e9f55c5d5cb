use Rattle.std.proofs.Common.{◌≡◌, ◌+◌, ◌++◌, length, drop, rules, arith, sym, ap, ◌∙◌}
use Rattle.std.proofs.lemmas.Grind.{common_steps}
use Rattle.sift_lang.specs.declared.tree.Stmt.{the_lemmas}
use Rattle.sift_lang.specs.Tree.{term_of, statement_of, block_of, choose, choose_else, repeat}
use Rattle.sift_code.specs.declared.instr.Instr.TheVariants.{Jump}
use Rattle.sift_code.specs.Bound.{kept}
use Rattle.sift_lang.specs.laws.Rounds.{block_of-drop}
use Rattle.sift_compile.specs.Code.{term_code, behind, statement_code}
use Rattle.sift_compile.specs.Length.{block_length}
use Rattle.sift_compile.specs.declared.compiler.TheConstants.{CODE_LIMIT}
use Rattle.sift_compile.proofs.Emitted.{kept_same, test_long, instr_long, block_long, choose_emitted, choose_else_emitted, repeat_emitted, rest_room, rest_sound}
use Rattle.sift_compile.proofs.emit.+emit.Goals as goal

pub emit_block-emit_statement-requires : goal.emit_block-emit_statement-requires
emit_block-emit_statement-requires t c =
    let i = c.loop-statement.statement-index in
    let block = c.args.block.now in
    let statement = statement_of c.statement-item.result in
    let rest = block_of (drop (i + 1) block) in
    let front = block_of-drop block i c.statement-item.result c.loop-statement-test.true c.statement-item.is in
    let code = c.loop-statement.code.items in
    let old = c.args.code.now.items in
    let live = c.loop-statement.live in (
      search (rules, the_lemmas),
      (
        rest_room old code (length old) (length code) c.args.locals live (block_of block) rest statement CODE_LIMIT (rw front at c.loop-statement.invariant.emitted) c.requires.room,
        rest_sound live statement rest (rw front at c.loop-statement.invariant.sound),
      ),
    )

pub emit_statement-emit_block-requires : goal.emit_statement-emit_block-requires
emit_statement-emit_block-requires t c =
    let d = c.in-If in
    let view : statement_of c.args.statement.now ≡ choose (term_of d.test) (block_of d.first.items) = search (rules, the_lemmas) in
    let sound = rw view at c.requires.sound in
    let room = rw view at c.requires.room in
    let l1 = test_long c.args.code.now.items c.emit_test.new.code.items (term_of d.test)
    (behind (length c.args.code.now.items) (term_code (term_of d.test)) + c.block_length.result) c.in_ok-emit_test-in-None.ensures in (
      search (rules, the_lemmas),
      rw c.deref-in-None.ensures.value (omega (arith, room, l1), (sound.0, sound.1.1)),
    )

pub emit_statement-returns-in_ok-emit_block-in-None-clause-emitted :
    goal.emit_statement-returns-in_ok-emit_block-in-None-clause-emitted
emit_statement-returns-in_ok-emit_block-in-None-clause-emitted t c =
    let d = c.in-If in
    let old = c.args.code.now.items in
    let view : statement_of c.args.statement.now ≡ choose (term_of d.test) (block_of d.first.items) = search (rules, the_lemmas) in
    let room = rw view at c.requires.room in
    let is : c.block_length.result ≡ kept (block_length (block_of d.first.items)) = rw c.deref.ensures.value at c.block_length.ensures in
    let passed = is ∙ kept_same (block_length (block_of d.first.items)) (omega (arith, room)) in
    let emitted = rw c.deref-in-None.ensures.value at c.in_ok-emit_block-in-None.ensures in
    choose_emitted old c.emit_test.new.code.items c.emit_block.new.code.items (term_of d.test)
    (block_of d.first.items) c.args.locals c.block_length.result c.in_ok-emit_test-in-None.ensures passed emitted
    ∙ ap (λ s. old ++ statement_code (length old) c.args.locals s) (sym view)

pub emit_statement-returns-in_ok-put-in-Repeat-2-clause-emitted :
    goal.emit_statement-returns-in_ok-put-in-Repeat-2-clause-emitted
emit_statement-returns-in_ok-put-in-Repeat-2-clause-emitted t c =
    let d = c.in-Repeat in
    let old = c.args.code.now.items in
    let view : statement_of c.args.statement.now ≡ repeat d.rounds (block_of d.body.items) = search (rules, the_lemmas) in
    let emitted = rw c.deref-in-Repeat.ensures.value at c.in_ok-emit_block-in-Repeat.ensures in
    repeat_emitted old c.put.new.code.items c.emit_block-in-Repeat.new.code.items c.put-in-Repeat.new.code.items d.rounds
    (block_of d.body.items) c.args.locals c.in_ok-put-in-Repeat.ensures emitted c.in_ok-put-in-Repeat-2.ensures
    ∙ ap (λ s. old ++ statement_code (length old) c.args.locals s) (sym view)

pub emit_statement-emit_block-requires-in-Some :
    goal.emit_statement-emit_block-requires-in-Some
emit_statement-emit_block-requires-in-Some t c =
    let d = c.in-If in
    let old = c.args.code.now.items in
    let view : statement_of c.args.statement.now ≡ choose_else (term_of d.test) (block_of d.first.items) (block_of c.in-Some.second.items) = search (rules, the_lemmas) in
    let sound = rw view at c.requires.sound in
    let room = rw view at c.requires.room in
    let l1 = test_long old c.emit_test-in-Some.new.code.items (term_of d.test)
    (behind (length old) (term_code (term_of d.test)) + (c.block_length-in-Some.result + 1)) c.in_ok-emit_test-in-Some.ensures in (
      search (rules, the_lemmas),
      rw c.deref-in-Some-2.ensures.value (omega (arith, room, l1), (sound.0, sound.1.1)),
    )

pub emit_statement-emit_skip-requires : goal.emit_statement-emit_skip-requires
emit_statement-emit_skip-requires t c =
    let d = c.in-If in
    let old = c.args.code.now.items in
    let view : statement_of c.args.statement.now ≡ choose_else (term_of d.test) (block_of d.first.items) (block_of c.in-Some.second.items) = search (rules, the_lemmas) in
    let room = rw view at c.requires.room in
    let c1 = c.emit_test-in-Some.new.code.items in
    let l1 = test_long old c1 (term_of d.test) (behind (length old) (term_code (term_of d.test)) + (c.block_length-in-Some.result + 1)) c.in_ok-emit_test-in-Some.ensures in
    let l2 = block_long c1 c.emit_block-in-Some.new.code.items (length c1) c.args.locals (block_of d.first.items) (rw c.deref-in-Some-2.ensures.value at c.in_ok-emit_block-in-Some.ensures) in
    let is : c.block_length-in-Some-2.result ≡ kept (block_length (block_of c.in-Some.second.items)) = rw c.deref-in-Some-3.ensures.value at c.block_length-in-Some-2.ensures in
    omega (arith, room, l1, l2, is ∙ kept_same (block_length (block_of c.in-Some.second.items)) (omega (arith, room)))

pub emit_statement-emit_block-requires-in-Some-2 :
    goal.emit_statement-emit_block-requires-in-Some-2
emit_statement-emit_block-requires-in-Some-2 t c =
    let d = c.in-If in
    let old = c.args.code.now.items in
    let view : statement_of c.args.statement.now ≡ choose_else (term_of d.test) (block_of d.first.items) (block_of c.in-Some.second.items) = search (rules, the_lemmas) in
    let sound = rw view at c.requires.sound in
    let room = rw view at c.requires.room in
    let c1 = c.emit_test-in-Some.new.code.items in
    let c2 = c.emit_block-in-Some.new.code.items in
    let l1 = test_long old c1 (term_of d.test) (behind (length old) (term_code (term_of d.test)) + (c.block_length-in-Some.result + 1)) c.in_ok-emit_test-in-Some.ensures in
    let l2 = block_long c1 c2 (length c1) c.args.locals (block_of d.first.items) (rw c.deref-in-Some-2.ensures.value at c.in_ok-emit_block-in-Some.ensures) in
    let l3 = instr_long c2 c.emit_skip.new.code.items (Jump (length c2 + 1 + c.block_length-in-Some-2.result)) c.in_ok-emit_skip-in-Some.ensures in (
      search (rules, the_lemmas),
      rw c.deref-in-Some-4.ensures.value (omega (arith, room, l1, l2, l3), (sound.0, sound.1.2)),
    )

pub emit_statement-returns-in_ok-emit_block-in-Some-2-clause-emitted :
    goal.emit_statement-returns-in_ok-emit_block-in-Some-2-clause-emitted
emit_statement-returns-in_ok-emit_block-in-Some-2-clause-emitted t c =
    let d = c.in-If in
    let old = c.args.code.now.items in
    let first = block_of d.first.items in
    let second = block_of c.in-Some.second.items in
    let view : statement_of c.args.statement.now ≡ choose_else (term_of d.test) first second = search (rules, the_lemmas) in
    let room = rw view at c.requires.room in
    let is : c.block_length-in-Some.result ≡ kept (block_length first) = rw c.deref-in-Some.ensures.value at c.block_length-in-Some.ensures in
    let passed = ap (λ n. n + 1) (is ∙ kept_same (block_length first) (omega (arith, room))) in
    let are : c.block_length-in-Some-2.result ≡ kept (block_length second) = rw c.deref-in-Some-3.ensures.value at c.block_length-in-Some-2.ensures in
    let past = are ∙ kept_same (block_length second) (omega (arith, room)) in
    let one = rw c.deref-in-Some-2.ensures.value at c.in_ok-emit_block-in-Some.ensures in
    let two = rw c.deref-in-Some-4.ensures.value at c.in_ok-emit_block-in-Some-2.ensures in
    choose_else_emitted old c.emit_test-in-Some.new.code.items c.emit_block-in-Some.new.code.items c.emit_skip.new.code.items
    c.emit_block-in-Some-2.new.code.items (term_of d.test) first second c.args.locals
    (c.block_length-in-Some.result + 1) c.block_length-in-Some-2.result c.in_ok-emit_test-in-Some.ensures passed one
    c.in_ok-emit_skip-in-Some.ensures past two
    ∙ ap (λ s. old ++ statement_code (length old) c.args.locals s) (sym view)

pub emit_block-loop-statement-preserved : goal.emit_block-loop-statement-preserved
emit_block-loop-statement-preserved c = grind (arith, common_steps)
