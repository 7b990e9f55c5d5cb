use Rattle.std.proofs.Common.{◌≡◌, ℕ, ◌+◌, ◌-◌, ◌≤◌, [], length, take, drop, arith, sym, ap, ◌∙◌}
use Rattle.std.proofs.Math.ListN.{drop_of_length-le}
use Rattle.std.specs.Fn.{iterate}
use Rattle.std.proofs.lemmas.Grind.{common_steps}
use Rattle.sift_lang.specs.declared.tree.Stmt.{the_lemmas}
use Rattle.sift_lang.specs.Tree.{statement_of, block_of}
use Rattle.sift_lang.specs.Meaning.{State, after_all, scoped}
use Rattle.sift_lang.specs.Held.{readings_of, state_of}
use Rattle.sift_lang.specs.laws.States.{adds-more}
use Rattle.sift_lang.specs.laws.Rounds.{iterate-less, block_of-drop, refill-set, IsSoundBlock-rest}
use Rattle.sift_lang.proofs.evaluator.State.+run.Goals as goal

pub run-loop-round-preserved : goal.run-loop-round-preserved
run-loop-round-preserved t c =
    let round = scoped (after_all (block_of c.in-Repeat.body.items) (readings_of c.args.readings.now)) in
    let ran : state_of c.run_block-in-loop-round.new.self ≡ round (state_of c.loop-round.self) = rw c.deref-in-loop-round.ensures.value at c.run_block-in-loop-round.ensures.means in
    record {
      left = iterate-less _ c.loop-round._round round _ _ c.loop-round-test.true ran ∙ c.loop-round.invariant.left;
      sizes = record {
        locals_are = c.run_block-in-loop-round.ensures.locals ∙ c.loop-round.invariant.sizes.locals_are;
        outs_are = c.run_block-in-loop-round.ensures.outs ∙ c.loop-round.invariant.sizes.outs_are;
      };
    }

-- where no round is left, so many rounds lead here as there are in all
rounds_done : (n i k : ℕ) (round : State → State) (s t : State) → n ≤ i → n ≡ k → iterate round (n - i) s ≡ iterate round n t
    → s ≡ iterate round k t
rounds_done n i k round s t none all left =
    let over : n - i ≡ 0 = omega arith in
    sym (ap (λ m. iterate round m s) over) ∙ (left ∙ ap (λ m. iterate round m t) all)

pub run-returns-after-loop-round : goal.run-returns-after-loop-round
run-returns-after-loop-round t c =
    let done = rounds_done _ c.loop-round._round c.in-Repeat.rounds _ _ _ c.loop-round-test.false (omega arith) c.loop-round.invariant.left in
    rw c.in-Repeat.is (search (done, the_lemmas))

pub run-returns-in-Set : goal.run-returns-in-Set
run-returns-in-Set t c = grind (arith, common_steps, the_lemmas, refill-set)

pub run-returns-in-Output : goal.run-returns-in-Output
run-returns-in-Output t c = grind (arith, common_steps, the_lemmas, refill-set)

pub run_block-loop-statement-preserved : goal.run_block-loop-statement-preserved
run_block-loop-statement-preserved t c =
    let i = c.loop-statement.statement-index in
    let readings = readings_of c.args.readings.now in
    let statement = c.statement-item.result in
    let rest = block_of (drop (i + 1) c.args.block.now) in
    let front = block_of-drop c.args.block.now i statement c.loop-statement-test.true c.statement-item.is in
    record {
      left = ap (after_all rest readings) c.run.ensures ∙ (rw front at c.loop-statement.invariant.left);
      sizes = adds-more (statement_of statement) readings _ _ _ c.loop-statement.invariant.sizes c.run.ensures;
      sound = IsSoundBlock-rest _ _ (statement_of statement) rest readings (state_of c.loop-statement.self) (state_of c.run.new.self) c.run.ensures (rw front at c.loop-statement.invariant.sound);
      nows = (rw front at c.loop-statement.invariant.nows).1;
    }

-- all statements ran, and the locals that they added are cut off
pub run_block-returns-clause-means : goal.run_block-returns-clause-means
run_block-returns-clause-means t c =
    let none : drop c.loop-statement.statement-index c.args.block.now ≡ [] = drop_of_length-le c.args.block.now (omega arith) in
    let cut = λ (s : State). (let kept : State = record { locals = take (length c.args.self.now.locals.items) s.locals; outs = s.outs } in kept) in
    rw (c.truncate.ensures.items, c.len-depth.ensures.value) (ap cut (rw none at c.loop-statement.invariant.left))

pub run_block-returns-clause-locals : goal.run_block-returns-clause-locals
run_block-returns-clause-locals t c = omega (arith, c.truncate.ensures.len, c.len-depth.ensures.value, c.loop-statement.invariant.sizes.adds)
