use Rattle.std.proofs.Common.{◌≡◌, ◌-◌, length, drop}
use Rattle.std.specs.Fn.{iterate}
use Rattle.arrayvec.specs.ArrayVec.{array_vec_len}
use Rattle.sift_lang.specs.Tree.{block_of}
use Rattle.sift_lang.specs.Meaning.{after_all, scoped}
use Rattle.sift_lang.specs.Sound.{IsSoundBlock, NowsBelow, EachTerm}
use Rattle.sift_lang.specs.Held.{readings_of, state_of, bounds_of}
use Rattle.sift_lang.specs.laws.States.{HasSizes, OnlyAddsLocals}
use Rattle.sift_lang.proofs.evaluator.State.+run.Given as goal

-- the rounds that are left lead where all of them lead from the start
abbrev pub invariant-run-loop-round : goal.invariant-run-loop-round
invariant-run-loop-round l =
    let round = scoped (after_all (block_of l.body.items) (readings_of l.readings)) in
    record {
      left : iterate round (l._round-end - l._round) (state_of l.self) ≡ iterate round l._round-end (state_of l.initial.self);
      sizes : HasSizes (array_vec_len l.initial.self.locals) (array_vec_len l.initial.self.outs) (state_of l.self);
    }

-- the statements that are left are sound, and lead where all of them lead from the start
abbrev pub invariant-run_block-loop-statement : goal.invariant-run_block-loop-statement
invariant-run_block-loop-statement l =
    let rest = block_of (drop l.statement-index l.block) in
    record {
      left : after_all rest (readings_of l.readings) (state_of l.self) ≡ after_all (block_of l.block) (readings_of l.readings) (state_of l.initial.self);
      sizes : OnlyAddsLocals (state_of l.initial.self) (state_of l.self);
      sound : IsSoundBlock (bounds_of l.readings l.self) (array_vec_len l.self.locals) rest;
      nows : EachTerm (NowsBelow (length l.readings.made.now)) rest;
    }
