use Rattle.std.proofs.Common.{arith}
use Rattle.sift_unit.specs.Boards.{desk_of}
use Rattle.sift_unit.proofs.Passing.{passes_on, same_on}
use Rattle.sift_unit.proofs.board.Board.find_call.Goals as goal

-- past the slot, in which no unit was left, and what comes after it
pub loop-self-preserved : goal.loop-self-preserved
loop-self-preserved c =
    let start = desk_of c.args.self.now in
    let here = desk_of c.loop-self.self in
    let past = desk_of c.finds_unit.new.self in
    let finds = c.finds_unit.ensures.finds in
    let on = c.pass.ensures.onward in (
      passes_on _ start past (desk_of c.pass.new.self) (passes_on _ start here past c.loop-self.invariant.0 finds.passes) on.passes,
      (let near = c.loop-self.invariant.1 in let nearer = finds.nearer in let less = on.less in omega arith),
      same_on c.args.self.now c.finds_unit.new.self c.pass.new.self (same_on c.args.self.now c.loop-self.self c.finds_unit.new.self c.loop-self.invariant.2
          c.finds_unit.ensures.same) c.pass.ensures.same,
    )

-- to a call, or to the end
pub returns-after-loop-self-clause-passes : goal.returns-after-loop-self-clause-passes
returns-after-loop-self-clause-passes c = passes_on _ (desk_of c.args.self.now) (desk_of c.loop-self.self) (desk_of c.finds_unit.new.self)
    c.loop-self.invariant.0 c.finds_unit.ensures.finds.passes

pub returns-else-not-is_end-clause-passes : goal.returns-else-not-is_end-clause-passes
returns-else-not-is_end-clause-passes c = passes_on _ (desk_of c.args.self.now) (desk_of c.loop-self.self) (desk_of c.finds_unit.new.self)
    c.loop-self.invariant.0 c.finds_unit.ensures.finds.passes

-- it is the same board there
pub returns-after-loop-self-clause-same : goal.returns-after-loop-self-clause-same
returns-after-loop-self-clause-same c = same_on c.args.self.now c.loop-self.self c.finds_unit.new.self c.loop-self.invariant.2 c.finds_unit.ensures.same

pub returns-else-not-is_end-clause-same : goal.returns-else-not-is_end-clause-same
returns-else-not-is_end-clause-same c = same_on c.args.self.now c.loop-self.self c.finds_unit.new.self c.loop-self.invariant.2 c.finds_unit.ensures.same

-- at a slot at which no unit is left it may pass on
pub pass-requires-clause-may : goal.pass-requires-clause-may
pass-requires-clause-may c =
    let finds = c.finds_unit.ensures.finds in
    record {
      walks = record { fits = c.requires.walks.fits; range = finds.passes.range };
      frame = (let low = c.requires.frame in let here = c.loop-self.invariant.0.frame in let past = finds.passes.frame in omega arith);
      whole = finds.whole c.loop-self-test.true;
    }
