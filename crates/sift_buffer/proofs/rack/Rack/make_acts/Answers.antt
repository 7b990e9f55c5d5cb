use Rattle.std.proofs.Common.{arith, rules}
use Rattle.sift_buffer.proofs.NewRacks.{crew_push}
use Rattle.sift_buffer.proofs.rack.Rack.make_acts.Goals as goal

pub loop-number-preserved : goal.loop-number-preserved
loop-number-preserved c = let inv = c.loop-number.invariant in record {
  within = (let t = c.loop-number-test.true in omega arith);
  room = (let r = inv.room in let k = c.push_reserved.ensures.capacity in omega arith);
  crew = rw c.push_reserved.ensures.items (crew_push c.loop-number.all.items c.in_ok-make.field-0 c.loop-number.number c.unwrap-unit.result
      c.args.layout c.args.frames inv.crew (search rules) c.in_ok-make.ensures);
}
