use Rattle.std.proofs.Common.{arith}
use Rattle.sift_code.proofs.nest.bring.Goals as goal

pub returns : goal.returns
returns c = grind arith

pub bounds-table-to-2 : goal.bounds-table-to-2
bounds-table-to-2 c = grind arith

pub bounds : goal.bounds
bounds c = grind arith

pub bounds-table-to : goal.bounds-table-to
bounds-table-to c = grind arith

pub offset_bounds-table-to : goal.offset_bounds-table-to
offset_bounds-table-to c = grind arith

pub offset_bounds-table-to-2 : goal.offset_bounds-table-to-2
offset_bounds-table-to-2 c = omega arith
