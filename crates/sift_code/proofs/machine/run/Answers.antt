use Rattle.std.proofs.Common.{arith}
use Rattle.sift_code.proofs.machine.run.Goals as goal

pub returns-clause-ran : goal.returns-clause-ran
returns-clause-ran c = grind arith

pub run_in-requires-clause-room : goal.run_in-requires-clause-room
run_in-requires-clause-room c = grind arith

pub returns-clause-count : goal.returns-clause-count
returns-clause-count c = grind arith

pub run_in-requires-clause-fits : goal.run_in-requires-clause-fits
run_in-requires-clause-fits c = grind arith
