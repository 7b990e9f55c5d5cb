use Rattle.std.proofs.Common.{◌≡◌, replicate, take}
use Rattle.sift_code.specs.Work.{locals_of}
use Rattle.sift_code.proofs.machine.clear_locals.Given as goal

-- so many locals are 0
abbrev pub invariant-loop-local : goal.invariant-loop-local
invariant-loop-local l = take l.local (locals_of l.words) ≡ replicate l.local 0
