use Rattle.std.proofs.Common.{take}
use Rattle.sift_parse.specs.Roll.{roll_of}
use Rattle.sift_parse.specs.Held.{force_of}
use Rattle.sift_parse.specs.Written.{placed_of}
use Rattle.sift_parse.proofs.Refusals.Taking.{Scanning}
use Rattle.sift_parse.proofs.scan.scan.Given as goal

-- the lexemes so far are taken
abbrev pub invariant-loop-placed : goal.invariant-loop-placed
invariant-loop-placed l = Scanning (roll_of l.names) (placed_of (take l.placed-index l.lexemes)) (force_of l.force) l.tokens.items
