use Rattle.std.proofs.Common.{◌≡◌, take, map}
use Rattle.std.specs.Prelude.{reverse}
use Rattle.sift_parse.specs.Tokens.{local_of}
use Rattle.sift_parse.proofs.scan.local_of.Given as goal

-- the local that is seen among those so far
abbrev pub invariant-loop-i : goal.invariant-loop-i
invariant-loop-i l = l.seen ≡ local_of (reverse (map (λ w. w.now) (take l.i l.locals))) l.name
