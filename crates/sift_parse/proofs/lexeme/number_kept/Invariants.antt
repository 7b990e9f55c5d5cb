use Rattle.std.proofs.Common.{◌≡◌, take}
use Rattle.std.specs.Str.Parse.{digits_value}
use Rattle.sift_parse.specs.Written.{kept}
use Rattle.sift_parse.proofs.lexeme.number_kept.Given as goal

-- what is kept of the number that the digits so far write
abbrev pub invariant-loop-b : goal.invariant-loop-b
invariant-loop-b l = l.n ≡ kept (digits_value l.radix (take l.b-index l.digits))
