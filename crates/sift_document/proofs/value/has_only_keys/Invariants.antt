use Rattle.std.proofs.Common.{map, string_bytes}
use Rattle.std.specs.List.{All, Contains}
use Rattle.sift_document.proofs.value.has_only_keys.Given as goal

-- each key so far is known
abbrev pub invariant-loop-key : goal.invariant-loop-key
invariant-loop-key l = All (λ key. Contains (map (λ text. text.now) l.known) (string_bytes key.now)) l.yielded
