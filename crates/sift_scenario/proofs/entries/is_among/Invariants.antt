use Rattle.std.proofs.Common.{◌≢◌, ◌<◌, ℕ, get_or, map}
use Rattle.sift_scenario.proofs.entries.is_among.Given as goal

-- none of the names so far is the text
abbrev pub invariant-loop-name : goal.invariant-loop-name
invariant-loop-name l = (k : ℕ) → k < l.name-index → get_or (map (λ name. name.bytes) l.names) k l.text ≢ l.text
