use Rattle.std.proofs.Common.{◌≢◌, ◌<◌, ℕ, get_or, map}
use Rattle.sift_document.proofs.value.is_among.Given as goal

-- none of the texts so far is the text
abbrev pub invariant-loop-other : goal.invariant-loop-other
invariant-loop-other l = (k : ℕ) → k < l.other-index → get_or (map (λ other. other.now) l.texts) k l.text ≢ l.text
