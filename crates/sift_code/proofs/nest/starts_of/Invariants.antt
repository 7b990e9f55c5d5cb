use Rattle.std.proofs.Common.{◌≡◌, ◌+◌, ◌≤◌, length, ℕ}
use Rattle.std.specs.Prelude.{slice_index_or, None}
use Rattle.sift_code.specs.Nest.{start_at}
use Rattle.sift_code.proofs.nest.starts_of.Given as goal

-- each place up to this one has its entry
abbrev pub invariant-loop-at : goal.invariant-loop-at
invariant-loop-at l =
    (length l.starts.items ≡ length l.code + 1) × ((p : ℕ) → p ≤ l.at → slice_index_or l.starts.items p None ≡ start_at l.code p)
