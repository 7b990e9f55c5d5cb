use Rattle.std.proofs.Common.{◌≡◌, ◌+◌, ◌≤◌, length, ℕ}
use Rattle.std.specs.Prelude.{slice_index_or, None}
use Rattle.sift_code.specs.Nest.{past_at}
use Rattle.sift_code.proofs.nest.pasts_of.Given as goal

-- each place from here on has its entry
abbrev pub invariant-loop-at : goal.invariant-loop-at
invariant-loop-at l =
    (length l.pasts.items ≡ length l.code + 1) × ((p : ℕ) → l.at ≤ p → p ≤ length l.code → slice_index_or l.pasts.items p None ≡ past_at l.code p)
