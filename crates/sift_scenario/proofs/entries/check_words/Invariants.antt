use Rattle.std.proofs.Common.{◌≡◌, ◌<◌, ◌≤◌, ◌+◌, ℕ, length, map, take}
use Rattle.std.specs.List.{sum}
use Rattle.sift_base.specs.Layout.{word_limit}
use Rattle.sift_scenario.proofs.entries.check_words.Given as goal

-- so many words have the tasks so far, and with none of them there are too many
abbrev pub invariant-loop-place : goal.invariant-loop-place
invariant-loop-place l =
    (l.words ≡ sum (take l.place (map (λ words. length words.items) l.starts)))
    × (l.words ≤ word_limit)
    × ((at : ℕ) → at < l.place → ¬ ((at < length l.starts) × (word_limit < sum (take (at + 1) (map (λ words. length words.items) l.starts)))))
