use Rattle.std.proofs.Common.{◌≡◌, length, map, take}
use Rattle.sift_scenario.proofs.program.names_for.Given as goal

-- the names and the numbers of words so far
abbrev pub invariant-loop-place : goal.invariant-loop-place
invariant-loop-place l =
    (map (λ task. task.0.bytes) l.tasks.items ≡ take l.place (map (λ name. name.bytes) l.names))
    × (map (λ task. task.1) l.tasks.items ≡ take l.place (map (λ words. length words.items) l.starts))
