-- The script that the parts of a checked script stand for, and the numbers of its tasks' words.
use Rattle.std.specs.Prelude.{ℕ, ◌≡◌, ◌+◌, ◌≤◌, List, length, map, sum, take}
use Rattle.std.specs.List.{range_with_len}
use Rattle.sift_script.specs.Script.{FaultScript, faults_of}
use Rattle.sift_script.specs.declared.script.Parts.{Parts}

-- a script, with what it is for
abbrev pub script_of : Parts → FaultScript
script_of parts = record { faults = faults_of parts.script; layout = parts.layout; outputs = parts.outputs.items; frames = parts.frames }

-- these are the numbers of the first words of tasks that have so many output words, and the number behind all of their words;
-- there are at most 24 tasks, as in a mission
abbrev pub AreFirstWords : List ℕ → List ℕ → Type 0
AreFirstWords outputs firsts = (firsts ≡ map (λ t. sum (take t outputs)) (range_with_len 0 (length outputs + 1))) × (length outputs ≤ 24)
