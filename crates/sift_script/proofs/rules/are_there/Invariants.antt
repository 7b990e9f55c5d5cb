use Rattle.std.proofs.Common.{ℕ, ◌<◌, map, slice_index_or}
use Rattle.sift_script.specs.Parts.{script_of}
use Rattle.sift_script.specs.Rules.{IsThere}
use Rattle.sift_script.specs.Script.{Change, change_of}
use Rattle.sift_script.proofs.rules.are_there.Given as goal

-- what each item so far is about is there
abbrev pub invariant-loop-item : goal.invariant-loop-item
invariant-loop-item l = (k : ℕ) (d : Change) → k < l.item-index → IsThere (script_of l.parts) l.from (slice_index_or (map change_of l.items) k d)
