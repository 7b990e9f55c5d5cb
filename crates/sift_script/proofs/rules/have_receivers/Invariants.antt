use Rattle.std.proofs.Common.{ℕ, ◌<◌, map, slice_index_or}
use Rattle.sift_script.specs.Rules.{AreReceivers}
use Rattle.sift_script.specs.Script.{Change, change_of}
use Rattle.sift_script.proofs.rules.have_receivers.Given as goal

-- each item so far is for receivers
abbrev pub invariant-loop-item : goal.invariant-loop-item
invariant-loop-item l = (k : ℕ) (d : Change) → k < l.item-index → AreReceivers l.units l.unit (slice_index_or (map change_of l.items) k d).to
