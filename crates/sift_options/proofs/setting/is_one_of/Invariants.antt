use Rattle.std.proofs.Common.{◌<◌, ℕ, get_or}
use Rattle.sift_options.specs.Options.{IsAllowed, allowed_by}
use Rattle.sift_options.specs.declared.setting.Flag.{Flag}
use Rattle.sift_options.proofs.setting.is_one_of.Given as goal

-- it is none of the options so far
abbrev pub invariant-loop-flag : goal.invariant-loop-flag
invariant-loop-flag l = (k : ℕ) → k < l.flag-index → (d : Flag) → ¬ IsAllowed (record { name = l.name; value = l.value }) (allowed_by (get_or l.flags k d))
