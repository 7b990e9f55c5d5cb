-- What a unit may do, whatever strays it has stored.
use Rattle.std.proofs.Common.{ℕ, List}
use Rattle.sift_buffer.specs.Ranges.{Ranges}
use Rattle.sift_buffer.specs.Conditions.{MaySay, MayHear, MayEnter}
use Rattle.sift_buffer.specs.Conduct.{Conduct, Stray}

module _ (c : Conduct) (before : List Stray) where
  -- what a unit may say to another it may say whatever strays it has stored
  pub may_say : (r : Ranges) (u q k f s : ℕ) → MaySay r c u q k f s → MaySay r (record c { strays = before }) u q k f s
  may_say r u q k f s m = record { flies = m.flies; place = m.place; stamp = m.stamp; frame = m.frame; fresh = m.fresh }

  -- what a unit may hear of another it may hear whatever strays it has stored
  pub may_hear : (r : Ranges) (u p k f s : ℕ) → MayHear r c u p k f s → MayHear r (record c { strays = before }) u p k f s
  may_hear r u p k f s m = record { flies = m.flies; place = m.place; stamp = m.stamp; frame = m.frame }

  -- a unit that may try to enter may try it whatever strays it has stored
  pub may_enter : MayEnter c → MayEnter (record c { strays = before })
  may_enter m = record { flies = m.flies; below = m.below }
