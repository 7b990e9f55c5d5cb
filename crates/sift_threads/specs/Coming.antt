-- Each unit at its seat comes of itself, and what comes of what came of one comes of it.
use Rattle.std.specs.Prelude.{List}
use Rattle.sift_buffer.specs.Conduct.{Stray}
use Rattle.sift_rogue.specs.Storms.{Call}
use Rattle.sift_threads.specs.Manned.{Comes}
use Rattle.sift_threads.specs.declared.seating.Manned.{Manned}

module _ {T R : Type 0} (follows : T → List Stray → T → Type 0) (allows : R → Call → R → Type 0) where
  pub itself : (x : Manned T R) → Comes follows allows x x
  itself x w came = came

  pub further : (x y z : Manned T R) → Comes follows allows x y → Comes follows allows y z → Comes follows allows x z
  further x y z first second w came = second w (first w came)
