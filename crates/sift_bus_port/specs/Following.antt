-- A link goes on as itself, and what goes on further goes on.
use Rattle.std.proofs.Common.{List, [], ◌∷◌, ◌++◌, sym, refl, subst}
use Rattle.sift_bus_port.specs.Buses.{Carriage}
use Rattle.sift_bus_port.specs.Links.{Link, CarriesAll, GoesOn}

module _ {B : Type 0} (allows : B → Carriage → B → Type 0) where
  -- no word
  pub itself : (x : Link B) → GoesOn allows x x
  itself x = record { words = []; carried = refl }

  carries_on : (x y z : Link B) (cs ds : List Carriage) → CarriesAll allows x cs y → CarriesAll allows y ds z → CarriesAll allows x (ds ++ cs) z
  carries_on x y z cs [] a b = subst (λ (w : Link B). CarriesAll allows x cs w) (sym b) a
  carries_on x y z cs (d ∷ ds) a b = (b.0, carries_on x y b.0 cs ds a b.1, b.2)

  -- some words, and some after them
  pub further : (x y z : Link B) → GoesOn allows x y → GoesOn allows y z → GoesOn allows x z
  further x y z a b = record { words = b.words ++ a.words; carried = carries_on x y z a.words b.words a.carried b.carried }
