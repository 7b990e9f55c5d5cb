-- What buses carry changes no log's frames, slots and units.
use Rattle.std.proofs.Common.{◌≡◌, ℕ, Bool, true, false, List, [], ◌∷◌, Option, if◌then◌else◌, refl, ◌∙◌}
use Rattle.sift_bus_port.specs.Buses.{Carriage}
use Rattle.sift_bus_port.specs.Links.{Link, CarriesAll}
use Rattle.sift_bus_port.specs.Logs.{Log, has_entry}

-- what is noted in a log, or isn't, leaves its ranges
noted_in : (b : Bool) (l : Log) (carried : ℕ → ℕ → ℕ → Option ℕ) (wrong : ℕ → ℕ → ℕ → ℕ → Bool) →
    (if b then record l { carried = carried; wrong = wrong } else l).ranges ≡ l.ranges
noted_in true l carried wrong = refl
noted_in false l carried wrong = refl

-- after any words a log is of as many frames, slots and units as before
pub same_ranges : {B : Type 0} (allows : B → Carriage → B → Type 0) (x y : Link B) (words : List Carriage) →
    CarriesAll allows x words y → y.log.ranges ≡ x.log.ranges
same_ranges allows x y [] all = λ i. (all i).log.ranges
same_ranges allows x z (c ∷ cs) all = (λ i. (all.2.after i).log.ranges)
    ∙ (noted_in (has_entry all.0.log.ranges c.frame c.slot c.from) all.0.log _ _ ∙ same_ranges allows x all.0 cs all.1)
