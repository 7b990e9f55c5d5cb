-- One core is reached from another by allowed events of one unit.
use Rattle.std.specs.Prelude.{◌≡◌, ℕ, List, [], ◌∷◌, ⊤}
use Rattle.sift_buffer.specs.Ranges.{Ranges}
use Rattle.sift_buffer.specs.Core.{Core, Event, doer, after_all, AllAllowed}

-- each event of the list is this unit's
abbrev pub AllBy : ℕ → List Event → Type 0
AllBy u [] = ⊤
AllBy u (e ∷ es) = (doer e ≡ u) × AllBy u es

-- some list of allowed events of the unit leads from the one core to the other
pub record Reaches (r : Ranges) (u : ℕ) (a b : Core) : Type 0 where
  pub events : List Event
  pub by : AllBy u events
  pub allowed : AllAllowed r a events
  pub there : after_all r a events ≡ b
