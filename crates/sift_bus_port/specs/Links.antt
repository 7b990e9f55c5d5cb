-- Links: a unit's port with three buses before it. Each word that the unit hears is carried over them.
use Rattle.std.specs.Prelude.{◌≡◌, ℕ, ◌==◌, ◌&&◌, Bool, not, false, List, [], ◌∷◌, Option, Some, None}
use Rattle.sift_buffer.specs.Conduct.{Hearing, put_at}
use Rattle.sift_buffer.specs.Views.{View}
use Rattle.sift_bus_port.specs.Buses.{Carriage, is_same}
use Rattle.sift_bus_port.specs.Logs.{Log, log_of, log_with}
use Rattle.sift_bus_port.specs.declared.port.BusPort.{BusPort}

-- a link: its unit, which bus is faulty, this bus, the log, and what the unit has heard, by frame, slot and sender
pub record Link (B : Type 0) : Type 0 where
  pub unit : ℕ
  pub faulty : ℕ
  pub bus : B
  pub log : Log
  pub heard : ℕ → ℕ → ℕ → Option Hearing

-- the link of a port with three buses before it, where this is the view of the port inside
abbrev pub link_of : {T B : Type 0} → (T → View) → BusPort T B → Link B
link_of view p = record { unit = p.unit; faulty = p.faulty; bus = p.bus; log = log_of p.log; heard = (view p.port).conduct.heard }

-- the link of a unit that has heard nothing, with a log in which nothing stands
abbrev pub first_link : {B : Type 0} → ℕ → ℕ → B → Log → Link B
first_link unit faulty bus log = record { unit = unit; faulty = faulty; bus = bus; log = log; heard = λ _ _ _. None }

-- nothing stands in the log
abbrev pub IsBlank : Log → Type 0
IsBlank l = l ≡ record l { carried = λ _ _ _. None; wrong = λ _ _ _ _. false }

-- the unit has heard nothing
abbrev pub HasHeardNothing : (ℕ → ℕ → ℕ → Option Hearing) → Type 0
HasHeardNothing heard = heard ≡ (λ _ _ _. None)

-- which bus gave another word than was heard: the faulty one, where it carried another
abbrev pub gets_wrong : ℕ → Carriage → ℕ → Bool
gets_wrong faulty c bus = bus == faulty && not (is_same c.carried c.word)

module _ {B : Type 0} (allows : B → Carriage → B → Type 0) where
  -- the unit heard one word more, in a frame and slot and from a unit of which it had heard none: the faulty bus carried it by a step that it
  -- allows, and the log has what it carried, and whether this is another word than the one that was heard
  pub record Carries (x : Link B) (c : Carriage) (y : Link B) : Type 0 where
    pub to : c.to ≡ x.unit
    pub new : x.heard c.frame c.slot c.from ≡ None
    pub allowed : allows x.bus c y.bus
    pub act : Hearing
    pub word : act.word ≡ c.word
    pub after : y ≡ record x {
      bus = y.bus;
      log = log_with x.log c.frame c.slot c.from c.carried (gets_wrong x.faulty c);
      heard = put_at x.heard c.frame c.slot c.from (Some act);
    }

  -- it heard these words one after the other, the newest first, and nothing else has changed
  abbrev pub CarriesAll : Link B → List Carriage → Link B → Type 0
  CarriesAll x [] y = y ≡ x
  CarriesAll x (c ∷ cs) z = (y : Link B) × CarriesAll x cs y × Carries y c z

  -- some words were heard
  pub record GoesOn (x y : Link B) : Type 0 where
    pub words : List Carriage
    pub carried : CarriesAll x words y
