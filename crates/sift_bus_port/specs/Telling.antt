-- What a log tells of the words that its unit heard.
use Rattle.std.specs.Prelude.{◌≡◌, ◌≢◌, ◌⊎◌, ℕ, ◌<◌, Bool, not, false, true, List, [], ◌∷◌, Option, Some, None}
use Rattle.sift_buffer.specs.Conduct.{Hearing}
use Rattle.sift_bus_port.specs.Buses.{Carriage, is_same}
use Rattle.sift_bus_port.specs.Links.{Link, CarriesAll, IsBlank, HasHeardNothing}
use Rattle.sift_bus_port.specs.Logs.{Log, has_entry, count_in, count_places}

-- a word, or absence, was heard, and another was carried
abbrev pub is_wrong : Option Hearing → Option ℕ → Bool
is_wrong None carried = false
is_wrong (Some act) carried = not (is_same carried act.word)

-- in each frame of the log no true bus got a word wrong, and the faulty one just those of the log's slots and units that were heard, and that it
-- carried as another word, or as absence, or as a word in place of absence
pub record TellsHeard (faulty : ℕ) (heard : ℕ → ℕ → ℕ → Option Hearing) (l : Log) : Type 0 where
  pub true_buses : (f bus : ℕ) → f < l.ranges.frames → bus ≢ faulty → count_in l f bus ≡ 0
  pub faulty_bus : (f : ℕ) → f < l.ranges.frames →
      count_in l f faulty ≡ count_places (λ k p. is_wrong (heard f k p) (l.carried f k p)) l.ranges.slots l.ranges.units

-- the carriage is one of these
abbrev pub IsCarried : Carriage → List Carriage → Type 0
IsCarried c [] = ⊥
IsCarried c (d ∷ ds) = (c ≡ d) ⊎ IsCarried c ds

-- the carriage is that of what was heard in a frame and slot from a unit
pub record IsOfHearing (c : Carriage) (f k p : ℕ) (act : Hearing) : Type 0 where
  pub frame : c.frame ≡ f
  pub slot : c.slot ≡ k
  pub from : c.from ≡ p
  pub word : c.word ≡ act.word

-- the log has what was carried of each word that was heard, in its frames and slots and from its units, and nothing of others
pub record TellsCarried (words : List Carriage) (heard : ℕ → ℕ → ℕ → Option Hearing) (l : Log) : Type 0 where
  pub of_heard : (f k p : ℕ) (act : Hearing) → heard f k p ≡ Some act → has_entry l.ranges f k p ≡ true →
      (c : Carriage) × IsCarried c words × IsOfHearing c f k p act × (l.carried f k p ≡ c.carried)
  pub of_others : (f k p : ℕ) → heard f k p ≡ None → l.carried f k p ≡ None

-- whatever the bus does: of a unit that had heard nothing, and a log in which nothing stood
abbrev pub LogsTellWhatWasHeard : {B : Type 0} → (B → Carriage → B → Type 0) → Type 0
LogsTellWhatWasHeard {B} allows = (x y : Link B) (words : List Carriage) → HasHeardNothing x.heard → IsBlank x.log → CarriesAll allows x words y →
    TellsHeard x.faulty y.heard y.log × TellsCarried words y.heard y.log
