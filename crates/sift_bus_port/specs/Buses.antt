-- Buses: what one carries, what three of them make of a word, and which steps a bus allows. A word on its way may be absence.
use Rattle.std.specs.Prelude.{◌≡◌, ℕ, ◌<◌, Bool, nat_eq, nat_lt, if◌then◌else◌, List, [], ◌∷◌, slice_set, Option}
use Rattle.std.specs.Option.{option_eq}
use Rattle.sift_vote.specs.Majority.{majority_of}
use Rattle.sift_bus_port.specs.declared.bus.Constant.{Constant}

-- what was carried: in which frame, from which unit, to which, in which slot; the word that the bus was given, and the one that it gave
pub record Carriage : Type 0 where
  pub frame : ℕ
  pub from : ℕ
  pub to : ℕ
  pub slot : ℕ
  pub word : Option ℕ
  pub carried : Option ℕ

abbrev pub carriage : ℕ → ℕ → ℕ → ℕ → Option ℕ → Option ℕ → Carriage
carriage f from to slot word carried = record { frame = f; from = from; to = to; slot = slot; word = word; carried = carried }

-- ---- three buses

-- how many buses carry each word
abbrev pub bus_count : ℕ
bus_count = 3

-- what three buses give of a word: the faulty one what it carried, and the two true ones the word
abbrev pub three_of : Option ℕ → ℕ → Option ℕ → List (Option ℕ)
three_of word faulty carried = slice_set (word ∷ word ∷ word ∷ []) faulty carried

-- two words, or absence, are the same
abbrev pub is_same : Option ℕ → Option ℕ → Bool
is_same v w = option_eq nat_eq v w

-- whichever bus is faulty, and whatever it carries: the majority of the three is the word
abbrev pub OneBusMayLie : Type 0
OneBusMayLie = (word carried : Option ℕ) (faulty : ℕ) → faulty < bus_count → majority_of (three_of word faulty carried) ≡ word

-- ---- steps

-- the word before a frame, and from it on one value, or absence; and the bus stays as it is
abbrev pub AllowsConstant : Constant → Carriage → Constant → Type 0
AllowsConstant x c y = (c.carried ≡ (if nat_lt c.frame x.from then c.word else x.value)) × (y ≡ x)
