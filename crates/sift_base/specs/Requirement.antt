-- Requirements with their numbers, in the order in which they are tested, and the first that isn't met.
use Rattle.std.specs.Prelude.{◌≡◌, ℕ, ◌<◌, ◌⊎◌, List, [], ◌∷◌, ⊤}

-- a requirement: the number by which it is named, and the fact that it asks for
abbrev pub Requirement : Type 1
Requirement = ℕ × Type 0

-- each of these is met
abbrev pub AreMet : List Requirement → Type 0
AreMet [] = ⊤
AreMet (first ∷ rest) = first.1 × AreMet rest

-- this is the number of the first of these that isn't met
abbrev pub IsFirstUnmet : List Requirement → ℕ → Type 0
IsFirstUnmet [] number = ⊥
IsFirstUnmet (first ∷ rest) number = ((¬ first.1) × (number ≡ first.0)) ⊎ (first.1 × IsFirstUnmet rest number)

-- of so many entries this is the first that doesn't meet all that is required of it, and the number of the first requirement that isn't met
pub record IsFirstRefused (count : ℕ) (required : ℕ → List Requirement) (number entry : ℕ) : Type 0 where
  pub inside : entry < count
  pub before : (earlier : ℕ) → earlier < entry → AreMet (required earlier)
  pub broken : IsFirstUnmet (required entry) number
