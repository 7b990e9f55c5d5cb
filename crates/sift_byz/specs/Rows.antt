-- Plans to try the definitions on: each row has vectors that were worked out by hand.
use Rattle.std.specs.Prelude.{◌≡◌, ℕ, List, [], ◌∷◌, Some, None, true}
use Rattle.sift_byz.specs.Plan.{LieData, ByzPlanData, TraitorsAreFew, is_loyal, vector}

-- a lie that tells one unit a word
abbrev pub tells : (path : List ℕ) → (to value : ℕ) → LieData
tells path to value = record { path = path; to = to ∷ []; value = Some value }

-- and one that tells it nothing
abbrev pub hides : (path : List ℕ) → (to : ℕ) → LieData
hides path to = record { path = path; to = to ∷ []; value = None }

-- four units, of which unit 0 tells each other unit another value
abbrev pub four : ByzPlanData
four = record {
  units = 4;
  m = 1;
  values = 1 ∷ 2 ∷ 3 ∷ 4 ∷ [];
  lies = tells (0 ∷ []) 1 7 ∷ tells (0 ∷ []) 2 8 ∷ tells (0 ∷ []) 3 9 ∷ [];
}

-- three units are too few for one traitor: unit 2 relays to unit 1 another value of unit 0
abbrev pub three : ByzPlanData
three = record { units = 3; m = 1; values = 5 ∷ 6 ∷ 7 ∷ []; lies = tells (0 ∷ 2 ∷ []) 1 9 ∷ [] }

-- seven units and two traitors, 0 and 1, that hardly tell two units the same
abbrev pub seven : ByzPlanData
seven = record {
  units = 7;
  m = 2;
  values = 1 ∷ 2 ∷ 3 ∷ 4 ∷ 5 ∷ 6 ∷ 7 ∷ [];
  lies = tells (0 ∷ []) 1 7 ∷ tells (0 ∷ []) 2 8 ∷ tells (0 ∷ []) 3 9 ∷ hides (0 ∷ []) 4
      ∷ tells (1 ∷ []) 5 10 ∷ tells (0 ∷ 1 ∷ []) 2 11 ∷ tells (0 ∷ 1 ∷ []) 3 12
      ∷ tells (0 ∷ 2 ∷ 1 ∷ []) 3 13 ∷ tells (0 ∷ 2 ∷ 1 ∷ []) 4 14 ∷ tells (2 ∷ 0 ∷ []) 3 15 ∷ tells (2 ∷ 0 ∷ 1 ∷ []) 4 16 ∷ [];
}

-- the rows
abbrev pub Rows : Type 0
Rows =
    (vector four 1 ≡ (0 ∷ 2 ∷ 3 ∷ 4 ∷ []))
    × (vector four 2 ≡ (0 ∷ 2 ∷ 3 ∷ 4 ∷ []))
    × (vector four 3 ≡ (0 ∷ 2 ∷ 3 ∷ 4 ∷ []))
    × (vector seven 2 ≡ (0 ∷ 2 ∷ 3 ∷ 4 ∷ 5 ∷ 6 ∷ 7 ∷ []))
    × (vector seven 5 ≡ (0 ∷ 2 ∷ 3 ∷ 4 ∷ 5 ∷ 6 ∷ 7 ∷ []))

-- the traitors of these plans are few, so the laws speak of them
abbrev pub PremisesAreMet : Type 0
PremisesAreMet = TraitorsAreFew four × TraitorsAreFew seven

-- with three units, two loyal ones have different vectors
abbrev pub ThreeAreTooFew : Type 0
ThreeAreTooFew =
    (is_loyal three 0 ≡ true) × (is_loyal three 1 ≡ true)
    × (vector three 0 ≡ (5 ∷ 6 ∷ 7 ∷ []))
    × (vector three 1 ≡ (0 ∷ 6 ∷ 7 ∷ []))
