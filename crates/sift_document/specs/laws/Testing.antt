-- What the test of a rule answers.
use Rattle.std.proofs.Common.{◌≡◌, ◌<◌, ℕ, refl, arith}
use Rattle.sift_document.specs.Rules.{IsFirstPlace, OfNoEntry}

-- the rule is broken at a place, and at none before it
pub first_broken : (number place : ℕ) (Breaks : ℕ → Type 0) → Breaks place → ((at : ℕ) → at < place → ¬ Breaks at) → (number ≡ number) × IsFirstPlace Breaks place
first_broken number place Breaks broken first = (refl, record { broken = broken; first = first })

-- ---- rules that speak of no entry

-- the fault is there, and so the rule is broken at place 0
pub refused_of_none : (number : ℕ) (fault : Type 0) → fault → (number ≡ number) × IsFirstPlace (OfNoEntry fault) 0
refused_of_none number fault there = (refl, record { broken = (refl, there); first = λ at low. absurd (omega (arith, low)) })

-- the fault isn't there, and so the rule is kept
pub kept_of_none : (fault : Type 0) → (fault → ⊥) → (place : ℕ) → ¬ OfNoEntry fault place
kept_of_none fault none place broken = none broken.1
