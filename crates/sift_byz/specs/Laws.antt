-- The laws of oral messages, and what follows for the vectors of a plan.
use Rattle.std.specs.Prelude.{◌≡◌, ℕ, ◌+◌, ◌*◌, ◌<◌, ◌≤◌, List, [], ◌∷◌, length, Bool, true, false, nat_eq, unwrap_or}
use Rattle.sift_agree.specs.Agreement.{taken}
use Rattle.sift_base.specs.Units.{faulty_count, has, IsAscending}
use Rattle.sift_vote.specs.Majority.{agreed_of}
use Rattle.sift_byz.specs.Plan.{ByzPlanData, TraitorsAreFew, all_units, entry, entry_in, heard, is_loyal, value_of, vector, vectors_of}
use Rattle.sift_byz.specs.Relaying.{Hearing, LoyalUnitsRelay, outside, result_of}

-- ---- any number of rounds

-- each other loyal unit has what a loyal unit holds as its result, if the units outside are at least as many as the rounds
-- and twice the traitors among them. Absence is read as 0
abbrev pub LoyalUnitIsBelieved : Type 0
LoyalUnitIsBelieved =
    (units : List ℕ) (loyal : ℕ → Bool) (heard : Hearing) (rounds r : ℕ) (path : List ℕ) (q : ℕ) →
    IsAscending units → LoyalUnitsRelay loyal heard →
    2 * faulty_count loyal (outside units (r ∷ path)) + rounds ≤ length (outside units (r ∷ path)) →
    loyal r ≡ true → has (outside units (r ∷ path)) q ≡ true → loyal q ≡ true →
    unwrap_or (result_of units heard rounds (r ∷ path) q) 0 ≡ unwrap_or (heard path r) 0

-- two loyal units have one result for what any unit tells, loyal or not, if there are at most as many traitors left, that
-- unit among them, as there are rounds, and at least three times as many units outside. Absence is read as 0
abbrev pub AnyUnitIsAgreedOn : Type 0
AnyUnitIsAgreedOn =
    (units : List ℕ) (loyal : ℕ → Bool) (heard : Hearing) (rounds r : ℕ) (path : List ℕ) (p q : ℕ) →
    IsAscending units → LoyalUnitsRelay loyal heard →
    faulty_count loyal (r ∷ outside units (r ∷ path)) ≤ rounds → 3 * rounds ≤ length (outside units (r ∷ path)) →
    has (outside units (r ∷ path)) p ≡ true → loyal p ≡ true → has (outside units (r ∷ path)) q ≡ true → loyal q ≡ true →
    unwrap_or (result_of units heard rounds (r ∷ path) p) 0 ≡ unwrap_or (result_of units heard rounds (r ∷ path) q) 0

-- ---- vectors

-- where the traitors are few, all loyal units have one vector
abbrev pub VectorsAreEqual : Type 0
VectorsAreEqual =
    (plan : ByzPlanData) (p q : ℕ) → TraitorsAreFew plan → p < plan.units → q < plan.units →
    is_loyal plan p ≡ true → is_loyal plan q ≡ true → vector plan p ≡ vector plan q

-- and in it the entry of each loyal unit is its value
abbrev pub LoyalValuesAreKept : Type 0
LoyalValuesAreKept =
    (plan : ByzPlanData) (q s : ℕ) → TraitorsAreFew plan → q < plan.units → s < plan.units →
    is_loyal plan q ≡ true → is_loyal plan s ≡ true → entry plan q s ≡ value_of plan s

-- where one unit at most may lie, the entry of another unit is the agreed word of what was heard from it and of the relays
-- of that, as in a flight
abbrev pub OneTraitorIsAsInFlights : Type 0
OneTraitorIsAsInFlights =
    (plan : ByzPlanData) (q s : ℕ) → plan.m ≡ 1 → nat_eq s q ≡ false →
    entry plan q s ≡ agreed_of (taken (all_units plan) s q (heard plan (s ∷ [])) (λ p r. heard plan (r ∷ s ∷ []) p))

-- the vectors hold each unit's entry of each unit
abbrev pub VectorsHoldTheEntries : Type 0
VectorsHoldTheEntries =
    (plan : ByzPlanData) (q s : ℕ) → q < plan.units → s < plan.units → entry_in (vectors_of plan) q s ≡ entry plan q s
