-- What the tests of rules answer.
use Rattle.std.specs.Prelude.{◌≡◌, ◌⊎◌, ℕ, List, Result, Ok, Err, IsErr, IfErr}
use Rattle.sift_base.specs.declared.stop.Stop.{Stop}
use Rattle.sift_base.specs.declared.stop.Stop.TheVariants as stop
use Rattle.sift_base.specs.Stop.{IfRefused}
use Rattle.sift_document.specs.declared.entries.BrokenRule.{BrokenRule}
use Rattle.sift_document.specs.Rules.{AreKept, BreaksFirst, IsFirstPlace, Rule}

-- the rule is refused, at the first place at which it is broken; or memory was wanting
abbrev pub RefusesBy : ℕ → (ℕ → Type 0) → Stop BrokenRule → Type 0
RefusesBy number BrokenAt why = IfRefused (λ broken. (broken.number ≡ number) × IsFirstPlace BrokenAt broken.place) why

-- the rule is broken nowhere, or it is refused
abbrev pub Tests : {A : Type 0} → ℕ → (ℕ → Type 0) → Result A (Stop BrokenRule) → Type 0
Tests number BrokenAt (Ok value) = (place : ℕ) → ¬ BrokenAt place
Tests number BrokenAt (Err why) = RefusesBy number BrokenAt why

-- the same of a test that takes no memory, so it is never wanting
abbrev pub Decides : {A : Type 0} → ℕ → (ℕ → Type 0) → Result A BrokenRule → Type 0
Decides number BrokenAt (Ok value) = (place : ℕ) → ¬ BrokenAt place
Decides number BrokenAt (Err broken) = RefusesBy number BrokenAt (stop.Refused broken)

-- the first of the rules that is broken is refused; or memory was wanting
abbrev pub RefusesFirst : List Rule → Stop BrokenRule → Type 0
RefusesFirst rules why = IfRefused (λ broken. BreaksFirst rules broken.number broken.place) why

-- each of the rules is kept, or the first that is broken is refused
abbrev pub TestsEach : {A : Type 0} → List Rule → Result A (Stop BrokenRule) → Type 0
TestsEach rules (Ok value) = AreKept rules
TestsEach rules (Err why) = RefusesFirst rules why

-- the same of tests that take no memory
abbrev pub DecidesEach : {A : Type 0} → List Rule → Result A BrokenRule → Type 0
DecidesEach rules (Ok value) = AreKept rules
DecidesEach rules (Err broken) = RefusesFirst rules (stop.Refused broken)

-- what was asked for is refused so, unless memory was wanting
abbrev pub OnlyRefuses : {A E : Type 0} → E → Result A (Stop E) → Type 0
OnlyRefuses owed result = IsErr result × IfErr result (λ why. (why ≡ stop.Refused owed) ⊎ (why ≡ stop.NoMemory))
