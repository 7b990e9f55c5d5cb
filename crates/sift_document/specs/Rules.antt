-- Entries of a document at their places, its rules with their numbers and places, and the first of them that is broken.
use Rattle.std.specs.Prelude.{ℕ, ◌≡◌, List, length, Some, slice_get, ◌<◌, ◌⊎◌, [], ◌∷◌, Option, None, ⊤}
use Rattle.toml.specs.Data.{Data}
use Rattle.sift_document.specs.Document.{IsArrayOf, entries_of}

-- ---- facts of the entries of lists at their places

-- the fact holds of the entry at a place
pub record HoldsOf {A : Type 0} (entries : List A) (place : ℕ) (P : A → Type 0) : Type 0 where
  pub entry : A
  pub there : slice_get entries place ≡ Some entry
  pub holds : P entry

-- each entry has the one at its place in another list to which it stands as R says
abbrev pub EachMatches : {A B : Type 0} → (ℕ → A → B → Type 0) → List A → List B → Type 0
EachMatches {A} {B} R others entries =
    (place : ℕ) (entry : B) → slice_get entries place ≡ Some entry → HoldsOf others place (λ other. R place other entry)

-- the same, and there are as many
pub record AreMatched {A B : Type 0} (R : ℕ → A → B → Type 0) (others : List A) (entries : List B) : Type 0 where
  pub as_many : length entries ≡ length others
  pub each : EachMatches R others entries

-- ---- rules

-- a rule: its number, and at which places it is broken. A place is the number of an entry, or 0 where the rule speaks of none
pub record Rule : Type 1 where
  pub number : ℕ
  pub BrokenAt : ℕ → Type 0

-- the rule of this number, from the places at which it is broken
abbrev pub rule : ℕ → (ℕ → Type 0) → Rule
rule number broken = record { number = number; BrokenAt = broken }

-- what breaks a rule that speaks of no entry: its place is 0
abbrev pub OfNoEntry : Type 0 → ℕ → Type 0
OfNoEntry fault place = (place ≡ 0) × fault

-- the value is there, and is no array of `low` to `high` entries, or has an entry at the place that isn't as it should be
abbrev pub BreaksEntries : (low high : ℕ) → (ℕ → Data → Type 0) → Option Data → ℕ → Type 0
BreaksEntries low high IsEntry None place = ⊥
BreaksEntries low high IsEntry (Some value) place =
    OfNoEntry (¬ IsArrayOf low high value) place ⊎ HoldsOf (entries_of (Some value)) place (λ entry. ¬ IsEntry place entry)

-- ---- the first broken rule

-- the rule is broken nowhere
abbrev pub IsKept : Rule → Type 0
IsKept rule = (place : ℕ) → ¬ rule.BrokenAt place

-- each of these rules is kept
abbrev pub AreKept : List Rule → Type 0
AreKept [] = ⊤
AreKept (rule ∷ rest) = IsKept rule × AreKept rest

-- the first place at which a rule is broken
pub record IsFirstPlace (BrokenAt : ℕ → Type 0) (place : ℕ) : Type 0 where
  pub broken : BrokenAt place
  pub first : (at : ℕ) → at < place → ¬ BrokenAt at

-- this is the number of the first of these rules that is broken, and the first place at which it is
abbrev pub BreaksFirst : List Rule → (number place : ℕ) → Type 0
BreaksFirst [] number place = ⊥
BreaksFirst (rule ∷ rest) number place =
    ((number ≡ rule.number) × IsFirstPlace rule.BrokenAt place) ⊎ (IsKept rule × BreaksFirst rest number place)
