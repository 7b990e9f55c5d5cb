-- How a line divides an input into a document and a report. All is over bytes: neither part need be a text.
use Rattle.std.specs.Prelude.{codes, ℕ, ◌≡◌, ◌≤◌, ◌⊎◌, List, [], ◌++◌, length}

-- the line that divides, with its line feed
abbrev pub divider : List ℕ
divider = codes "--- report ---\n"

-- whole lines: there are no bytes, or the last of them is a line feed
abbrev pub AreWholeLines : List ℕ → Type 0
AreWholeLines bytes = (bytes ≡ []) ⊎ ((before : List ℕ) × (bytes ≡ before ++ codes "\n"))

-- the divider stands as a line of its own between these two parts
pub record StandsBetween (bytes document report : List ℕ) : Type 0 where
  pub parts : document ++ (divider ++ report) ≡ bytes
  pub begins : AreWholeLines document

-- the first such line divides the bytes into a document and a report
pub record AreDivided (bytes document report : List ℕ) : Type 0 where
  pub between : StandsBetween bytes document report
  pub first : (before behind : List ℕ) → StandsBetween bytes before behind → length document ≤ length before

-- there is none
abbrev pub AreUndivided : List ℕ → Type 0
AreUndivided bytes = (document report : List ℕ) → ¬ StandsBetween bytes document report
