-- What one unit did and knows: its progress, what it has seen, said and heard, and its strays.
use Rattle.std.specs.Prelude.{ℕ, ◌+◌, ◌==◌, ◌&&◌, List, [], ◌∷◌, Option, Some, None, if◌then◌else◌}

-- the progress number of a unit that has turned, and where a unit that has not turned is said to leave
abbrev pub never : ℕ
never = 18446744073709551615

-- the greatest progress of a unit that has not turned
abbrev pub last_progress : ℕ
last_progress = 64000

-- a word said, or absence, with the stamp that it carries
pub record Saying : Type 0 where
  pub stamp : ℕ
  pub word : Option ℕ

-- a word heard, or absence, with the stamp asked for and the own progress at that moment
pub record Hearing : Type 0 where
  pub stamp : ℕ
  pub at : ℕ
  pub word : Option ℕ

-- a cell that a turned unit stored: to which unit, in which slot
pub record Stray : Type 0 where
  pub to : ℕ
  pub slot : ℕ
  pub cell : ℕ

-- a unit's conduct: its progress number; where it turned, the progress at which it left; what it has seen of each unit;
-- what it said and heard by frame, slot and other unit; and its strays, the newest first
pub record Conduct : Type 0 where
  pub progress : ℕ
  pub left : ℕ
  pub seen : ℕ → ℕ
  pub said : ℕ → ℕ → ℕ → Option Saying
  pub heard : ℕ → ℕ → ℕ → Option Hearing
  pub strays : List Stray

-- the saying of a word with a stamp
abbrev pub saying : ℕ → Option ℕ → Saying
saying s w = record { stamp = s; word = w }

-- the hearing of a word with a stamp at an own progress
abbrev pub hearing : ℕ → ℕ → Option ℕ → Hearing
hearing s h w = record { stamp = s; at = h; word = w }

-- the stray of a cell to a unit in a slot
abbrev pub stray_to : ℕ → ℕ → ℕ → Stray
stray_to q k x = record { to = q; slot = k; cell = x }

-- nothing was done or seen
abbrev pub fresh : Conduct
fresh = record { progress = 0; left = never; seen = λ _. 0; said = λ _ _ _. None; heard = λ _ _ _. None; strays = [] }

-- a function with another value at one place
abbrev pub put : {A : Type 0} → (ℕ → A) → ℕ → A → ℕ → A
put g i x j = if j == i then x else g j

-- a function of frame, slot and unit with another value at one place
abbrev pub put_at : {A : Type 0} → (ℕ → ℕ → ℕ → A) → ℕ → ℕ → ℕ → A → ℕ → ℕ → ℕ → A
put_at g f k q x f' k' q' = if f' == f && k' == k && q' == q then x else g f' k' q'

-- having seen a unit at a number
abbrev pub with_seen : Conduct → ℕ → ℕ → Conduct
with_seen d p n = record d { seen = put d.seen p n }

-- having said a word in a frame and slot to a unit
abbrev pub with_said : Conduct → ℕ → ℕ → ℕ → ℕ → Option ℕ → Conduct
with_said d f k q s w = record d { said = put_at d.said f k q (Some (saying s w)) }

-- having heard a word in a frame and slot from a unit
abbrev pub with_heard : Conduct → ℕ → ℕ → ℕ → ℕ → Option ℕ → Conduct
with_heard d f k p s w = record d { heard = put_at d.heard f k p (Some (hearing s d.progress w)) }

-- having entered the next subframe
abbrev pub with_entered : Conduct → Conduct
with_entered d = record d { progress = d.progress + 1 }

-- having turned, and left at the progress that it had
abbrev pub with_turned : Conduct → Conduct
with_turned d = record d { progress = never; left = d.progress }

-- having stored a stray
abbrev pub with_stray : Conduct → ℕ → ℕ → ℕ → Conduct
with_stray d q k x = record d { strays = stray_to q k x ∷ d.strays }
