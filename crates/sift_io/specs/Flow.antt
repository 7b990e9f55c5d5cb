-- What a contract sees of a source and of a sink, with counts of faults and of ends.
use Rattle.std.specs.Prelude.{ℕ, List, Option, ◌≡◌, ◌+◌, ◌-◌, ◌^◌, ◌<◌, ◌≤◌, ◌⊎◌, ◌↔◌, min}

-- ---- a source and a sink

-- a source: the bytes that are left, where it tells them, how often reading has failed, and how often it met the end
pub record Inflow : Type 0 where
  pub left : Option (List ℕ)
  pub faults : ℕ
  pub ends : ℕ

-- a sink: the bytes that were written, where it tells them, and how often writing has failed
pub record Outflow : Type 0 where
  pub written : Option (List ℕ)
  pub faults : ℕ

-- ---- their counts: numbers of 64 bits that stay at their last value

-- the last value of a count
abbrev pub last_count : ℕ
last_count = 2 ^ 64 - 1

-- the count after one more: it stays at its last value
abbrev pub next_count : ℕ → ℕ
next_count count = min (count + 1) last_count

-- the count is greater now than before, or stands at its last value
abbrev pub Rose : ℕ → ℕ → Type 0
Rose before now = before < now ⊎ now ≡ last_count

-- a count within its type rose just where it is at least the one after the count before
abbrev pub RoseIsOneMoreAtLeast : Type 0
RoseIsOneMoreAtLeast = (before now : ℕ) → now ≤ last_count → Rose before now ↔ (next_count before ≤ now)
