-- The lawful core: what each order of events keeps of cells, numbers and acts.
use Rattle.std.specs.Prelude.{◌≡◌, ◌≢◌, ◌⊎◌, ℕ, ◌+◌, ◌<◌, ◌≤◌, length, slice_index, Option, Some, None}
use Rattle.std.specs.List.{Contains}
use Rattle.sift_buffer.specs.Cell.{packed, taken, IsWord}
use Rattle.sift_buffer.specs.Ranges.{Ranges, shared_words, place}
use Rattle.sift_buffer.specs.Conduct.{Conduct, never, last_progress, saying, hearing, stray_to}
use Rattle.sift_buffer.specs.Core.{Core}

-- ---- one unit, or two

-- a unit flies, or it has turned, and then its progress number tells it
abbrev pub HasStage : Conduct → Type 0
HasStage d = ((d.left ≡ never) × (d.progress ≤ last_progress)) ⊎ ((d.left ≤ last_progress) × (d.progress ≡ never))

-- the cell is 0 where nothing was said in this slot to this unit, else the packed stamp and word of what was said last
pub data IsLastSaid (d : Conduct) (q k x : ℕ) : Type 0 where
  silent : ((f : ℕ) → d.said f k q ≡ None) → x ≡ 0 → IsLastSaid d q k x
  last : (f s : ℕ) (w : Option ℕ) → d.said f k q ≡ Some (saying s w) → x ≡ packed s w →
      ((f' s' : ℕ) (w' : Option ℕ) → d.said f' k q ≡ Some (saying s' w') → s' ≤ s) → IsLastSaid d q k x

-- each stamp said is at most the progress plus one, and where the unit has turned, the progress at which it left plus one;
-- the stamps of one cell are different ones
pub record HasStamps (d : Conduct) : Type 0 where
  pub reached : (f k q s : ℕ) (w : Option ℕ) → d.said f k q ≡ Some (saying s w) → (s ≤ d.progress + 1) × (s ≤ d.left + 1) × IsWord w
  pub apart : (f f' k q s : ℕ) (w w' : Option ℕ) → d.said f k q ≡ Some (saying s w) → d.said f' k q ≡ Some (saying s w') → f ≡ f'

-- a unit that flies has seen another at its own progress less one or more; it is at most one ahead of its number,
-- and it has come to where the other left
pub record IsNear (d other : Conduct) (seen : ℕ) : Type 0 where
  pub sight : d.progress ≤ seen + 1
  pub number : d.progress ≤ other.progress + 1
  pub left : other.left < never → other.left ≤ d.progress

-- what q heard in slot k by stamp s at its progress h of a unit that had not left: absence or a word said with this stamp, and
-- the word said where no later stamp could have reached the cell; and the unit says nothing with this stamp again
pub record IsFromSayings (d : Conduct) (q k s h : ℕ) (w : Option ℕ) : Type 0 where
  pub source : (w ≡ None) ⊎ ((f : ℕ) × (d.said f k q ≡ Some (saying s w)))
  pub same : (f : ℕ) (w' : Option ℕ) → d.said f k q ≡ Some (saying s w') →
      ((f' s' : ℕ) (w'' : Option ℕ) → d.said f' k q ≡ Some (saying s' w'') → (s' ≤ s) ⊎ (h + 2 < s')) → w ≡ w'
  pub over : s ≤ d.progress

-- what q heard in slot k by stamp s of a unit that had left: absence, a word said with this stamp, or the word of a stray with this stamp
pub data IsFromStrays (d : Conduct) (q k s : ℕ) (w : Option ℕ) : Type 0 where
  nothing : w ≡ None → IsFromStrays d q k s w
  said : (f : ℕ) → d.said f k q ≡ Some (saying s w) → IsFromStrays d q k s w
  strayed : (x : ℕ) → Contains d.strays (stray_to q k x) → w ≡ taken x s → IsFromStrays d q k s w

-- ---- the core

-- each unit's progress number stands in the shared words, and each unit flies or has turned
pub record IsFormed (r : Ranges) (c : Core) : Type 0 where
  pub wide : length c.words ≡ shared_words r
  pub number : (p : ℕ) → p < r.units → slice_index c.words p ≡ (c.of p).progress
  pub stage : (p : ℕ) → p < r.units → HasStage (c.of p)

-- each own cell of a unit that flies is what it said last there
abbrev pub CellsAreLastSaid : Ranges → Core → Type 0
CellsAreLastSaid r c = (p q k : ℕ) → p < r.units → q < r.units → k < r.slots →
    (c.of p).left ≡ never → IsLastSaid (c.of p) q k (slice_index c.words (place r p q k))

-- no unit said a stamp that it had not reached, or one twice in a cell
abbrev pub StampsAscend : Ranges → Core → Type 0
StampsAscend r c = (p : ℕ) → p < r.units → HasStamps (c.of p)

-- what a unit has seen of another is at most the other's progress number
abbrev pub SightsAreReached : Ranges → Core → Type 0
SightsAreReached r c = (q p : ℕ) → q < r.units → p < r.units → p ≢ q → (c.of q).seen p ≤ (c.of p).progress

-- each unit that flies is near each other unit
abbrev pub UnitsKeepPace : Ranges → Core → Type 0
UnitsKeepPace r c = (q p : ℕ) → q < r.units → p < r.units → p ≢ q →
    (c.of q).left ≡ never → IsNear (c.of q) (c.of p) ((c.of q).seen p)

-- what a unit heard of another that had not left is from its sayings
abbrev pub HearsSayings : Ranges → Core → Type 0
HearsSayings r c = (q p f k s h : ℕ) (w : Option ℕ) → q < r.units → p < r.units → p ≢ q → k < r.slots →
    (c.of q).heard f k p ≡ Some (hearing s h w) → h < (c.of p).left → IsFromSayings (c.of p) q k s h w

-- each cell of a unit that has turned is what it said last there, or one of its strays to that place;
-- and what a unit heard of it after it left is from its sayings or strays
pub record StraysAreOwn (r : Ranges) (c : Core) : Type 0 where
  pub cells : (p q k : ℕ) → p < r.units → q < r.units → k < r.slots → (c.of p).left < never →
      let x = slice_index c.words (place r p q k) in IsLastSaid (c.of p) q k x ⊎ Contains (c.of p).strays (stray_to q k x)
  pub heard : (q p f k s h : ℕ) (w : Option ℕ) → q < r.units → p < r.units → p ≢ q → k < r.slots →
      (c.of q).heard f k p ≡ Some (hearing s h w) → (c.of p).left ≤ h → IsFromStrays (c.of p) q k s w

-- a lawful core
pub record Lawful (r : Ranges) (c : Core) : Type 0 where
  pub formed : IsFormed r c
  pub cells : CellsAreLastSaid r c
  pub stamps : StampsAscend r c
  pub sights : SightsAreReached r c
  pub pace : UnitsKeepPace r c
  pub heard : HearsSayings r c
  pub turned : StraysAreOwn r c
