-- The acts of all units, as ledgers by unit, and the core that they make with the shared words. No ledger keeps strays: what holds of a crew
-- holds with some.
use Rattle.std.specs.Prelude.{◌≡◌, ℕ, ◌<◌, List, [], ◌++◌, length, slice_index_or}
use Rattle.sift_base.specs.declared.slots.Layout.{Layout}
use Rattle.sift_buffer.specs.Core.{Core}
use Rattle.sift_buffer.specs.Journals.{IsJournalOf, no_pages}
use Rattle.sift_buffer.specs.Conduct.{Stray, fresh, never, put}
use Rattle.sift_buffer.specs.Ledgers.{Ledger, Tells, conduct_with}

-- an empty ledger, which stands for that of a unit that isn't there
abbrev pub no_ledger : Ledger
no_ledger = record { pages = no_pages; progress = 0; left = never; seen = []; said = []; asked = []; heard_at = [] }

-- the ledger of a unit
abbrev pub ledger_at : List Ledger → ℕ → Ledger
ledger_at acts u = slice_index_or acts u no_ledger

-- the ledger at each unit's place is this unit's, of this layout and number of frames
abbrev pub AreOwned : List Ledger → Layout → ℕ → Type 0
AreOwned acts layout frames = (u : ℕ) → u < layout.units → IsJournalOf (ledger_at acts u).pages layout u frames

-- the core of these shared words, in which the units conduct themselves as these ledgers tell, and have stored these strays
abbrev pub core_by : List ℕ → List Ledger → (ℕ → List Stray) → Core
core_by words acts w = record { words = words; of = λ u. conduct_with (ledger_at acts u) (w u) }

-- the same strays, but for some of one unit that come before its others: they are the newest
abbrev pub with_strays : (ℕ → List Stray) → ℕ → List Stray → ℕ → List Stray
with_strays w u ss = put w u (ss ++ w u)

-- so many ledgers, of this layout and number of frames, in the order of their units, in which nothing was done
pub record IsCrew (acts : List Ledger) (units : ℕ) (layout : Layout) (frames : ℕ) : Type 0 where
  pub count : length acts ≡ units
  pub fresh : (u : ℕ) → u < units → Tells (ledger_at acts u) layout u frames fresh
