-- A rack as a core, and as the port of each unit.
use Rattle.std.specs.Prelude.{◌≡◌, ◌≢◌, ℕ, List, [], slice_index, slice_set}
use Rattle.sift_base.specs.declared.slots.Layout.{Layout}
use Rattle.sift_buffer.specs.Ranges.{Ranges, place}
use Rattle.sift_buffer.specs.Conduct.{Conduct, Stray}
use Rattle.sift_buffer.specs.Core.{Core, fresh_core}
use Rattle.sift_buffer.specs.Ledgers.{conduct_in}
use Rattle.sift_buffer.specs.Tables.{ranges_of}
use Rattle.sift_buffer.specs.Views.{Sight, View, fresh_view}
use Rattle.sift_buffer.specs.Reaches.{Reaches}
use Rattle.sift_buffer.specs.Crews.{core_by, ledger_at, with_strays}
use Rattle.sift_buffer.specs.declared.rack.Rack.{Rack}

-- how many units, slots and frames the rack has
abbrev pub ranges_for : Rack → Ranges
ranges_for x = ranges_of x.grid.layout x.grid.frames

-- the core of its words and acts, and of these strays
abbrev pub core_of : Rack → (ℕ → List Stray) → Core
core_of x w = core_by x.words.items x.acts.items w

-- what a unit did and knows, but for strays
abbrev pub conduct_at : Rack → ℕ → Conduct
conduct_at x u = conduct_in (ledger_at x.acts.items u)

-- how often a unit has looked
abbrev pub looks_at : Rack → ℕ → ℕ
looks_at x u = slice_index x.looks u

-- and at whom it looked last
abbrev pub last_at : Rack → ℕ → Sight
last_at x u = record { unit = slice_index x.last_units u; number = slice_index x.last_numbers u }

-- the rack as the port of a unit
abbrev pub view_at : Rack → ℕ → View
view_at x u = record {
  ranges = ranges_for x;
  unit = u;
  conduct = conduct_at x u;
  looks = looks_at x u;
  last = last_at x u;
}

-- and as that of the unit that now steps
abbrev pub view_of : Rack → View
view_of x = view_at x x.unit

-- the same layout, frames and unit; whatever was stored before, all that changed is by allowed events of this unit, with these strays, the newest
-- first; and for each other unit it is the same port
pub record Follows (a : Rack) (strays : List Stray) (b : Rack) : Type 0 where
  pub layout : b.grid.layout ≡ a.grid.layout
  pub frames : b.grid.frames ≡ a.grid.frames
  pub unit : b.unit ≡ a.unit
  pub reaches : (w : ℕ → List Stray) → Reaches (ranges_for a) a.unit (core_of a w) (core_of b (with_strays w a.unit strays))
  pub others : (p : ℕ) → p ≢ a.unit → view_at b p ≡ view_at a p

-- the unit's number stands in the rack's words
abbrev pub Stands : Rack → ℕ → ℕ → Type 0
Stands x u n = slice_index x.words.items u ≡ n

-- the rack with another unit that steps
pub record IsChosen (a : Rack) (u : ℕ) (b : Rack) : Type 0 where
  pub unit : b.unit ≡ u
  pub layout : b.grid.layout ≡ a.grid.layout
  pub frames : b.grid.frames ≡ a.grid.frames
  pub words : b.words ≡ a.words
  pub acts : b.acts ≡ a.acts
  pub looks : b.looks ≡ a.looks
  pub last_units : b.last_units ≡ a.last_units
  pub last_numbers : b.last_numbers ≡ a.last_numbers

-- the rack with a stray in its unit's own cell, and nothing else changed
pub record IsStored (a : Rack) (u : ℕ) (s : Stray) (b : Rack) : Type 0 where
  pub words : b.words.items ≡ slice_set a.words.items (place (ranges_for a) u s.to s.slot) s.cell
  pub unit : b.unit ≡ a.unit
  pub layout : b.grid.layout ≡ a.grid.layout
  pub frames : b.grid.frames ≡ a.grid.frames
  pub acts : b.acts ≡ a.acts
  pub looks : b.looks ≡ a.looks
  pub last_units : b.last_units ≡ a.last_units
  pub last_numbers : b.last_numbers ≡ a.last_numbers

-- a rack of this layout and number of frames on which no unit has done anything: it is the port of unit 0, and for each unit one on which nothing was
-- done
pub record IsNewRack (x : Rack) (layout : Layout) (frames : ℕ) : Type 0 where
  pub layout_is : x.grid.layout ≡ layout
  pub frames_are : x.grid.frames ≡ frames
  pub core : core_of x (λ _. []) ≡ fresh_core (ranges_of layout frames)
  pub unit : x.unit ≡ 0
  pub new : (u : ℕ) → view_at x u ≡ fresh_view (ranges_of layout frames) u
