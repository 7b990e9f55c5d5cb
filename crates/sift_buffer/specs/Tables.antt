-- Lists with one entry for each frame, slot and unit.
use Rattle.std.specs.Prelude.{ℕ, ◌+◌, ◌*◌, ◌<◌, ◌&&◌, nat_lt, List, slice_index_or, if◌then◌else◌}
use Rattle.sift_base.specs.declared.slots.Layout.{Layout}
use Rattle.sift_base.specs.Layout.{slot_count}
use Rattle.sift_buffer.specs.Ranges.{Ranges}

-- the numbers of units, slots and frames under a layout
abbrev pub ranges_of : Layout → ℕ → Ranges
ranges_of layout frames = record { units = layout.units; slots = slot_count layout; frames = frames }

-- a frame, a slot and a unit are there
pub record IsEntry (r : Ranges) (f k q : ℕ) : Type 0 where
  pub frame : f < r.frames
  pub slot : k < r.slots
  pub unit : q < r.units

-- how many entries a list has
abbrev pub entry_count : Ranges → ℕ
entry_count r = r.frames * r.slots * r.units

-- which entry is that of a frame, slot and unit
abbrev pub entry_number : Ranges → ℕ → ℕ → ℕ → ℕ
entry_number r f k q = (f * r.slots + k) * r.units + q

-- the entry of a frame, slot and unit that are in range, and a default elsewhere
abbrev pub entry_at : {A : Type 0} → A → Ranges → List A → ℕ → ℕ → ℕ → A
entry_at none r xs f k q = if nat_lt f r.frames && nat_lt k r.slots && nat_lt q r.units then slice_index_or xs (entry_number r f k q) none else none
