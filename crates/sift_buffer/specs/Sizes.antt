-- That the lists of a journal and of a ledger have an entry for each frame, slot and unit.
use Rattle.std.specs.Prelude.{◌≡◌, ℕ, ◌<◌, length}
use Rattle.sift_base.specs.declared.slots.Layout.{Layout}
use Rattle.sift_base.specs.Units.{unit_limit}
use Rattle.sift_buffer.specs.Tables.{ranges_of, entry_count}
use Rattle.sift_buffer.specs.Journals.{Pages, ranges_in}
use Rattle.sift_buffer.specs.Lawful.{HasStage}
use Rattle.sift_buffer.specs.Ledgers.{Ledger, HasItsWords, conduct_in}

-- the unit is one of the layout's, and each list has all its entries
pub record IsSized (j : Pages) : Type 0 where
  pub unit : j.unit < j.layout.units
  pub said : length j.said ≡ entry_count (ranges_in j)
  pub heard : length j.heard ≡ entry_count (ranges_in j)

-- the lists of a ledger have all their entries, its journal is of this layout and these frames and has its words, and its unit flies or has
-- turned
pub record IsFull (l : Ledger) (layout : Layout) (frames : ℕ) : Type 0 where
  pub layout_is : l.pages.layout ≡ layout
  pub frames_are : l.pages.frames ≡ frames
  pub said : length l.said ≡ entry_count (ranges_of layout frames)
  pub asked : length l.asked ≡ entry_count (ranges_of layout frames)
  pub heard_at : length l.heard_at ≡ entry_count (ranges_of layout frames)
  pub seen : length l.seen ≡ unit_limit
  pub stage : HasStage (conduct_in l)
  pub words : HasItsWords l
