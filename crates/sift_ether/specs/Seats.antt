-- A unit at its seat, as a port.
use Rattle.std.specs.Prelude.{◌≡◌, ℕ, ◌+◌, List, ◌++◌, length, ⊤}
use Rattle.sift_buffer.specs.Conduct.{Stray}
use Rattle.sift_buffer.specs.Views.{View}
use Rattle.sift_ether.specs.declared.rule.Chronicle.{Chronicle}
use Rattle.sift_ether.specs.declared.rule.Deed.{Deed}
use Rattle.sift_ether.specs.declared.seat.EtherSeat.{EtherSeat}
use Rattle.sift_ether.specs.Deeds.{view_by, strays_by}
use Rattle.sift_ether.specs.TableSeats.{ranges_at, chronicle_of}

-- what the table knows of the unit
abbrev pub chronicle_at : EtherSeat → Chronicle
chronicle_at s = chronicle_of s.reach.seat.me

-- what contracts see of the seat: it is read off the chronicle, and not off the memory
abbrev pub view_of : EtherSeat → View
view_of s = view_by (ranges_at s.reach.words.now.key) (chronicle_at s)

-- the same unit at the same seat of the same table, which has done more, with these strays, the newest first
pub record Follows (a : EtherSeat) (strays : List Stray) (b : EtherSeat) : Type 0 where
  pub words : b.reach.words ≡ a.reach.words
  pub grid : b.grid ≡ a.grid
  pub unit : b.unit ≡ a.unit
  pub table : b.reach.seat.table_id ≡ a.reach.seat.table_id
  pub id : b.reach.seat.id ≡ a.reach.seat.id
  pub more : List Deed
  pub deeds : (chronicle_at b).deeds ≡ more ++ (chronicle_at a).deeds
  pub strays_are : strays_by (chronicle_at b) ≡ strays ++ strays_by (chronicle_at a)

-- the unit has done so many deeds more, each by one step
abbrev pub Makes : EtherSeat → ℕ → EtherSeat → Type 0
Makes a n b = length (chronicle_at b).deeds ≡ length (chronicle_at a).deeds + n

-- other threads store at any time, so a seat can't tell which number stands
abbrev pub Stands : EtherSeat → ℕ → ℕ → Type 0
Stands s u n = ⊤
