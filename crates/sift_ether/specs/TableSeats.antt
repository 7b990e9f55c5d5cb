-- A seat at the table that stands for one unit, and what its steps add.
use Rattle.std.specs.Prelude.{◌≡◌, ◌<◌, ℕ, List, [], ◌∷◌}
use Rattle.atomic_table.specs.Table.{Me}
use Rattle.atomic_table.specs.Seated.{TableId}
use Rattle.sift_buffer.specs.Ranges.{Ranges, shared_words}
use Rattle.sift_buffer.specs.Tables.{ranges_of}
use Rattle.sift_buffer.specs.declared.grid.Grid.{Grid}
use Rattle.sift_ether.specs.declared.rule.Chronicle.{Chronicle}
use Rattle.sift_ether.specs.declared.rule.Deed.{Deed}
use Rattle.sift_ether.specs.Deeds.{blank, chronicle_with}

-- how many units, slots and frames a grid has
abbrev pub ranges_at : Grid → Ranges
ranges_at grid = ranges_of grid.layout grid.frames

-- the first of some chronicles
abbrev pub first_chronicle : List Chronicle → Chronicle
first_chronicle [] = blank 0
first_chronicle (c ∷ cs) = c

-- the first, as a list
abbrev pub first_of : List Chronicle → List Chronicle
first_of [] = []
first_of (c ∷ cs) = c ∷ []

-- the others
abbrev pub rest_of : List Chronicle → List Chronicle
rest_of [] = []
rest_of (c ∷ cs) = cs

module _ {S : Type 0} where
  -- the chronicle of a seat that stands for one unit
  abbrev pub chronicle_of : Me S (List Chronicle) → Chronicle
  chronicle_of me = first_chronicle me.0

  -- a seat that stood for one unit does so still, and its chronicle has the deed more that the step's number gives, at some place
  abbrev pub AddsDeed : (ℕ → Deed) → Me S (List Chronicle) → ℕ → Me S (List Chronicle) → Type 0
  AddsDeed deed me n me' = (c : Chronicle) → me ≡ (c ∷ [], []) → (place : ℕ) × (me' ≡ (chronicle_with c place (deed n) ∷ [], []))

-- a seat is of this table, which has a word for each shared word of the grid
pub record IsAtTable (table : TableId) (grid : Grid) (seat : TableId) : Type 0 where
  pub same : seat ≡ table
  pub wide : table.words ≡ shared_words (ranges_at grid)

-- a seat stands for one unit, which is there
pub record IsOne (r : Ranges) (me : Me ℕ (List Chronicle)) : Type 0 where
  pub sits : me ≡ (chronicle_of me ∷ [], [])
  pub here : (chronicle_of me).unit < r.units

-- a seat that stood for one unit stands for it still, and the unit has done this deed more
pub record HasDone (me : Me ℕ (List Chronicle)) (e : Deed) (me' : Me ℕ (List Chronicle)) : Type 0 where
  pub sits : me' ≡ (chronicle_of me' ∷ [], [])
  pub unit : (chronicle_of me').unit ≡ (chronicle_of me).unit
  pub deeds : (chronicle_of me').deeds ≡ e ∷ (chronicle_of me).deeds
