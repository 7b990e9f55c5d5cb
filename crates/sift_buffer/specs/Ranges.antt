-- How many units, slots and frames there are, and where the words that units share lie.
use Rattle.std.specs.Prelude.{◌≢◌, ℕ, ◌+◌, ◌*◌, ◌<◌}

-- the numbers of units, slots and frames, from 0 to one less
pub record Ranges : Type 0 where
  pub units : ℕ
  pub slots : ℕ
  pub frames : ℕ

-- the unit q is another than u, and the slot is one of the layout
pub record IsCell (r : Ranges) (u q k : ℕ) : Type 0 where
  pub unit : q < r.units
  pub other : q ≢ u
  pub slot : k < r.slots

-- a cell of u and q, and a frame
pub record IsPlace (r : Ranges) (u q k f : ℕ) : Type 0 where
  pub cell : IsCell r u q k
  pub frame : f < r.frames

-- how many words the units share: a progress number each, and a cell for each sender, receiver and slot
abbrev pub shared_words : Ranges → ℕ
shared_words r = r.units + r.units * r.units * r.slots

-- which of the shared words is the cell of p for q in slot k; the progress number of unit u is word u
abbrev pub place : Ranges → ℕ → ℕ → ℕ → ℕ
place r p q k = r.units + ((p * r.units + q) * r.slots + k)
