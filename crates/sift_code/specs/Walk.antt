-- What the check knows on arrival at a place. No public clause cites this module.
use Rattle.std.specs.Prelude.{◌≡◌, ℕ, ◌+◌, ◌≤◌, ◌==◌, true, ◌&&◌, List, [], ◌∷◌, length, Option, Some, None, slice_index, slice_index_or}
use Rattle.sift_code.specs.declared.instr.Instr.{Instr}
use Rattle.sift_code.specs.declared.instr.Instr.TheVariants.{Jump}
use Rattle.sift_code.specs.declared.nest.Brought.{Brought}
use Rattle.sift_code.specs.declared.nest.Walk.{Walk}
use Rattle.sift_code.specs.Enclosing.{enclosing}
use Rattle.sift_code.specs.Heights.{height_at, stack_through, trail_at, brought_to, Arrival}

-- one more height that was brought
abbrev pub joined : ℕ → Option Brought → Brought
joined height None = record { height = height; same = true }
joined height (Some b) = record { height = height; same = b.same && (b.height == height) }

-- the latest of the heights that were brought, and whether they are all the same; None where there is none
abbrev pub summary : List ℕ → Option Brought
summary [] = None
summary (height ∷ rest) = Some (joined height (summary rest))

-- the height behind an instruction, from what was brought there and the height after the instruction
abbrev pub behind : Instr → Option Brought → ℕ → ℕ
behind (Jump to) (Some b) after = b.height
behind i brought after = after

-- the table has a summary of what these arrivals bring to each place
pub record AreBrought (last : ℕ) (arrivals : List Arrival) (table : List (Option Brought)) : Type 0 where
  pub long : length table ≡ last + 1
  pub entries : (p : ℕ) → p ≤ last → slice_index_or table p None ≡ summary (brought_to p arrivals)

-- the walk has followed the heights up to a place
pub record IsAt (code : List Instr) (p : ℕ) (walk : Walk) : Type 0 where
  pub long : length walk.heights.items ≡ length code + 1
  pub heights : (q : ℕ) → q ≤ p → slice_index walk.heights.items q ≡ height_at code q
  pub brought : AreBrought (length code) (trail_at code p).brought walk.brought.items
  pub depth : walk.depth ≡ length (enclosing code p)
  pub stack : walk.stack ≡ stack_through code p
