-- A source in memory that never fails.
use Rattle.std.specs.Prelude.{◌≡◌, ◌+◌, ℕ, List, Some, drop}
use Rattle.sift_io.specs.Flow.{Inflow}
use Rattle.sift_io.specs.Reading.{GivesMost, given_count, ends_after_read}
use Rattle.sift_io.specs.declared.memory.SureIn.{SureIn}
use Rattle.sift_io.specs.declared.flow.Got.{Got}

-- the bytes that weren't read yet
abbrev pub sure_left : SureIn → List ℕ
sure_left source = drop source.at source.bytes.items

-- it tells its bytes, has no faults, and counts its ends
abbrev pub sure_inflow : SureIn → Inflow
sure_inflow source = record { left = Some (sure_left source); faults = 0; ends = source.ends }

-- one more call: it gives as much as it may, moves past that, counts an end, and keeps the rest
pub record IsSureRead (got : Got) (old new : SureIn) (room : ℕ) : Type 0 where
  pub most : GivesMost got old.step room (sure_left old)
  pub at : new.at ≡ old.at + given_count got
  pub ends : new.ends ≡ ends_after_read got old.ends
  pub bytes : new.bytes.items ≡ old.bytes.items
  pub step : new.step ≡ old.step
