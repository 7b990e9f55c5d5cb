-- A source in memory that fails at listed calls.
use Rattle.std.specs.Prelude.{◌≡◌, ◌+◌, ℕ, List, Some, drop, Contains}
use Rattle.sift_io.specs.Flow.{next_count, Inflow}
use Rattle.sift_io.specs.Reading.{GivesMost, given_count, faults_after_read, ends_after_read}
use Rattle.sift_io.specs.declared.memory.BytesIn.{BytesIn}
use Rattle.sift_io.specs.declared.flow.Got.{Got}

-- the bytes that weren't read yet
abbrev pub bytes_left : BytesIn → List ℕ
bytes_left source = drop source.at source.bytes.items

-- it tells its bytes, and counts its faults and its ends
abbrev pub inflow_of : BytesIn → Inflow
inflow_of source = record { left = Some (bytes_left source); faults = source.faults; ends = source.ends }

-- the latest call is one of those that fail
abbrev pub ReadFailsNow : BytesIn → Type 0
ReadFailsNow source = Contains source.fails.items source.calls

-- one more call: it gives as much as it may, moves past that, counts a failure or an end, and keeps the rest
pub record IsRead (got : Got) (old new : BytesIn) (room : ℕ) : Type 0 where
  pub most : GivesMost got old.step room (bytes_left old)
  pub at : new.at ≡ old.at + given_count got
  pub calls : new.calls ≡ next_count old.calls
  pub faults : new.faults ≡ faults_after_read got old.faults
  pub ends : new.ends ≡ ends_after_read got old.ends
  pub bytes : new.bytes.items ≡ old.bytes.items
  pub step : new.step ≡ old.step
  pub fails : new.fails.items ≡ old.fails.items
