-- A sink in memory that fails at listed calls.
use Rattle.std.specs.Prelude.{◌≡◌, ℕ, Some, Contains}
use Rattle.sift_io.specs.Flow.{next_count, Outflow}
use Rattle.sift_io.specs.Writing.{TakesMost, faults_after_write}
use Rattle.sift_io.specs.declared.memory.BytesOut.{BytesOut}
use Rattle.sift_io.specs.declared.flow.Put.{Put}

-- it tells its bytes, and counts its faults
abbrev pub outflow_of : BytesOut → Outflow
outflow_of sink = record { written = Some sink.bytes.items; faults = sink.faults }

-- the latest call is one of those that fail
abbrev pub WriteFailsNow : BytesOut → Type 0
WriteFailsNow sink = Contains sink.fails.items sink.calls

-- one more call: it takes as much as it may, counts a failure, and keeps the rest
pub record IsWrite (put : Put) (old new : BytesOut) (count : ℕ) : Type 0 where
  pub most : TakesMost put old.step count
  pub calls : new.calls ≡ next_count old.calls
  pub faults : new.faults ≡ faults_after_write put old.faults
  pub step : new.step ≡ old.step
  pub fails : new.fails.items ≡ old.fails.items
