-- What a reader or writer of std answers to the calls of one read or write, and what is told of it.
use Rattle.std.specs.Prelude.{◌≡◌, ◌≢◌, ◌+◌, ◌<◌, ℕ, zero, suc, Option, Some, None, Result, Ok, Err, unwrap_or}
use Rattle.std.specs.IoError.{error_kind}
use Rattle.std.specs.declared.io.Error.{Error}
use Rattle.std.specs.declared.io.ErrorKind.TheVariants.{Interrupted}
use Rattle.sift_io.specs.declared.flow.Got.{Got}
use Rattle.sift_io.specs.declared.flow.Got.TheVariants as got
use Rattle.sift_io.specs.declared.flow.Put.{Put}
use Rattle.sift_io.specs.declared.flow.Put.TheVariants as put
use Rattle.sift_io.specs.declared.heard.Heard.{Heard}

-- ---- one answer

-- of an error this is told: nothing where a signal interrupted the call, and else a failure
abbrev pub IsToldOfError : {T : Type 0} → T → Error → Option T → Type 0
IsToldOfError failed error None = error_kind error ≡ Interrupted
IsToldOfError failed error (Some told) = (error_kind error ≢ Interrupted) × (told ≡ failed)

-- this is told of an answer to a read
abbrev pub IsToldOfRead : Result ℕ Error → Option Got → Type 0
IsToldOfRead (Ok zero) told = told ≡ Some got.End
IsToldOfRead (Ok (suc n)) told = told ≡ Some (got.Taken (suc n))
IsToldOfRead (Err error) told = IsToldOfError got.Failed error told

-- this is told of an answer to a write of so many bytes, of which a writer that takes none has failed
abbrev pub IsToldOfWrite : ℕ → Result ℕ Error → Option Put → Type 0
IsToldOfWrite (suc count) (Ok zero) told = told ≡ Some put.Failed
IsToldOfWrite count (Ok n) told = told ≡ Some (put.Took n)
IsToldOfWrite count (Err error) told = IsToldOfError put.Failed error told

-- ---- the answers of one read or write

-- how often a call is made where a signal interrupts it each time
abbrev pub most_calls : ℕ
most_calls = 1000

-- what was heard, and one answer more, of which this is told
abbrev pub heard_also : {T : Type 0} → Heard T → Option T → Heard T
heard_also heard None = record heard { interruptions = heard.interruptions + 1 }
heard_also heard (Some told) = record heard { told = Some told }

-- the call is made once more: each was interrupted so far, and it may be made again
abbrev pub IsOpen : {T : Type 0} → Heard T → Type 0
IsOpen heard = (heard.told ≡ None) × (heard.interruptions < most_calls)

-- enough was heard: of a call that wasn't interrupted, or of as many interruptions as may be
abbrev pub IsEnough : {T : Type 0} → Option T → (interruptions : ℕ) → Type 0
IsEnough None interruptions = interruptions ≡ most_calls
IsEnough (Some told) interruptions = interruptions < most_calls

-- a read or write that came to this has heard enough; it tells what is told of the answer, and where none came that it failed
pub record IsToldBy {T : Type 0} (failed : T) (heard : Heard T) (result : T) : Type 0 where
  pub enough : IsEnough heard.told heard.interruptions
  pub told : result ≡ unwrap_or heard.told failed
