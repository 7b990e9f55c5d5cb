-- What one write, or a whole one, does to a sink. Bytes are named where the sink tells them.
use Rattle.std.specs.Prelude.{◌≡◌, ◌<◌, ◌≤◌, ℕ, min, List, length, take, Option, Result, Ok, Err, ⊤}
use Rattle.std.specs.Io.KnownBytes.{Appends, Keeps}
use Rattle.sift_io.specs.Flow.{next_count, Outflow}
use Rattle.sift_io.specs.declared.flow.Put.{Put}
use Rattle.sift_io.specs.declared.flow.Put.TheVariants.{Took, Failed}
use Rattle.sift_io.specs.declared.whole.WriteStop.{WriteStop}

-- a write takes no more bytes than there are
abbrev pub FitsPiece : Put → ℕ → Type 0
FitsPiece (Took n) count = n ≤ count
FitsPiece Failed count = ⊤

-- a write adds the first bytes, or fails and adds none
abbrev pub AddsFront : Put → Option (List ℕ) → Option (List ℕ) → List ℕ → Type 0
AddsFront (Took n) old new piece = Appends old new (take n piece)
AddsFront Failed old new piece = Keeps old new

-- the sink failed, or took none of a piece of so many bytes, though there were some
abbrev pub TakesNothing : Put → ℕ → Type 0
TakesNothing (Took n) count = (n ≡ 0) × (0 < count)
TakesNothing Failed count = ⊤

-- a write takes as many of the bytes as its step allows
abbrev pub TakesMost : Put → ℕ → ℕ → Type 0
TakesMost (Took n) step count = n ≡ min step count
TakesMost Failed step count = ⊤

-- the count of faults after a write
abbrev pub faults_after_write : Put → ℕ → ℕ
faults_after_write Failed faults = next_count faults
faults_after_write (Took n) faults = faults

-- a prefix of the bytes was added
abbrev pub AddsPrefix : Outflow → Outflow → List ℕ → Type 0
AddsPrefix old new bytes = (n : ℕ) × (n ≤ length bytes) × Appends old.written new.written (take n bytes)

-- a whole write adds all the bytes, or stops after a prefix of them
abbrev pub WritesAll : Result Unit WriteStop → Outflow → Outflow → List ℕ → Type 0
WritesAll (Ok _) old new bytes = Appends old.written new.written bytes
WritesAll (Err _) old new bytes = AddsPrefix old new bytes
