-- What is known while a read or write is heard.
use Rattle.std.proofs.Common.{◌≢◌, ◌<◌, ◌≤◌, ◌+◌, ◌-◌, ℕ, List, length, None, Some}
use Rattle.std.specs.declared.option.Option.{Option}
use Rattle.std.specs.Io.KnownBytes.{Keeps}
use Rattle.sift_io.specs.Heard.{most_calls}
use Rattle.sift_io.specs.Reading.{FitsRoom, GivesNext}
use Rattle.sift_io.specs.Writing.{AddsFront, FitsPiece}
use Rattle.sift_io.specs.declared.flow.Got.{Got}
use Rattle.sift_io.specs.declared.flow.Put.{Put}
use Rattle.sift_io.specs.declared.flow.Put.TheVariants.{Took}

-- how many more calls may be made, and one for the answer
abbrev pub left_to_hear : {T : Type 0} → Option T → (interruptions : ℕ) → ℕ
left_to_hear None interruptions = most_calls + 1 - interruptions
left_to_hear (Some told) interruptions = 0

-- each call was interrupted and took nothing, or this read is told
abbrev pub HasRead : Option Got → (interruptions : ℕ) → (old new : Option (List ℕ)) → List ℕ → Type 0
HasRead None interruptions old new buf = (interruptions ≤ most_calls) × Keeps old new
HasRead (Some got) interruptions old new buf = (interruptions < most_calls) × FitsRoom got (length buf) × GivesNext got old new buf

-- each call was interrupted and added nothing, or this write is told
abbrev pub HasWritten : Option Put → (interruptions : ℕ) → (old new : Option (List ℕ)) → List ℕ → Type 0
HasWritten None interruptions old new bytes = (interruptions ≤ most_calls) × Keeps old new
HasWritten (Some put) interruptions old new bytes =
    (interruptions < most_calls) × FitsPiece put (length bytes) × AddsFront put old new bytes × (0 < length bytes → put ≢ Took 0)
