-- What one read, or a whole one, does to a source. Bytes are named where the source tells them.
use Rattle.std.specs.Prelude.{◌≡◌, ◌≤◌, ◌+◌, ℕ, min, List, [], length, take, Option, ⊤}
use Rattle.std.specs.Io.KnownBytes.{Consumes, Keeps, IsAtEnd}
use Rattle.sift_io.specs.Flow.{Rose, next_count, Inflow}
use Rattle.sift_io.specs.declared.flow.Got.{Got}
use Rattle.sift_io.specs.declared.flow.Got.TheVariants.{Taken, End, Failed}
use Rattle.sift_io.specs.declared.whole.ReadStop.{ReadStop}
use Rattle.sift_io.specs.declared.whole.ReadStop.TheVariants.{Failed as Faulty, TooLong, NoMemory}

-- a read gives at least one byte, and no more than there is room for
abbrev pub FitsRoom : Got → ℕ → Type 0
FitsRoom (Taken n) room = (1 ≤ n) × (n ≤ room)
FitsRoom End room = ⊤
FitsRoom Failed room = ⊤

-- a read gives the next bytes, or ends where none is left, or fails and takes none
abbrev pub GivesNext : Got → Option (List ℕ) → Option (List ℕ) → List ℕ → Type 0
GivesNext (Taken n) old new buf = Consumes old new (take n buf)
GivesNext End old new buf = Keeps old new × IsAtEnd new
GivesNext Failed old new buf = Keeps old new

-- a read gives as many of the next bytes as its step and the room allow, and ends where none is left
abbrev pub GivesMost : Got → ℕ → ℕ → List ℕ → Type 0
GivesMost (Taken n) step room next = n ≡ min step (min room (length next))
GivesMost End step room next = next ≡ []
GivesMost Failed step room next = ⊤

-- how many bytes a read gave
abbrev pub given_count : Got → ℕ
given_count (Taken n) = n
given_count End = 0
given_count Failed = 0

-- the count of faults after a read
abbrev pub faults_after_read : Got → ℕ → ℕ
faults_after_read Failed faults = next_count faults
faults_after_read (Taken n) faults = faults
faults_after_read End faults = faults

-- how often the end was met, after a read
abbrev pub ends_after_read : Got → ℕ → ℕ
ends_after_read End ends = next_count ends
ends_after_read (Taken n) ends = ends
ends_after_read Failed ends = ends

-- some bytes were taken, exactly so many
abbrev pub TakesExactly : Inflow → Inflow → ℕ → Type 0
TakesExactly old new count = (bytes : List ℕ) × Consumes old.left new.left bytes × (length bytes ≡ count)

-- some bytes were taken, at most so many
abbrev pub TakesAtMost : Inflow → Inflow → ℕ → Type 0
TakesAtMost old new count = (bytes : List ℕ) × Consumes old.left new.left bytes × (length bytes ≤ count)

-- no fault was counted, and no end
abbrev pub CountsNothing : Inflow → Inflow → Type 0
CountsNothing old new = (new.faults ≡ old.faults) × (new.ends ≡ old.ends)

-- all that was left was taken, these bytes, at most so many; no read failed, and one met the end
abbrev pub TakesAll : Inflow → Inflow → List ℕ → ℕ → Type 0
TakesAll old new bytes limit =
    Consumes old.left new.left bytes × IsAtEnd new.left × (length bytes ≤ limit) × (new.faults ≡ old.faults) × (new.ends ≡ next_count old.ends)

-- a whole read that stops took the byte past the limit, or stopped before that one, at a fault or for want of memory; it met
-- no end, and where no fault stopped it no read failed
abbrev pub StopsReading : ReadStop → Inflow → Inflow → ℕ → Type 0
StopsReading TooLong old new limit = TakesExactly old new (limit + 1) × CountsNothing old new
StopsReading Faulty old new limit = Rose old.faults new.faults × TakesAtMost old new limit × (new.ends ≡ old.ends)
StopsReading NoMemory old new limit = TakesAtMost old new limit × CountsNothing old new
