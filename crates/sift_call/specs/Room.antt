-- A room in memory for a text.
use Rattle.std.specs.Prelude.{◌≡◌, ℕ, ◌∷◌, ◌++◌, List, Some, length, take}
use Rattle.sift_io.specs.Flow.{Outflow}
use Rattle.sift_call.specs.declared.room.RoomOut.{RoomOut}

-- the bytes that were written: those in the room, and then those beyond it
abbrev pub bytes_of : RoomOut → List ℕ
bytes_of sink = take sink.count sink.room.now ++ sink.beyond.now.items

-- what it tells: which room it is, as a number, and then the bytes that were written to it. A call that adds to what a sink tells, and
-- takes nothing away, so leaves it its room
abbrev pub outflow_of : RoomOut → Outflow
outflow_of sink = record { written = Some (sink.room.ghost_name ∷ bytes_of sink); faults = sink.faults }

-- the room begins with the text, or with as much of it as there is place for
abbrev pub BeginsWith : (room text : List ℕ) → Type 0
BeginsWith room text = take (length text) room ≡ take (length room) text
