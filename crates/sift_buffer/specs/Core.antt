-- The words that units share, the conduct of each unit, and the events that change them.
use Rattle.std.specs.Prelude.{◌≢◌, ℕ, ◌+◌, ◌<◌, List, [], ◌∷◌, slice_index, slice_set, replicate, Option}
use Rattle.sift_buffer.specs.Cell.{packed, taken, IsWord}
use Rattle.sift_buffer.specs.Ranges.{Ranges, shared_words, place}
use Rattle.sift_buffer.specs.Conduct.{Conduct, put, never, fresh, with_seen, with_said, with_heard, with_entered, with_turned, with_stray}
use Rattle.sift_buffer.specs.Conditions.{MaySay, MayHear, MayEnter, MayTurn, MayStray, PassesGate}

-- a core state: the shared words, progress numbers first and then cells, and each unit's conduct
pub record Core : Type 0 where
  pub words : List ℕ
  pub of : ℕ → Conduct

-- an event: one load or one store of one shared word, by one unit
pub data Event : Type 0 where
  -- the unit loads another's progress number
  look : ℕ → ℕ → Event
  -- the unit loads the cell of a sender to it: sender, slot, frame and stamp
  hear : ℕ → ℕ → ℕ → ℕ → ℕ → Event
  -- the unit stores its cell for a receiver: receiver, slot, frame, stamp and word
  say : ℕ → ℕ → ℕ → ℕ → ℕ → Option ℕ → Event
  -- the unit stores its progress number, raised by one
  enter : ℕ → Event
  -- the unit stores the progress number of a unit that has turned
  turn : ℕ → Event
  -- the unit stores any number in its cell for a receiver: receiver, slot and number
  stray : ℕ → ℕ → ℕ → ℕ → Event

-- whose event it is
abbrev pub doer : Event → ℕ
doer (look u p) = u
doer (hear u p k f s) = u
doer (say u q k f s w) = u
doer (enter u) = u
doer (turn u) = u
doer (stray u q k x) = u

-- nobody has done anything, and each shared word is 0
abbrev pub fresh_core : Ranges → Core
fresh_core r = record { words = replicate (shared_words r) 0; of = λ _. fresh }

-- the core with another conduct of one unit
abbrev pub with_conduct : Core → ℕ → Conduct → Core
with_conduct c u d = record c { of = put c.of u d }

-- the core with another number in one shared word and another conduct of one unit
abbrev pub with_word : Core → ℕ → ℕ → ℕ → Conduct → Core
with_word c i n u d = record { words = slice_set c.words i n; of = put c.of u d }

-- the core after an event
abbrev pub after : Ranges → Core → Event → Core
after r c (look u p) = with_conduct c u (with_seen (c.of u) p (slice_index c.words p))
after r c (hear u p k f s) = with_conduct c u (with_heard (c.of u) f k p s (taken (slice_index c.words (place r p u k)) s))
after r c (say u q k f s w) = with_word c (place r u q k) (packed s w) u (with_said (c.of u) f k q s w)
after r c (enter u) = with_word c u ((c.of u).progress + 1) u (with_entered (c.of u))
after r c (turn u) = with_word c u never u (with_turned (c.of u))
after r c (stray u q k x) = with_word c (place r u q k) x u (with_stray (c.of u) q k x)

-- what the unit of an event may do of itself
abbrev pub MayDo : Ranges → Core → Event → Type 0
MayDo r c (look u p) = (p < r.units) × (p ≢ u)
MayDo r c (hear u p k f s) = MayHear r (c.of u) u p k f s
MayDo r c (say u q k f s w) = MaySay r (c.of u) u q k f s × IsWord w
MayDo r c (enter u) = MayEnter (c.of u) × PassesGate r (c.of u) u
MayDo r c (turn u) = MayTurn (c.of u) × (0 < (c.of u).progress → PassesGate r (c.of u) u)
MayDo r c (stray u q k x) = MayStray r (c.of u) u q k

-- the event is one of a unit that is there, and this unit may do it
abbrev pub Allowed : Ranges → Core → Event → Type 0
Allowed r c e = (doer e < r.units) × MayDo r c e

-- the core after a list of events
abbrev pub after_all : Ranges → Core → List Event → Core
after_all r c [] = c
after_all r c (e ∷ es) = after_all r (after r c e) es

-- each event of the list is allowed when it comes
abbrev pub AllAllowed : Ranges → Core → List Event → Type 0
AllAllowed r c [] = Unit {0}
AllAllowed r c (e ∷ es) = Allowed r c e × AllAllowed r (after r c e) es
