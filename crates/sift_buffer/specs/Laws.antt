-- What every order of events keeps.
use Rattle.std.specs.Prelude.{List}
use Rattle.sift_buffer.specs.Ranges.{Ranges}
use Rattle.sift_buffer.specs.Core.{Core, Event, fresh_core, after_all, AllAllowed}
use Rattle.sift_buffer.specs.Lawful.{Lawful}

-- a core in which nobody has done anything is lawful
abbrev pub FreshIsLawful : Type 0
FreshIsLawful = (r : Ranges) → Lawful r (fresh_core r)

-- every list of allowed events leads from a lawful core to a lawful one
abbrev pub EventsKeepLawful : Type 0
EventsKeepLawful = (r : Ranges) (c : Core) (events : List Event) → Lawful r c → AllAllowed r c events → Lawful r (after_all r c events)
