-- Each allowed event keeps the core lawful.
use Rattle.std.proofs.Common.{arith, List, [], ◌∷◌}
use Rattle.std.proofs.lemmas.Grind.{common_steps}
use Rattle.sift_buffer.specs.Ranges.{Ranges}
use Rattle.sift_buffer.specs.Core.{Core, Event, look, hear, say, enter, turn, stray, after, Allowed, fresh_core, after_all, AllAllowed}
use Rattle.sift_buffer.specs.Lawful.{Lawful}
use Rattle.sift_buffer.proofs.Sound.{Sound, sound_of, lawful_of}
use Rattle.sift_buffer.proofs.Moves.{look_keeps, hear_keeps, enter_keeps, turn_keeps}
use Rattle.sift_buffer.proofs.Stores.{say_keeps, stray_keeps}

-- a core in which nobody has done anything is lawful
pub fresh_lawful : (r : Ranges) → Lawful r (fresh_core r)
fresh_lawful r = grind (arith, common_steps)

-- one event keeps the core sound
event_keeps : (r : Ranges) (c : Core) (e : Event) → Sound r c → Allowed r c e → Sound r (after r c e)
event_keeps r c (look u p) it may = look_keeps r c u it p may
event_keeps r c (hear u p k f s) it may = hear_keeps r c u it p k f s may
event_keeps r c (say u q k f s w) it may = say_keeps r c u it q k f s w may
event_keeps r c (enter u) it may = enter_keeps r c u it may
event_keeps r c (turn u) it may = turn_keeps r c u it may
event_keeps r c (stray u q k x) it may = stray_keeps r c u it q k x may

-- and so does a list of them
pub events_keep : (r : Ranges) (c : Core) (es : List Event) → Lawful r c → AllAllowed r c es → Lawful r (after_all r c es)
events_keep r c [] law may = law
events_keep r c (e ∷ es) law may = events_keep r (after r c e) es (lawful_of r (after r c e) (event_keeps r c e (sound_of r c law) may.0)) may.1
