use Rattle.sift_mission.proofs.Links.{AreLinked}
use Rattle.sift_mission.proofs.timetable.Agenda.of.Given as goal

-- the numbers from here on are linked
abbrev pub invariant-loop-i : goal.invariant-loop-i
invariant-loop-i l = AreLinked l.fn.count l.fn.times l.next l.first l.i
