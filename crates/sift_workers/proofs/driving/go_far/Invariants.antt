use Rattle.sift_workers.proofs.driving.go_far.Given as goal

-- what came of the pilot so far
abbrev pub invariant-loop : goal.invariant-loop
invariant-loop g l = record {
  drives : g.P.Pilot.drives l.pilot;
  comes : g.P.Pilot.comes l.fn.pilot l.pilot;
}
