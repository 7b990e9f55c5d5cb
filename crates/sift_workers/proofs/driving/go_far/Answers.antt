use Rattle.sift_workers.proofs.driving.go_far.Goals.{else-loop-test, then-loop-test+then-ne-2}
use Rattle.sift_workers.proofs.driving.go_far.Goals as goal

pub loop-init : goal.loop-init
loop-init g c = record { drives = c.go-first.ensures.drives; comes = c.go-first.ensures.comes }

-- one step more
pub loop-preserved : goal.loop-preserved
loop-preserved g c = record {
  drives = c.go.ensures.drives;
  comes = g.met.P.Pilot.comes_on _ _ _ c.loop.invariant.comes c.go.ensures.comes;
}

pub returns-clause-drives : goal.returns-clause-drives
returns-clause-drives g c = elim c.loop-test.branch [
  | else-loop-test w ↦ rw w.pilot-is c.loop.invariant.drives
  | then-loop-test+then-ne-2 w ↦ rw w.pilot-is w.go.ensures.drives
]

pub returns-clause-comes : goal.returns-clause-comes
returns-clause-comes g c = elim c.loop-test.branch [
  | else-loop-test w ↦ rw w.pilot-is c.loop.invariant.comes
  | then-loop-test+then-ne-2 w ↦ rw w.pilot-is (g.met.P.Pilot.comes_on _ _ _ c.loop.invariant.comes w.go.ensures.comes)
]
