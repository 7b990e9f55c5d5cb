use Rattle.sift_threads.proofs.Going.{seat_gone}
use Rattle.sift_threads.proofs.seating.MannedPilot.go.Goals as goal

pub returns-in-Moved-clause-comes : goal.returns-in-Moved-clause-comes
returns-in-Moved-clause-comes g c = seat_gone g.T.Look.follows g.R.Rogue.allows c.args.self.now c.go.new.self c.go.new.port c.go.new.rogue c.go.ensures.comes

pub returns-in-Waits-clause-comes : goal.returns-in-Waits-clause-comes
returns-in-Waits-clause-comes g c = seat_gone g.T.Look.follows g.R.Rogue.allows c.args.self.now c.go.new.self c.go.new.port c.go.new.rogue c.go.ensures.comes

pub returns-in-Strayed-clause-comes : goal.returns-in-Strayed-clause-comes
returns-in-Strayed-clause-comes g c = seat_gone g.T.Look.follows g.R.Rogue.allows c.args.self.now c.go.new.self c.go.new.port c.go.new.rogue c.go.ensures.comes

pub returns-in-Done-clause-comes : goal.returns-in-Done-clause-comes
returns-in-Done-clause-comes g c = seat_gone g.T.Look.follows g.R.Rogue.allows c.args.self.now c.go.new.self c.go.new.port c.go.new.rogue c.go.ensures.comes

-- no step is left
pub returns-in-Done-clause-home : goal.returns-in-Done-clause-home
returns-in-Done-clause-home g c = λ home. (c.go.ensures.manned, c.in-Done.ensures.done)
