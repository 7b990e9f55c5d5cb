use Rattle.std.proofs.Common.{◌≡◌, length}
use Rattle.sift_parse.specs.Force.{without_minuses}
use Rattle.sift_parse.specs.Held.{force_of}
use Rattle.sift_parse.proofs.force.Force.end_prim.Given as goal

-- only minuses were taken
abbrev pub invariant-loop-self : goal.invariant-loop-self
invariant-loop-self l =
    record (force_of l.self) { levels = without_minuses (force_of l.self).levels } ≡ record
    (force_of l.initial.self) { levels = without_minuses (force_of l.initial.self).levels }

abbrev pub decreases-loop-self : goal.decreases-loop-self
decreases-loop-self l = length l.self.levels.items
