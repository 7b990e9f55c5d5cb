-- What the texts show.
use Rattle.std.proofs.Common.{pos}
use Rattle.sift_byz.specs.Laws.{LoyalValuesAreKept, VectorsAreEqual}
use Rattle.sift_byz.specs.Lawful.{StatedByzPlansAreLawful}
use Rattle.sift_clocklab.specs.DrawnRuns.{DrawnRunsAreKept}
use Rattle.sift_clocklab.specs.Text.{MostIsWithinTheBound}
use Rattle.sift_lab_jobs.specs.Clocks.{lab_of, run_of}
use Rattle.sift_lab_jobs.specs.Shown.{NoSkewIsOverTheBound, StatedByzPlansAgree}

-- loyal units agree
pub agree : StatedByzPlansAreLawful → VectorsAreEqual → LoyalValuesAreKept → StatedByzPlansAgree
agree lawful equal kept document plan p q states below below' loyal loyal' =
    let few = (lawful document plan states).1 in
    (equal plan p q few below below' loyal loyal', kept plan q p few below' below loyal' loyal)

-- working clocks stay together
pub within : DrawnRunsAreKept → MostIsWithinTheBound → NoSkewIsOverTheBound
within kept most lab text in_range admitted told =
    most (lab_of lab) (run_of lab).offsets text
    (kept lab.n lab.m (pos lab.skew) (pos lab.error) (pos lab.rate) lab.rounds lab.number in_range admitted) told
