-- What fits makes a mission that boards and flights can stand on.
use Rattle.std.proofs.Common.{arith, pos}
use Rattle.std.proofs.lemmas.Int.{ints}
use Rattle.std.proofs.lemmas.List.FromFn.{length-range_with_len}
use Rattle.sift_base.specs.laws.Ranges.{range-ascends}
use Rattle.sift_table.specs.Laws.{SlotsAreHeardInTime, TasksRunAfterTheirNeeds, TasksHaveThreeExecutors}
use Rattle.sift_mission.specs.Data.{IsConfigOf, MissionData}
use Rattle.sift_mission.specs.Fits.{AreClocksNear}
use Rattle.sift_mission.specs.Flown.{flown}
use Rattle.sift_mission.specs.PartsFit.{PartsFit}
use Rattle.sift_mission.specs.Premises.{PartsMakeItFit}
use Rattle.sift_mission.proofs.FitSlots.{numbered}
use Rattle.sift_mission.proofs.FitTables.{executors, timed}
use Rattle.sift_mission.proofs.FitTasks.{counted, read}
use Rattle.sift_mission.proofs.Rows.{drift-low, start-low}

-- all units are a configuration
all_units : (d : MissionData) → PartsFit d → IsConfigOf (flown d) (flown d).units
all_units d fit = record {
  enough = (let enough = fit.limits.enough_units in omega (arith, length-range_with_len 0 d.units));
  ascending = range-ascends 0 d.units;
  inside = λ u there. there;
}

-- clocks start near 0, and change little
clocks_near : (d : MissionData) → PartsFit d → AreClocksNear (flown d)
clocks_near d fit =
    let skew = fit.clock.numbers.0 in let error = fit.clock.numbers.1 in let rate = fit.clock.numbers.2 in
    let kept = fit.clock.admitted.kept in let told = fit.clock.admitted.told in
    record {
      starts = λ u there. fit.clock.near u (pos 0) (start-low d fit u there);
      limit = omega (arith, ints);
      change = omega (arith, ints);
      drifts = λ u there. fit.clock.drifts_within u (pos 0) (drift-low d fit u there);
    }

-- the laws of tables make it fit
pub fits : SlotsAreHeardInTime → TasksRunAfterTheirNeeds → TasksHaveThreeExecutors → PartsMakeItFit
fits in_time after three d fit = record {
  numbered = numbered d fit;
  timed = timed d fit in_time;
  read = read d fit after;
  counted = counted d fit;
  executors = executors d fit three;
  config = all_units d fit;
  clocks = clocks_near d fit;
}
