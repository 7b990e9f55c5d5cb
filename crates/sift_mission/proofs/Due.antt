-- Between two slots of which nothing is due in a subframe there is no stop.
use Rattle.std.proofs.Common.{◌≡◌, ◌≢◌, ℕ, ◌<◌, ◌≤◌, List, ap, ◌∙◌, arith}
use Rattle.sift_mission.specs.Data.{FlownMission}
use Rattle.sift_mission.specs.Fits.{Fits}
use Rattle.sift_mission.specs.laws.Tasks.{few_tasks}
use Rattle.sift_mission.specs.Stops.{spot, IsNothingBetween, hearing, running, saying}

module _ (m : FlownMission) (fit : Fits m) (us : List ℕ) (subframe from to : ℕ) (most : to ≤ m.slots) where
  -- where none of the slots is heard
  pub none_heard : ((i : ℕ) → from ≤ i → i < to → m.heard_in us (m.kind i) ≢ subframe) → IsNothingBetween m us (spot subframe 0 from 0) (spot subframe 0 to 0)
  none_heard passed place (hearing k slot at) low high =
      let few = fit.numbered.few in let number = fit.numbered.low k slot in
      passed (m.number k) (omega arith) (omega arith)
      (ap (λ j. m.heard_in us j) (fit.numbered.back k slot) ∙ (let e : m.heard_in us k ≡ subframe = omega arith in e))
  none_heard passed place (running t there at) low high = let few = fit.numbered.few in let tasks = few_tasks m fit in omega arith
  none_heard passed place (saying k slot at) low high = let few = fit.numbered.few in let number = fit.numbered.low k slot in omega arith

  -- where none of them is said
  pub none_said : ((i : ℕ) → from ≤ i → i < to → m.due us (m.kind i) ≢ subframe) → IsNothingBetween m us (spot subframe 2 from 0) (spot subframe 2 to 0)
  none_said passed place (saying k slot at) low high =
      let few = fit.numbered.few in let number = fit.numbered.low k slot in
      passed (m.number k) (omega arith) (omega arith)
      (ap (λ j. m.due us j) (fit.numbered.back k slot) ∙ (let e : m.due us k ≡ subframe = omega arith in e))
  none_said passed place (running t there at) low high = let few = fit.numbered.few in let tasks = few_tasks m fit in omega arith
  none_said passed place (hearing k slot at) low high = let few = fit.numbered.few in let number = fit.numbered.low k slot in omega arith

  -- where none of the tasks is run
  pub none_run : ((t : ℕ) → t < m.tasks → from ≤ t → t < to → m.run_in us t ≢ subframe) → IsNothingBetween m us (spot subframe 1 from 0) (spot subframe 1 to 0)
  none_run passed place (running t there at) low high =
      let few = fit.numbered.few in let tasks = few_tasks m fit in
      passed t there (omega arith) (omega arith) (omega arith)
  none_run passed place (saying k slot at) low high = let few = fit.numbered.few in let number = fit.numbered.low k slot in omega arith
  none_run passed place (hearing k slot at) low high = let few = fit.numbered.few in let number = fit.numbered.low k slot in omega arith
