-- What is tested of a list of the working units is tested of each unit that works.
use Rattle.std.proofs.Common.{◌≡◌, ℕ, List, Bool, true, sym, subst}
use Rattle.std.specs.Prelude.{◌↔◌}
use Rattle.std.specs.List.{All, filter}
use Rattle.sift_config.specs.Config.{first_units}
use Rattle.sift_mission.specs.Data.{MissionData}
use Rattle.sift_report.specs.Told.{IsWorking, works_in}
use Rattle.sift_judge.proofs.Lists.{all_passing, of_passing}

module _ (d : MissionData) (f : ℕ) (P : ℕ → Type 0) (units : List ℕ) (are : units ≡ filter (λ u. works_in d u f) (first_units d.units)) where
  -- what holds of all holds of each unit that works
  pub each_works : All P units → (u : ℕ) → IsWorking d u f → P u
  each_works all u w = of_passing (λ v. works_in d v f) P (first_units d.units) (subst (All P) are all) u w.unit w.works

  -- and the other way round
  pub all_work : ((u : ℕ) → IsWorking d u f → P u) → All P units
  all_work each = subst (All P) (sym are)
      (all_passing (λ v. works_in d v f) P (first_units d.units) (λ u there works. each u (record { unit = there; works = works })))

  -- so a test of all of them is one of each unit that works
  pub decides_each : (r : Bool) → ((r ≡ true) ↔ All P units) → (r ≡ true) ↔ ((u : ℕ) → IsWorking d u f → P u)
  decides_each r decides = ((λ t. each_works (decides.0 t)), (λ each. decides.1 (all_work each)))
