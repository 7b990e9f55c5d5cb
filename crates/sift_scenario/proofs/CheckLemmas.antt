-- Tables that are checked one after another.
use Rattle.std.proofs.Common.{◌≡◌, ◌<◌, ℕ, List, length, get_or, map, take}
use Rattle.std.specs.List.{All}
use Rattle.sift_base.specs.declared.stop.Stop.{Stop}
use Rattle.sift_base.specs.declared.stop.Stop.TheVariants as stop
use Rattle.sift_base.specs.Shapes.{AllShapes}
use Rattle.sift_table.specs.Rules.{IsGood}
use Rattle.sift_table.specs.Schedule.{Schedule}
use Rattle.sift_document.specs.laws.Places.{holds_here}
use Rattle.sift_scenario.specs.Testing.{IsBadTable, RefusesTable}
use Rattle.sift_scenario.specs.declared.mission.Refused.{Refused}
use Rattle.sift_scenario.specs.declared.mission.Refused.TheVariants.{Scenario, Task, Table, Script}

-- the tables before a place are good, and the one there isn't
pub first_bad :
    {A : Type 0} (shown : A → Schedule) (tables : List A) (shapes : AllShapes) (i : ℕ) (table : A) → i < length tables → table ≡ get_or tables i table
    → All (λ schedule. IsGood schedule shapes) (take i (map shown tables)) → (e : Stop Refused) → IsBadTable (shown table) shapes e → RefusesTable (map shown tables) shapes e
first_bad shown tables shapes i table low is good (stop.Refused (Table size row rule)) bad = record {
  place = i;
  earlier = good;
  here = holds_here shown tables (λ at schedule. IsBadTable schedule shapes (stop.Refused (Table size row rule))) i table low is bad;
}
first_bad shown tables shapes i table low is good (stop.Refused (Scenario n place)) bad = absurd bad
first_bad shown tables shapes i table low is good (stop.Refused (Task t k at)) bad = absurd bad
first_bad shown tables shapes i table low is good (stop.Refused (Script entry n)) bad = absurd bad
first_bad shown tables shapes i table low is good stop.NoMemory bad = absurd bad
