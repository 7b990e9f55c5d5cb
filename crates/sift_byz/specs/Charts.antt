-- Charts of what all units heard or have as results, one for each length of path: a row for each path, and in it a place for
-- each unit. No public clause cites this module.
use Rattle.std.specs.Prelude.{◌≡◌, ℕ, zero, suc, ◌+◌, ◌*◌, ◌/◌, ◌%◌, ◌^◌, ◌<◌, ◌≤◌, List, [], ◌∷◌, length, get_or, map, reverse, Option, None, unwrap_or}
use Rattle.sift_byz.specs.Plan.{IsInRange, ByzPlanData, all_units, first_lie, heard}
use Rattle.sift_byz.specs.Relaying.{outside, result_of}

-- the path of so many units in a row among n units: the digits of the row to the base n, the lowest first
abbrev pub path_in : (n count row : ℕ) → List ℕ
path_in n zero row = []
path_in n (suc count) row = row % n ∷ path_in n count (row / n)

-- the chart shows this of each path of so many units and each unit
pub record Shows (n count : ℕ) (what : List ℕ → ℕ → Option ℕ) (chart : List (Option ℕ)) : Type 0 where
  pub long : length chart ≡ n ^ suc count
  pub each : (place : ℕ) → place < n ^ suc count → get_or chart place None ≡ what (path_in n count (place / n)) (place % n)

-- it shows what was heard
abbrev pub ShowsHeard : ByzPlanData → (count : ℕ) → List (Option ℕ) → Type 0
ShowsHeard plan count chart = Shows plan.units count (heard plan) chart

-- it shows the results, with so many rounds of relaying behind the paths
abbrev pub ShowsResults : ByzPlanData → (count rounds : ℕ) → List (Option ℕ) → Type 0
ShowsResults plan count rounds chart = Shows plan.units count (result_of (all_units plan) (heard plan) rounds) chart

-- the results of all units for the paths of one unit, from which vectors are made
pub record HasResults (plan : ByzPlanData) (chart : List (Option ℕ)) : Type 0 where
  pub in_range : IsInRange plan
  pub shown : ShowsResults plan 1 plan.m chart

-- what was heard by paths of so many units, and a chart with a place for each path of one unit more and each unit
pub record AreRelayed (plan : ByzPlanData) (count : ℕ) (heard longer : List (Option ℕ)) : Type 0 where
  pub short : count < 3
  pub shown : ShowsHeard plan count heard
  pub long : length longer ≡ plan.units ^ suc (suc count)

-- the unit has a place in the chart of the longer paths for the path of a row with each unit added
pub record HasRelays (plan : ByzPlanData) (longer : List (Option ℕ)) (row to : ℕ) : Type 0 where
  pub few : row ≤ 10000
  pub unit : to < plan.units
  pub each : (r : ℕ) → r < plan.units → (row * plan.units + r) * plan.units + to < length longer

-- a place of the next chart of what was heard: what a lie tells, or else what the path's last unit heard
abbrev pub heard_at : ByzPlanData → (count : ℕ) → (before : List (Option ℕ)) → (place : ℕ) → Option ℕ
heard_at plan count before place =
    unwrap_or (first_lie plan.lies (reverse (path_in plan.units (suc count) (place / plan.units))) (place % plan.units))
    (get_or before (place / plan.units) None)

-- the place of q for the path of a row with unit r added, in the chart of the longer paths
abbrev pub relay_at : ByzPlanData → (longer : List (Option ℕ)) → (row q r : ℕ) → Option ℕ
relay_at plan longer row q r = get_or longer ((row * plan.units + r) * plan.units + q) None

-- what a result is agreed from: what was heard, and the results for the longer paths
abbrev pub places_at : ByzPlanData → (count : ℕ) → (heard longer : List (Option ℕ)) → (place : ℕ) → List (Option ℕ)
places_at plan count heard longer place =
    get_or heard place None
    ∷ map (relay_at plan longer (place / plan.units) (place % plan.units))
    (outside (all_units plan) (place % plan.units ∷ path_in plan.units count (place / plan.units)))
