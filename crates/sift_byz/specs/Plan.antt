-- Units with values, the lies of the traitors among them, and the vectors that the units make.
use Rattle.std.specs.Prelude.{◌≡◌, ℕ, ◌+◌, ◌*◌, ◌<◌, ◌≤◌, List, [], ◌∷◌, map, length, count_by, reverse, get_or, Bool, false, not, ◌&&◌, nat_eq, if◌then◌else◌, Option, Some, unwrap_or}
use Rattle.std.specs.List.{All, find, list_any, range_with_len}
use Rattle.std.specs.Option.{option_map}
use Rattle.std.specs.Str.{bytes_eq}
use Rattle.sift_base.specs.Units.{has}
use Rattle.sift_vote.specs.Majority.{agreed_of}
use Rattle.sift_byz.specs.declared.reading.ByzPlan.{ByzPlan}
use Rattle.sift_byz.specs.declared.reading.Lie.{Lie}
use Rattle.sift_byz.specs.Relaying.{Hearing, result_of}

-- ---- plans

-- the most units
abbrev pub most_units : ℕ
most_units = 10

-- the most traitors
abbrev pub most_traitors : ℕ
most_traitors = 2

-- a lie: the last unit of the path tells the receivers this word, or nothing, as what it heard by the path before it. The
-- path is written in the order in which its units spoke
pub record LieData : Type 0 where
  pub path : List ℕ
  pub to : List ℕ
  pub value : Option ℕ

-- so many units, each with its value, of which m at most may lie, and what is told in place of what was heard
pub record ByzPlanData : Type 0 where
  pub units : ℕ
  pub m : ℕ
  pub values : List ℕ
  pub lies : List LieData

-- the lie, and the plan, that the code holds
abbrev pub lie_of : Lie → LieData
lie_of lie = record { path = lie.path.items; to = lie.to.items; value = lie.value }

abbrev pub byz_plan_of : ByzPlan → ByzPlanData
byz_plan_of plan = record { units = plan.units; m = plan.m; values = plan.values.items; lies = map lie_of plan.lies.items }

-- its units, in ascending order
abbrev pub all_units : ByzPlanData → List ℕ
all_units plan = range_with_len 0 plan.units

-- a unit's own value
abbrev pub value_of : ByzPlanData → ℕ → ℕ
value_of plan u = get_or plan.values u 0

-- ---- traitors

-- the unit stands last in a path as it is written
abbrev pub stands_last : (u : ℕ) → (written : List ℕ) → Bool
stands_last u [] = false
stands_last u (v ∷ []) = nat_eq v u
stands_last u (v ∷ w ∷ rest) = stands_last u (w ∷ rest)

-- the unit stands last in the path of some lie: it tells it, and so is a traitor
abbrev pub tells_some : List LieData → ℕ → Bool
tells_some lies u = list_any (λ (lie : LieData). stands_last u lie.path) lies

-- how many units below a number tell some of these lies
abbrev pub teller_count : (units : ℕ) → List LieData → ℕ
teller_count units lies = count_by (tells_some lies) (range_with_len 0 units)

-- all other units are loyal
abbrev pub is_loyal : ByzPlanData → ℕ → Bool
is_loyal plan u = not (tells_some plan.lies u)

-- how many traitors there are
abbrev pub traitor_count : ByzPlanData → ℕ
traitor_count plan = teller_count plan.units plan.lies

-- ---- what is heard

-- what the first lie by the path that is written so tells q, if there is one
abbrev pub first_lie : List LieData → (written : List ℕ) → (q : ℕ) → Option (Option ℕ)
first_lie lies written q =
    option_map (λ (lie : LieData). lie.value) (find (λ (lie : LieData). bytes_eq lie.path written && has lie.to q) lies)

-- what q heard by a path: what the first lie tells, or else what the path's last unit heard by the path before it. On the
-- empty path a unit holds its own value
abbrev pub heard : ByzPlanData → Hearing
heard plan [] q = Some (value_of plan q)
heard plan (r ∷ path) q = unwrap_or (first_lie plan.lies (reverse (r ∷ path)) q) (heard plan path r)

-- ---- vectors

-- the entry of s in the vector of q: its own value where it is q, or else the agreed word of q's result for the path of s
abbrev pub entry : ByzPlanData → (q s : ℕ) → ℕ
entry plan q s =
    if nat_eq s q then value_of plan s
    else agreed_of (result_of (all_units plan) (heard plan) plan.m (s ∷ []) q ∷ [])

-- the vector of q: its entry of each unit
abbrev pub vector : ByzPlanData → (q : ℕ) → List ℕ
vector plan q = map (entry plan q) (all_units plan)

-- the vectors of all units
abbrev pub vectors_of : ByzPlanData → List (List ℕ)
vectors_of plan = map (vector plan) (all_units plan)

-- each of some vectors is as long as there are vectors
abbrev pub IsSquare : List (List ℕ) → Type 0
IsSquare vectors = All (λ vector. length vector ≡ length vectors) vectors

-- the entry of s in the vector of q, among some vectors
abbrev pub entry_in : List (List ℕ) → (q s : ℕ) → ℕ
entry_in vectors q s = get_or (get_or vectors q []) s 0

-- ---- conditions

-- the numbers are within their limits, and each unit has a value
pub record IsInRange (plan : ByzPlanData) : Type 0 where
  pub some : 0 < plan.units
  pub few : plan.units ≤ most_units
  pub traitors : plan.m ≤ most_traitors
  pub valued : length plan.values ≡ plan.units

-- at most m units lie, and there are more than three times as many units as m
pub record TraitorsAreFew (plan : ByzPlanData) : Type 0 where
  pub few : traitor_count plan ≤ plan.m
  pub enough : 3 * plan.m + 1 ≤ plan.units
