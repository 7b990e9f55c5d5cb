-- What holds of the missions that are drawn.
use Rattle.std.specs.Prelude.{◌≡◌, ℕ, None}
use Rattle.sift_gen.specs.Scenario.{tree_of}
use Rattle.sift_scenario.specs.Mission.{IsMission}
use Rattle.sift_mission.specs.Data.{MissionData}
use Rattle.sift_script.specs.Faults.{storm_of}

-- the tree of every number states a mission
abbrev pub DrawnTreesAreMissions : Type 0
DrawnTreesAreMissions = (n : ℕ) → (mission : MissionData) × IsMission (tree_of n) mission

-- and no unit of it has a storm
abbrev pub DrawnMissionsHaveNoStorms : Type 0
DrawnMissionsHaveNoStorms = (n : ℕ) (mission : MissionData) (u : ℕ) → IsMission (tree_of n) mission → storm_of mission.script.faults u ≡ None
