-- What fits makes a mission that flights can stand on: its script and its clocks beside its tables.
use Rattle.std.proofs.Common.{◌≡◌, ℕ, [], Option, None, Some, option_map, inl, inr, refl, ap, ◌∙◌, arith, pos}
use Rattle.std.proofs.lemmas.Bool.{cases_lt, le-leb, le-ltb, lt-leb, lt-ltb}
use Rattle.sift_base.specs.laws.Ranges.{has-range}
use Rattle.sift_script.specs.Faults as faults
use Rattle.sift_script.specs.Laws.{FaultsAreForGood, OneUnitIsSteady, StormsComeInTheMission, WorkingUnitsHaveNotTurned, WorkingUnitsSayTheirWords}
use Rattle.sift_script.specs.declared.script.StormEntry.{StormEntry}
use Rattle.sift_table.specs.Laws.{WordsHaveTheirTask}
use Rattle.sift_mission.specs.Data.{MissionData}
use Rattle.sift_mission.specs.Flown.{flown}
use Rattle.sift_mission.specs.PartsFit.{PartsFit}
use Rattle.sift_mission.specs.Premises.{AreClocksSound, IsScriptSound, PartsMakeItFit, PartsMakeItFlyable}
use Rattle.sift_mission.specs.Slots.{StormsCome, turned_by}
use Rattle.sift_mission.proofs.FitTasks.{program-is}
use Rattle.sift_mission.proofs.Rows.{drift-low, error-low, errors-low, start-low}

-- a storm has come where its first frame has
turned-is : (storm : Option StormEntry) (f : ℕ) → turned_by (option_map (λ s. s.from) storm) f ≡ faults.has_come storm f
turned-is None f = refl
turned-is (Some storm) f = elim (cases_lt f storm.from) [
  | inl before ↦ rw (lt-ltb f storm.from before, lt-leb storm.from f before) refl
  | inr from ↦ rw (le-ltb f storm.from from, le-leb storm.from f from) refl
]

-- the first frame of a storm, and the storm
first-frame : (storm : Option StormEntry) (from : ℕ) → option_map (λ s. s.from) storm ≡ Some from → (s : StormEntry) × (storm ≡ Some s) × (s.from ≡ from)
first-frame None from is = absurd cc
first-frame (Some s) from is = (s, refl, cc)

-- each storm comes in a frame of the mission
pub storms-come : (d : MissionData) → PartsFit d → StormsComeInTheMission → StormsCome (flown d)
storms-come d fit come u from is =
    let t = first-frame (faults.storm_of d.script.faults u) from is in
    omega (arith, fit.script.frames, t.2, come d.script u t.0 fit.script.good t.1)

module _ (d : MissionData) (fit : PartsFit d) where
  -- the script is such as flights stand on
  scripted : OneUnitIsSteady → FaultsAreForGood → WorkingUnitsSayTheirWords → WorkingUnitsHaveNotTurned → IsScriptSound (flown d)
  scripted steady for_good own whole = record {
    steady = (
        let enough = fit.limits.enough_units in
        let units : d.script.layout.units ≡ d.units = ap (λ layout. layout.units) fit.script.layout ∙ fit.layout.units in
        let one = steady d.script fit.script.good (omega arith) in
        (one.0, has-range 0 d.units one.0 (omega arith) (omega (arith, one.1)), one.2));
    for_good = for_good d.script.faults;
    own_words = own d.script;
    whole = λ u f works. turned-is (faults.storm_of d.script.faults u) f ∙ whole d.script.faults u f works;
  }

  -- the clocks are such as flights stand on
  clocked : AreClocksSound (flown d)
  clocked = record {
    admitted = fit.clock.admitted;
    together = λ u v u_there v_there. fit.clock.together u (pos 0) (start-low d fit u u_there) v (pos 0) (start-low d fit v v_there);
    drifts = λ u there. fit.clock.drifts_within u (pos 0) (drift-low d fit u there);
    errors = λ u v u_there v_there. fit.clock.errors_within u [] (errors-low d fit u u_there) v (pos 0) (error-low d fit u u_there v v_there);
  }

-- the laws of scripts and words make it flyable
pub flyable : PartsMakeItFit → OneUnitIsSteady → FaultsAreForGood → WorkingUnitsSayTheirWords → WorkingUnitsHaveNotTurned → WordsHaveTheirTask → PartsMakeItFlyable
flyable fits steady for_good own whole theirs d fit =
    (record { fits = fits d fit; script = scripted d fit steady for_good own whole; clocks = clocked d fit }, program-is d fit theirs)
