-- A mission's rows: each unit has its clock's figures, and each sensor its words.
use Rattle.std.proofs.Common.{◌≡◌, ℕ, ◌<◌, [], length, map, get_or, true, sym, ap, ◌∙◌, arith, Vec, ℤ}
use Rattle.arrayvec.specs.ArrayVec.{ArrayVec}
use Rattle.std.specs.declared.alloc.Global.{Global}
use Rattle.std.proofs.lemmas.List.{get_or_default, length-map}
use Rattle.sift_base.specs.Units.{has}
use Rattle.sift_base.specs.laws.Ranges.{range-has}
use Rattle.sift_config.specs.Config.{first_units}
use Rattle.sift_mission.specs.Data.{MissionData}
use Rattle.sift_mission.specs.Parts.{data_of}
use Rattle.sift_mission.specs.PartsFit.{HasWords, PartsFit}
use Rattle.sift_mission.specs.declared.mission.MissionParts.{MissionParts}
use Rattle.sift_mission.specs.laws.ByWords.{get_or-map_default}

module _ (d : MissionData) (fit : PartsFit d) (u : ℕ) (there : has (first_units d.units) u ≡ true) where
  -- a unit is one of those that there are
  pub unit-below : u < d.units
  unit-below = omega (arith, (range-has 0 d.units u there).1)

  -- it has an offset at the start
  pub start-low : u < length d.clock.start
  start-low = let low = unit-below in let many = fit.clock.starts in omega arith

  -- and a drift
  pub drift-low : u < length d.clock.drift
  drift-low = let low = unit-below in let many = fit.clock.drifts in omega arith

  -- and a row of errors
  pub errors-low : u < length d.clock.errors
  errors-low = let low = unit-below in let many = fit.clock.rows in omega arith

  -- which has an error for each unit
  pub error-low : (p : ℕ) → has (first_units d.units) p ≡ true → p < length (get_or d.clock.errors u [])
  error-low p p_there = let many = fit.clock.columns u [] errors-low in omega (arith, (range-has 0 d.units p p_there).1)

module _ (parts : MissionParts) (fit : PartsFit (data_of parts)) (x : ℕ) (low : x < parts.layout.sensors) where
  -- a sensor has a place among the rows of words
  pub sensor-low : x < length parts.sensors.items
  sensor-low = let many = fit.layout.sensors in omega (arith, length-map parts.sensors.items (λ words. words.items))

  -- there is a word in its row
  pub words-there : (row : Vec ℕ Global) → row ≡ get_or parts.sensors.items x row → 0 < length row.items
  words-there row is =
      let rows = map (λ (words : Vec ℕ Global). words.items) parts.sensors.items in
      let has_words : HasWords (get_or rows x row.items) = fit.sensors x row.items (omega (arith, sensor-low, length-map parts.sensors.items (λ words. words.items))) in
      let same : get_or rows x row.items ≡ row.items =
      get_or-map_default (λ (words : Vec ℕ Global). words.items) parts.sensors.items x row ∙ ap (λ (words : Vec ℕ Global). words.items) (sym is) in
      omega (arith, has_words.0, ap length same)

-- the row of errors of a unit
pub errors-row : (parts : MissionParts) (fit : PartsFit (data_of parts)) (u : ℕ) (low : u < length (data_of parts).clock.errors) (row : ArrayVec ℤ)
    → row ≡ get_or parts.clock.errors.items u row → get_or (data_of parts).clock.errors u [] ≡ row.items
errors-row parts fit u low row is =
    let rows = (data_of parts).clock.errors in
    get_or_default rows u [] row.items low
    ∙ (get_or-map_default (λ (r : ArrayVec ℤ). r.items) parts.clock.errors.items u row ∙ ap (λ (r : ArrayVec ℤ). r.items) (sym is))

-- it stands among the rows of the parts
pub errors-place : (parts : MissionParts) (fit : PartsFit (data_of parts)) (u : ℕ) → has (first_units (data_of parts).units) u ≡ true → u < length parts.clock.errors.items
errors-place parts fit u there = omega (arith, errors-low (data_of parts) fit u there, length-map parts.clock.errors.items (λ r. r.items))
