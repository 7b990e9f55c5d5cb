-- The margin of one frame more, and what a frame with margin has: a lead unit that tells agreed words.
use Rattle.std.proofs.Common.{◌≡◌, ℕ, ◌+◌, ◌<◌, List, [], ◌∷◌, length, Bool, true, Option, None, Some, unwrap_or, if◌then◌else◌, inl, inr}
use Rattle.std.proofs.Common.{sym, ap, ◌∙◌, subst, arith, lt-ltb}
use Rattle.std.specs.Prelude.{IsSomeAnd}
use Rattle.std.specs.List.{find}
use Rattle.std.proofs.lemmas.Bool.{cases_Bool, cases_lt}
use Rattle.sift_base.specs.Units.{has}
use Rattle.sift_base.specs.laws.Counts.{has-head, has-tail}
use Rattle.sift_base.specs.laws.Ranges.{range-low}
use Rattle.sift_config.specs.Config.{first_units}
use Rattle.sift_mission.specs.Data.{MissionData}
use Rattle.sift_mission.specs.PartsFit.{PartsFit}
use Rattle.sift_line.specs.declared.line.ReportLine.{ReportLine}
use Rattle.sift_line.specs.declared.line.ReportLine.TheVariants.{Unit as unit, Faulty, Idle, Frame, Last}
use Rattle.sift_report.specs.Headline.{HasForm, IsUnitsLine}
use Rattle.sift_report.specs.Told.{HadMarginTold, HasMarginTold, IsSoundTold, agreed_told, line_at, told_at, told_in, lead_in, works_in}

-- ---- one frame more

module _ (d : MissionData) (lines : List ReportLine) (f : ℕ) where
  -- a frame has margin where each before it had, and its own configuration is sound
  pub margin_more : HadMarginTold d lines f → IsSoundTold d lines f → HasMarginTold d lines f
  margin_more had here g low = elim (cases_lt g f) [
    | inl less ↦ had g less
    | inr more ↦ let last : f ≡ g = omega (arith, low, more) in subst (IsSoundTold d lines) last here
  ]

  -- where a frame has margin, each frame before it had
  pub had_margin : HasMarginTold d lines f → HadMarginTold d lines f
  had_margin has g low = has g (omega (arith, low))

  -- where a frame has margin, its own configuration is sound
  pub is_sound : HasMarginTold d lines f → IsSoundTold d lines f
  is_sound has = has f (omega arith)

  -- then each frame before the next had it
  pub margin_after : HasMarginTold d lines f → HadMarginTold d lines (f + 1)
  margin_after has g low = has g (omega (arith, low))

  -- where each frame before the next had margin, this frame has it
  pub margin_until : HadMarginTold d lines (f + 1) → HasMarginTold d lines f
  margin_until had g low = had g (omega (arith, low))

-- before frame 0 none is missing
pub margin_at_first : (d : MissionData) (lines : List ReportLine) → HadMarginTold d lines 0
margin_at_first d lines g low = absurd (omega (arith, low))

-- ---- the lead unit

-- a unit that is found in a list of low numbers is low
found_low : (passes : ℕ → Bool) (us : List ℕ) (n : ℕ) → 0 < n → ((u : ℕ) → has us u ≡ true → u < n) → unwrap_or (find passes us) 0 < n
found_low passes [] n some inside = some
found_low passes (v ∷ us) n some inside = elim (cases_Bool (passes v)) [
  | inl t ↦ rw t (inside v (has-head v us))
  | inr f ↦ rw f (found_low passes us n some (λ u there. inside u (has-tail v us u there)))
]

pub lead_low : (d : MissionData) (f : ℕ) → PartsFit d → lead_in d f < d.units
lead_low d f fit = found_low (λ u. works_in d u f) (first_units d.units) d.units (let enough = fit.limits.enough_units in omega (arith, enough))
    (λ u there. (let low = range-low 0 d.units u there in omega (arith, low)))

-- a unit's line that tells a configuration tells a word for each sensor
inputs_length : (d : MissionData) (f u : ℕ) (us : List ℕ) (line : Option ReportLine) → IsSomeAnd line (IsUnitsLine d f u) → (told_in line).config ≡ Some us →
    length (told_in line).inputs ≡ d.layout.sensors
inputs_length d f u us None is told = absurd is
inputs_length d f u us (Some (unit g v cfg clk ins outs bad)) is told = is.5
inputs_length d f u us (Some (Faulty g v)) is told = absurd cc
inputs_length d f u us (Some (Idle g v)) is told = absurd cc
inputs_length d f u us (Some (Frame g skew slack margin)) is told = absurd is
inputs_length d f u us (Some (Last frames cfg margin)) is told = absurd is

-- so do the agreed words of a frame with margin
pub agreed_length : (d : MissionData) (lines : List ReportLine) (f : ℕ) → PartsFit d → f < d.frames → HasForm d lines f → HasMarginTold d lines f →
    length (agreed_told d lines f) ≡ d.layout.sensors
agreed_length d lines f fit within form has =
    let sound = is_sound d lines f has in
    let lead = lead_in d f in
    let told : (told_at d lines f lead).config ≡ Some sound.0 =
    sym (ap (λ b. (told_at d lines f (if b then lead else 0)).config) (lt-ltb f d.frames within)) ∙ sound.1 in
    inputs_length d f lead sound.0 (line_at d lines f lead) (form.units lead (lead_low d f fit)) told
