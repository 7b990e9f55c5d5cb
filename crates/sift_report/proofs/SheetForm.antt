-- The sheet of a round flight has the form of a report.
use Rattle.std.proofs.Common.{◌≡◌, ℕ, ◌<◌, true, false, if◌then◌else◌, inl, inr, refl, sym, ap, ◌∙◌, subst, arith}
use Rattle.std.specs.Prelude.{IsSomeAnd}
use Rattle.std.proofs.lemmas.Bool.{cases_Bool}
use Rattle.sift_base.specs.Units.{has, holds}
use Rattle.sift_base.specs.laws.Ranges.{has-range, range-low}
use Rattle.sift_exec.specs.Conviction.{everyone_in}
use Rattle.sift_exec.specs.declared.catches.Catches.{Catches}
use Rattle.sift_line.specs.Bad.{bad_in, units_in}
use Rattle.sift_mission.specs.Data.{MissionData}
use Rattle.sift_mission.specs.Flown.{flown}
use Rattle.sift_line.specs.declared.line.Version.{Version}
use Rattle.sift_line.specs.declared.line.Version.TheVariants.{One, Two}
use Rattle.sift_line.specs.declared.line.ReportLine.TheVariants.{Faulty, Idle}
use Rattle.sift_flight.specs.Figures.{Works}
use Rattle.sift_flight.specs.Flight.{Flight}
use Rattle.sift_flight.specs.Told.{IsAccountOf}
use Rattle.sift_report.specs.Headline.{HasForm, IsUnitsLine}
use Rattle.sift_report.specs.Sheet.{sheet_of, unit_line, working_line}
use Rattle.sift_report.specs.Told.{IsWorking}
use Rattle.sift_report.proofs.RoundFlights.{HasLaws}
use Rattle.sift_report.proofs.SheetPlaces.{end_at, frame_at, length-sheet, unit_at}
use Rattle.sift_report.proofs.Tells.{account_line}

-- both versions name the same units
pub units_told : (version : Version) (caught : Catches) → units_in (bad_in version caught) ≡ everyone_in caught
units_told One caught = refl
units_told Two caught = refl

-- who works by the mission's data works in flights
pub works_flying : (d : MissionData) (u f : ℕ) → IsWorking d u f → Works (flown d) u f
works_flying d u f w = record { unit = w.unit; works = w.works }

-- ---- the line of a unit

module _ (d : MissionData) (fl : Flight) (version : Version) (f u : ℕ) where
  pub line_of_faulty : (flown d).works u f ≡ false → unit_line (flown d) fl version f u ≡ Faulty f u
  line_of_faulty faulty = ap (λ b. if b then working_line version f u (fl.account u f) else Faulty f u) faulty

  pub line_of_working : (flown d).works u f ≡ true → unit_line (flown d) fl version f u ≡ working_line version f u (fl.account u f)
  line_of_working works = ap (λ b. if b then working_line version f u (fl.account u f) else Faulty f u) works

  pub line_of_idle : (flown d).works u f ≡ true → has (fl.account u f).cfg u ≡ false → unit_line (flown d) fl version f u ≡ Idle f u
  line_of_idle works outside = line_of_working works ∙ ap (λ b. if b then account_line version f u (fl.account u f) else Idle f u) outside

  -- the line of a unit that works in its own configuration tells its account
  pub line_of_member : (flown d).works u f ≡ true → has (fl.account u f).cfg u ≡ true →
      unit_line (flown d) fl version f u ≡ account_line version f u (fl.account u f)
  line_of_member works member = line_of_working works ∙ ap (λ b. if b then account_line version f u (fl.account u f) else Idle f u) member

-- ---- its form

module _ (d : MissionData) (fl : Flight) (version : Version) (laws : HasLaws d fl) where
  -- the account of a working unit
  pub account_is : (u f : ℕ) → f < d.frames → Works (flown d) u f → IsAccountOf (flown d) u (fl.account u f)
  account_is u f within w = laws.accounts.each u f w.unit within (laws.flyable.script.whole u f w.works)

  -- the units of its configuration have numbers below the mission's count
  below : (u f : ℕ) → f < d.frames → Works (flown d) u f → (v : ℕ) → has (fl.account u f).cfg v ≡ true → v < d.units
  below u f within w v there = let x = range-low 0 d.units v ((account_is u f within w).config.inside v there) in omega (arith, x)

  -- the line of a unit in a frame is one of that unit
  member_line : (f u : ℕ) → f < d.frames → Works (flown d) u f → has (fl.account u f).cfg u ≡ true
      → IsUnitsLine d f u (account_line version f u (fl.account u f))
  member_line f u within w member =
      let account = account_is u f within w in
      let busy : (fl.account u f).idle ≡ false =
      elim (cases_Bool (fl.account u f).idle) [ inl idle ↦ (let outside = account.idle.0 idle in absurd cc) | inr busy ↦ busy ] in (
        refl,
        refl,
        w.works,
        below u f within w,
        (λ v caught. below u f within w v (account.caught_inside v (sym (ap (λ units. holds units v) (units_told version (fl.account u f).bad)) ∙ caught))),
        account.inputs busy,
        account.outputs busy,
      )

  units_line : (f u : ℕ) → f < d.frames → u < d.units → IsUnitsLine d f u (unit_line (flown d) fl version f u)
  units_line f u within low = elim (cases_Bool ((flown d).works u f)) [
    | inr faulty ↦ subst (IsUnitsLine d f u) (sym (line_of_faulty d fl version f u faulty)) (refl, refl, faulty)
    | inl works ↦
        let w : Works (flown d) u f = record { unit = has-range 0 d.units u (omega arith) (omega arith); works = works } in
        elim (cases_Bool (has (fl.account u f).cfg u)) [
          | inr outside ↦ subst (IsUnitsLine d f u) (sym (line_of_idle d fl version f u works outside)) (refl, refl, works)
          | inl member ↦ subst (IsUnitsLine d f u) (sym (line_of_member d fl version f u works member)) (member_line f u within w member)
        ]
  ]

  -- the lines of each frame stand in their places on the sheet, with the end behind the last
  pub form_told : (f : ℕ) → f < d.frames → HasForm d (sheet_of (flown d) fl version) f
  form_told f within = record {
    units = λ u low. subst (λ o. IsSomeAnd o (IsUnitsLine d f u)) (sym (unit_at d fl version f u within low)) (units_line f u within low);
    whole = (_, _, _, frame_at d fl version f within);
    last = λ e. (_, _, end_at d fl version);
    nothing_more = λ e. length-sheet d fl version;
  }
