-- The lines of a round flight's report have the headline.
use Rattle.std.proofs.Common.{◌≡◌, ◌↔◌, ℕ, ◌-◌, ◌<◌, List, [], Bool, true, refl, sym, ap, ◌∙◌, arith}
use Rattle.sift_program.specs.Ideal.{ideal_words}
use Rattle.sift_mission.specs.Data.{MissionData}
use Rattle.sift_mission.specs.Flown.{flown, table_for}
use Rattle.sift_flight.specs.Figures.{HasMarginAt, margin_at}
use Rattle.sift_flight.specs.Flight.{Flight}
use Rattle.sift_flight.specs.Headline.{agreed_at, shed_at}
use Rattle.sift_report.specs.Headline.{FrameHeadline, TellsIdealOutputs, TellsTrueMargin, ReportHeadline}
use Rattle.sift_report.specs.Sheet.{sheet_of}
use Rattle.sift_report.specs.Told.{HasMarginTold, agreed_told, shed_told, told_in}
use Rattle.sift_line.specs.declared.line.Version.{Version}
use Rattle.sift_line.specs.declared.line.ReportLine.{ReportLine}
use Rattle.sift_report.proofs.Alike.{words_alike}
use Rattle.sift_report.proofs.FrameLines.{agrees, clock_skew, exact_removal, holds_here, no_false_accusation, same_inputs, tells_account, tells_config}
use Rattle.sift_report.proofs.RoundFlights.{HasLaws}
use Rattle.sift_report.proofs.SheetConfigs.{at_from, config_is, same_configuration, told_from}
use Rattle.sift_report.proofs.SheetForm.{form_told, works_flying}
use Rattle.sift_report.proofs.SheetPlaces.{end_at, frame_at}
use Rattle.std.specs.Prelude.{option_map, unwrap_or}

module _ (d : MissionData) (fl : Flight) (version : Version) (laws : HasLaws d fl) where
  abbrev sheet : List ReportLine
  sheet = sheet_of (flown d) fl version

  -- ---- the ideal machine

  -- the tasks that are shed by the configuration told are those that the flight's sheds
  sheds : (f : ℕ) → f < d.frames → HasMarginAt (flown d) fl f → shed_told d sheet f ≡ shed_at (flown d) fl f
  sheds f within at =
      ap (λ c. unwrap_or (option_map (λ us. (table_for d us).shed) c) [])
      (config_is d fl version laws f (omega arith) (λ g early. at g (omega arith)))

  -- so the ideal machine's words over the agreed words and the configurations told are those over the flight's
  words_told : (f : ℕ) → f < d.frames → HasMarginAt (flown d) fl f
      → ideal_words d.program (agreed_told d sheet) (shed_told d sheet) f ≡ ideal_words d.program (agreed_at (flown d) fl) (shed_at (flown d) fl) f
  words_told f within at =
      let before = words_alike d.program (agreed_told d sheet) (agreed_at (flown d) fl) (shed_told d sheet) (shed_at (flown d) fl) f
      (λ g early. agrees d fl version laws g (omega arith) (λ h up. at h (omega arith)))
      (λ g early. sheds g (omega arith) (λ h up. at h (omega arith))) in
      rw (before, agrees d fl version laws f within at, sheds f within at) refl

  ideal_outputs : (f : ℕ) → f < d.frames → HasMarginAt (flown d) fl f → TellsIdealOutputs d sheet f
  ideal_outputs f within at u w =
      let works = works_flying d u f w in
      ap (λ t. t.outputs) (tells_account d fl version laws f within at u works) ∙ ((holds_here d fl version laws f within at).ideal_outputs u works ∙ sym (words_told f within at))

  frame_told : (f : ℕ) → f < d.frames → HasMarginAt (flown d) fl f → FrameHeadline d sheet f
  frame_told f within at = record {
    same_inputs = same_inputs d fl version laws f within at;
    ideal_outputs = ideal_outputs f within at;
    no_false_accusation = no_false_accusation d fl version laws f within at;
    exact_removal = exact_removal d fl version laws f within at;
    clock_skew = clock_skew d fl version laws f within at;
  }

  -- ---- margins

  -- a margin that is told as the flight's is true
  true_margin : (told : Bool) (f : ℕ) → f < d.frames → told ≡ margin_at (flown d) fl f → (told ≡ true) ↔ HasMarginTold d sheet f
  true_margin told f within same = (
    (λ yes. told_from d fl version laws f within ((laws.margin (flown d) fl f).0 (sym same ∙ yes))),
    (λ has. same ∙ (laws.margin (flown d) fl f).1 (at_from d fl version laws f within has)),
  )

  margin_is_true : (f : ℕ) → f < d.frames → TellsTrueMargin d sheet f
  margin_is_true f within = record {
    frame = true_margin _ f within (ap (λ o. (told_in o).margin) (frame_at d fl version f within));
    end = λ last.
        let e : d.frames - 1 ≡ f = omega (arith, last) in
        true_margin _ f within (ap (λ o. (told_in o).margin) (end_at d fl version) ∙ ap (margin_at (flown d) fl) e);
  }

-- all of it
pub sheet_has_headline : (d : MissionData) (fl : Flight) (version : Version) → HasLaws d fl → ReportHeadline d (sheet_of (flown d) fl version)
sheet_has_headline d fl version laws = record {
  form = form_told d fl version laws;
  same_configuration = same_configuration d fl version laws (tells_config d fl version laws);
  frames = λ f within told. frame_told d fl version laws f within (at_from d fl version laws f within told);
  true_margin = margin_is_true d fl version laws;
}
