-- The sheet of a round flight tells the flight's configurations and margins.
use Rattle.std.proofs.Common.{◌≡◌, ℕ, zero, suc, ◌<◌, ◌≤◌, List, true, Some, if◌then◌else◌, inl, inr, sym, ap, ◌∙◌, subst, arith, lt-ltb}
use Rattle.std.proofs.lemmas.Bool.{cases_lt, le-ltb}
use Rattle.sift_base.specs.Units.{HasMargin, has}
use Rattle.sift_base.specs.laws.Ranges.{range-low}
use Rattle.sift_mission.specs.Data.{MissionData}
use Rattle.sift_mission.specs.Flown.{flown}
use Rattle.sift_line.specs.declared.line.Version.{Version}
use Rattle.sift_line.specs.declared.line.ReportLine.{ReportLine}
use Rattle.sift_flight.specs.Figures.{HasMarginAt, Works, config_at, lead_of}
use Rattle.sift_flight.specs.Flight.{Flight, config_of}
use Rattle.sift_flight.specs.Headline.{agreed_at}
use Rattle.sift_flight.specs.laws.Leading.{config_within, lead_works}
use Rattle.sift_report.specs.Headline.{TellsSameConfiguration}
use Rattle.sift_report.specs.Printed.{TellsItsFlight}
use Rattle.sift_report.specs.Sheet.{sheet_of}
use Rattle.sift_report.specs.Told.{HadMarginTold, HasMarginTold, IsSoundTold, agreed_told, config_told, told_at, told_in}
use Rattle.sift_report.proofs.Alike.{one_told}
use Rattle.sift_report.proofs.RoundFlights.{HasLaws}
use Rattle.sift_report.proofs.SheetForm.{line_of_member, works_flying}
use Rattle.sift_report.proofs.SheetPlaces.{end_at, unit_at}
use Rattle.sift_report.proofs.Tells.{account_line}

module _ (d : MissionData) (fl : Flight) (version : Version) (laws : HasLaws d fl) where
  abbrev sheet : List ReportLine
  sheet = sheet_of (flown d) fl version

  -- the configuration at a frame gives margin
  abbrev IsSound : ℕ → Type 0
  IsSound g = HasMargin (λ u. (flown d).works u g) (config_at (flown d) fl g)

  -- so it does at each frame before this one
  abbrev HadMargin : ℕ → Type 0
  HadMargin f = (g : ℕ) → g < f → IsSound g

  -- ---- the lead unit

  leads : (f : ℕ) → Works (flown d) (lead_of (flown d) f) f
  leads f = lead_works (flown d) laws.flyable f

  low : (u f : ℕ) → Works (flown d) u f → u < d.units
  low u f w = let x = range-low 0 d.units u w.unit in omega (arith, x)

  -- after frames with margin the lead unit is in its configuration
  lead_inside : (f : ℕ) → f < d.frames → HadMargin f → has (config_of fl (lead_of (flown d) f) f) (lead_of (flown d) f) ≡ true
  lead_inside zero within had =
      let l = lead_of (flown d) 0 in
      subst (λ us. has us l ≡ true) (sym (laws.begins l within (leads 0))) (leads 0).unit
  lead_inside (suc f) within had =
      let l = lead_of (flown d) (suc f) in
      let before : Works (flown d) l f = record {
        unit = (leads (suc f)).unit;
        works = laws.flyable.script.for_good l f (suc f) (omega arith) (leads (suc f)).works;
      } in
      let h = laws.headline f (omega arith) (λ g up. had g (omega arith)) in
      subst (λ us. has us l ≡ true) (config_within (flown d) fl (suc f) within) (h.exact_removal.stays l before)

  -- ---- configurations

  lead_tells : (f : ℕ) → f < d.frames → HadMargin f
      → told_at d sheet f (lead_of (flown d) f) ≡ told_in (Some (account_line version f (lead_of (flown d) f) (fl.account (lead_of (flown d) f) f)))
  lead_tells f within had =
      let l = lead_of (flown d) f in
      ap told_in (unit_at d fl version f l within (low l f (leads f)) ∙ ap Some (line_of_member d fl version f l (leads f).works (lead_inside f within had)))

  frame_tells : (f : ℕ) → f < d.frames → HadMargin f → config_told d sheet f ≡ Some (config_at (flown d) fl f)
  frame_tells f within had =
      ap (λ b. (told_at d sheet f (if b then lead_of (flown d) f else 0)).config) (lt-ltb f d.frames within)
      ∙ (ap (λ t. t.config) (lead_tells f within had) ∙ ap Some (sym (config_within (flown d) fl f within)))

  end_tells : config_told d sheet d.frames ≡ Some (config_at (flown d) fl d.frames)
  end_tells =
      ap (λ b. (told_at d sheet d.frames (if b then lead_of (flown d) d.frames else 0)).config) (le-ltb d.frames d.frames (omega arith))
      ∙ ap (λ o. (told_in o).config) (end_at d fl version)

  -- where each frame before gives margin, the configuration told at a frame is the flight's
  pub config_is : (f : ℕ) → f ≤ d.frames → HadMargin f → config_told d sheet f ≡ Some (config_at (flown d) fl f)
  config_is f up had = elim (cases_lt f d.frames) [
    | inl within ↦ frame_tells f within had
    | inr over ↦
        let e : d.frames ≡ f = omega (arith, up, over) in
        subst (λ g. config_told d sheet g ≡ Some (config_at (flown d) fl g)) e end_tells
  ]

  -- ---- agreed words

  -- where each frame before gives margin, the agreed words told of a frame are the flight's
  pub agreed_is : (f : ℕ) → f < d.frames → HadMargin f → agreed_told d sheet f ≡ agreed_at (flown d) fl f
  agreed_is f within had = ap (λ t. t.inputs) (lead_tells f within had)

  -- ---- margins

  sound_from : (f : ℕ) → f < d.frames → HadMargin f → IsSoundTold d sheet f → IsSound f
  sound_from f within had sound =
      subst (HasMargin (λ u. (flown d).works u f)) (one_told sound.0 (config_at (flown d) fl f) _ sound.1 (config_is f (omega arith) had)) sound.2

  pub had_from : (n : ℕ) → n ≤ d.frames → HadMarginTold d sheet n → HadMargin n
  had_from zero up before = λ g early. absurd (omega (arith, early))
  had_from (suc n) up before = λ g early.
      let rest = had_from n (omega arith) (λ h small. before h (omega arith)) in
      elim (cases_lt g n) [
        | inl small ↦ rest g small
        | inr over ↦
            let e : n ≡ g = omega (arith, early, over) in
            subst IsSound e (sound_from n (omega arith) rest (before n (omega arith)))
      ]

  -- a frame that has margin by what is told has it in the flight
  pub at_from : (f : ℕ) → f < d.frames → HasMarginTold d sheet f → HasMarginAt (flown d) fl f
  at_from f within told = λ g up. had_from (suc f) (omega arith) (λ h early. told h (omega arith)) g (omega arith)

  -- a frame that has margin in the flight has it by what is told
  pub told_from : (f : ℕ) → f < d.frames → HasMarginAt (flown d) fl f → HasMarginTold d sheet f
  told_from f within at = λ g up. (config_at (flown d) fl g, config_is g (omega arith) (λ h small. at h (omega arith)), at g up)

  -- ---- the same configuration

  -- each working unit of a frame with margin tells the configuration at the frame
  abbrev pub AllTellConfigs : Type 0
  AllTellConfigs = (f : ℕ) → f < d.frames → HasMarginAt (flown d) fl f → (u : ℕ) → Works (flown d) u f →
      (told_at d sheet f u).config ≡ Some (config_at (flown d) fl f)

  -- so they tell the same
  pub same_configuration : AllTellConfigs
      → (f : ℕ) → f < d.frames → HadMarginTold d sheet f → TellsSameConfiguration d sheet f
  same_configuration tells f within before =
      let had = had_from f (omega arith) before in
      record {
        config = config_at (flown d) fl f;
        told = config_is f (omega arith) had;
        all_at_first = λ e.
            let some : 0 < d.frames = omega (arith, e, within) in
            subst (λ g. config_at (flown d) fl g ≡ (flown d).units) (sym e)
            (config_within (flown d) fl 0 some ∙ laws.begins (lead_of (flown d) 0) some (leads 0));
        same = λ margin u w. tells f within (λ g up. elim (cases_lt g f) [
          | inl small ↦ had g small
          | inr over ↦ (let e : f ≡ g = omega (arith, up, over) in subst IsSound e margin)
        ]) u (works_flying d u f w);
      }

-- the sheet of a flight that has the laws tells the flight's margins, and while there is margin its configurations and agreed words
pub tells_its_flight : (d : MissionData) (fl : Flight) (version : Version) → HasLaws d fl → TellsItsFlight d fl version
tells_its_flight d fl version laws = record {
  margin = λ f within. (at_from d fl version laws f within, told_from d fl version laws f within);
  config = λ f up had. config_is d fl version laws f up (λ g early. had g early g (omega arith));
  agreed = λ f within at. agreed_is d fl version laws f within (λ g early. at g (omega arith));
}
