-- What the report of each flight of the mission with two catchers tells of its fault.
use Rattle.std.proofs.Common.{◌≡◌, ℕ, zero, suc, ◌<◌, List, [], ◌∷◌, Bool, slice_index, true, false, not, None, Some, refl, sym, ap, ◌∙◌, arith}
use Rattle.std.specs.List.{filter}
use Rattle.std.specs.Prelude.{option_map, unwrap_or}
use Rattle.std.proofs.lemmas.Bool.{true≢false}
use Rattle.std.proofs.lemmas.Option.{same_Some}
use Rattle.sift_base.specs.Units.{has}
use Rattle.sift_base.specs.laws.Ranges.{range-low}
use Rattle.sift_exec.specs.declared.catches.Kind.TheVariants.{Poll}
use Rattle.sift_flight.specs.Alike.{RoundFlightsAreAlike}
use Rattle.sift_flight.specs.Existence.{EachMissionHasARoundFlight}
use Rattle.sift_flight.specs.Flight.{HasNoStorms, no_strays}
use Rattle.sift_line.specs.declared.line.ReportLine.{ReportLine}
use Rattle.sift_mission.specs.Flown.{flown, table_for}
use Rattle.sift_mission.specs.PartsFit.{PartsFit}
use Rattle.sift_mission.specs.Premises.{PartsMakeItFlyable}
use Rattle.sift_program.specs.Ideal.{ideal_frame}
use Rattle.sift_report.specs.Caught.{LiesTold, ReportCaught, TellsCaught}
use Rattle.sift_report.specs.Headline.{FrameHeadline, ReportHeadline, TellsSameConfiguration}
use Rattle.sift_report.specs.OneText.{AlikeFlightsHaveOneText}
use Rattle.sift_report.specs.Printed.{CaughtIsPrinted, HeadlineIsPrinted}
use Rattle.sift_report.specs.Sheet.{sheet_of}
use Rattle.sift_report.specs.Told.{HasMarginTold, IsSoundTold, IsWorking, agreed_told, config_told, shed_told, told_at}
use Rattle.sift_report.specs.TwoCatchers.{HeadlineOfAFault, TellsOfTheFault, all_five, four_left, mission}
use Rattle.sift_report.proofs.Tells.{two_tell}
use Rattle.sift_report.proofs.TwoCatchers.{each_below, faulty_in, lines_tell}

-- ---- one flight's lines, of which the headline holds, and which tell what lies cost

module _ (lines : List ReportLine) (headline : ReportHeadline mission lines) (costs : ReportCaught mission lines) where
  -- all five units are told at first
  first : TellsSameConfiguration mission lines 0
  first = headline.same_configuration 0 (omega arith) (λ g low. absurd (omega arith))

  five_told : config_told mission lines 0 ≡ Some all_five
  five_told = first.told ∙ ap Some (first.all_at_first refl)

  -- so frame 0 has margin
  first_sound : IsSoundTold mission lines 0
  first_sound = (all_five, five_told, record { few = omega arith; enough = omega arith })

  first_margin : HasMarginTold mission lines 0
  first_margin zero up = first_sound
  first_margin (suc g) up = absurd (omega arith)

  frame : FrameHeadline mission lines 0
  frame = headline.frames 0 (omega arith) first_margin

  -- its configuration sheds nothing, so each working unit votes 3 * 5 + 1
  nothing_shed : shed_told mission lines 0 ≡ []
  nothing_shed = ap (λ c. unwrap_or (option_map (λ us. (table_for mission us).shed) c) []) five_told

  voted : (q : ℕ) → IsWorking mission q 0 → slice_index (told_at mission lines 0 q).outputs 0 ≡ 16
  voted q w =
      ap (λ words. slice_index words 0) (frame.ideal_outputs q w)
      ∙ ap (λ shed. slice_index (ideal_frame mission.program (5 ∷ []) (agreed_told mission lines 0) shed) 0) nothing_shed

  -- unit 4 says 7 to units 0 and 1, which both work, and is out
  lies_to : (q : ℕ) → has (0 ∷ 1 ∷ []) q ≡ true → IsWorking mission q 0 → LiesTold mission lines all_five 0 4 q Poll
  lies_to q receives w = record {
    word = 0;
    said = Some 7;
    low = omega arith;
    executes = refl;
    script = rw receives refl;
    untrue = λ same. let e : 7 ≡ slice_index (told_at mission lines 0 q).outputs 0 = same_Some _ _ same in let v = voted q w in omega (arith, e, v);
  }

  works : (q : ℕ) → has all_five q ≡ true → q < 4 → IsWorking mission q 0
  works zero unit low = record { unit = refl; works = refl }
  works (suc zero) unit low = record { unit = refl; works = refl }
  works (suc (suc zero)) unit low = record { unit = refl; works = refl }
  works (suc (suc (suc zero))) unit low = record { unit = refl; works = refl }
  works (suc (suc (suc (suc q)))) unit low = absurd (omega arith)

  cost : TellsCaught mission lines all_five 0 4
  cost = costs 0 (omega arith) first_margin all_five five_told 4 refl refl

  second : TellsSameConfiguration mission lines 1
  second = headline.same_configuration 1 (omega arith) before
    where
      before : (g : ℕ) → g < 1 → IsSoundTold mission lines g
      before zero low = first_sound
      before (suc g) low = absurd (omega arith)

  out : has second.config 4 ≡ false
  out =
      let zeroth = works 0 refl (omega arith) in
      let other = works 1 refl (omega arith) in
      cost.out Poll Poll 0 1 zeroth other (λ e. omega (arith, e)) (lies_to 0 refl zeroth) (lies_to 1 refl other) second.config second.told

  -- no working unit catches a working unit, so the others stay
  unaccused : (v : ℕ) → IsWorking mission v 0 → two_tell mission lines 0 all_five v ≡ false
  unaccused v w =
      rw (frame.no_false_accusation 0 v (works 0 refl (omega arith)) w, frame.no_false_accusation 1 v (works 1 refl (omega arith)) w)
      (rw (frame.no_false_accusation 2 v (works 2 refl (omega arith)) w, frame.no_false_accusation 3 v (works 3 refl (omega arith)) w) refl)

  stay : (v : ℕ) → has all_five v ≡ true → v < 4 → two_tell mission lines 0 all_five v ≡ false
  stay v unit low = unaccused v (works v unit low)

  removed : second.config ≡ filter (λ v. not (two_tell mission lines 0 all_five v)) all_five
  removed = frame.exact_removal all_five second.config five_told second.told

  left_by : (b : Bool) → two_tell mission lines 0 all_five 4 ≡ b → second.config ≡ four_left
  left_by true told =
      removed ∙ rw (stay 0 refl (omega arith), stay 1 refl (omega arith), stay 2 refl (omega arith), stay 3 refl (omega arith), told) refl
  left_by false told =
      let stays : second.config ≡ all_five =
      removed ∙ rw (stay 0 refl (omega arith), stay 1 refl (omega arith), stay 2 refl (omega arith), stay 3 refl (omega arith), told) refl in
      absurd (true≢false (sym (ap (λ us. has us 4) stays) ∙ out))

  four_told : config_told mission lines 1 ≡ Some four_left
  four_told = second.told ∙ ap Some (left_by (two_tell mission lines 0 all_five 4) refl)

  both_margins : HasMarginTold mission lines 1
  both_margins zero up = first_sound
  both_margins (suc zero) up = (four_left, four_told, record { few = omega arith; enough = omega arith })
  both_margins (suc (suc g)) up = absurd (omega arith)

  -- so the lines tell of the fault
  tells_of_it : TellsOfTheFault lines
  tells_of_it = record { margin = both_margins; before = five_told; behind = four_told; headline = headline }

-- ---- the flights of the mission

-- no unit turns
calm : HasNoStorms (flown mission)
calm u there = each_below (λ v. (flown mission).storm v ≡ None) refl refl refl refl refl u (range-low 0 5 u there)

-- the mission has a round flight, and all of them print one report, which tells of the fault
pub fault_is_flown : PartsFit mission → PartsMakeItFlyable → EachMissionHasARoundFlight → RoundFlightsAreAlike → AlikeFlightsHaveOneText
    → HeadlineIsPrinted → CaughtIsPrinted → HeadlineOfAFault
fault_is_flown fits makes each alike one_text printed caught = record {
  fits = fits;
  faulty = faulty_in;
  flies = each (flown mission) no_strays (makes mission fits).0.fits;
  one = λ strays others fl gl round another.
      one_text mission fl gl (omega arith) (alike (flown mission) strays others fl gl (makes mission fits).0 calm (omega arith) round another);
  tells = λ strays fl version round.
      tells_of_it (sheet_of (flown mission) fl version) (printed mission strays fl version fits round) (caught mission strays fl version fits round);
  lines_tell = lines_tell;
}
