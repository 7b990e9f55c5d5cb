-- Flights that tell the same have one text of each kind.
use Rattle.std.proofs.Common.{◌≡◌, ℕ, zero, suc, ◌+◌, ◌-◌, ◌<◌, List, [], ◌∷◌, ◌++◌, map, true, if◌then◌else◌, refl, ap, ◌∙◌, arith}
use Rattle.std.specs.List.{flat_map, range_with_len}
use Rattle.sift_base.specs.Units.{has}
use Rattle.sift_base.specs.laws.Counts.{has-head, has-tail, map-same}
use Rattle.sift_mission.specs.Data.{MissionData}
use Rattle.sift_mission.specs.Flown.{flown}
use Rattle.sift_line.specs.Line.{printed, text_of_lines}
use Rattle.sift_line.specs.declared.line.Version.{Version}
use Rattle.sift_line.specs.declared.line.ReportLine.TheVariants.{Faulty, Last}
use Rattle.sift_conduct.specs.Conduct.{Account, Places}
use Rattle.sift_flight.specs.Alike.{AreAlike}
use Rattle.sift_flight.specs.Figures.{config_at, margin_at}
use Rattle.sift_flight.specs.Flight.{Flight}
use Rattle.sift_report.specs.OneText.{AlikeFlightsHaveOneText}
use Rattle.sift_report.specs.Sheet.{end_of, frame_line, frame_lines, last_line, sheet_of, unit_line, working_line}
use Rattle.sift_report.specs.Votes.{unit_votes, votes_of}
use Rattle.sift_report.proofs.Tells.{frame_votes}

-- what is the same at each number from a on is the same of all of them
flat-same : {A : Type 0} (f g : ℕ → List A) (a n : ℕ) → ((i : ℕ) → i < a + n → f i ≡ g i) → flat_map f (range_with_len a n) ≡ flat_map g (range_with_len a n)
flat-same f g a zero same = refl
flat-same f g a (suc n) same =
    ap (λ xs. xs ++ flat_map f (range_with_len (a + 1) n)) (same a (omega arith))
    ∙ ap (λ xs. g a ++ xs) (flat-same f g (a + 1) n (λ i low. same i (omega arith)))

-- and at each unit of a list
flat-units : {A : Type 0} (f g : ℕ → List A) (us : List ℕ) → ((u : ℕ) → has us u ≡ true → f u ≡ g u) → flat_map f us ≡ flat_map g us
flat-units f g [] same = refl
flat-units f g (u ∷ us) same =
    ap (λ xs. xs ++ flat_map f us) (same u (has-head u us)) ∙ ap (λ xs. g u ++ xs) (flat-units f g us (λ v h. same v (has-tail u us v h)))

-- the votes of a unit in a frame are made of its account and its words alone
abbrev votes_by : MissionData → (f u : ℕ) → Account → Places → Places → List ℕ
votes_by d f u a said heard = unit_votes d (record { said = λ _ _. said; heard = λ _ _. heard; account = λ _ _. a }) f u

module _ (d : MissionData) (fl gl : Flight) (some : 0 < d.frames) (alike : AreAlike (flown d) fl gl) where
  same_line : (version : Version) (f : ℕ) → f < d.frames → (u : ℕ) → has (flown d).units u ≡ true → unit_line (flown d) fl version f u ≡ unit_line (flown d) gl version f u
  same_line version f low u hu = ap (λ a. if (flown d).works u f then working_line version f u a else Faulty f u) (alike.units u f hu low).account

  same_frame_line : (f : ℕ) → f < d.frames → frame_line (flown d) fl f ≡ frame_line (flown d) gl f
  same_frame_line f low = let s = alike.frames f low in rw (s.margin, s.skew, s.slack) refl

  same_lines : (version : Version) (f : ℕ) → f < d.frames → frame_lines (flown d) fl version f ≡ frame_lines (flown d) gl version f
  same_lines version f low =
      ap (λ xs. xs ++ frame_line (flown d) fl f ∷ []) (map-same (unit_line (flown d) fl version f) (unit_line (flown d) gl version f) (flown d).units (same_line version f low))
      ∙ ap (λ x. map (unit_line (flown d) gl version f) (flown d).units ++ x ∷ []) (same_frame_line f low)

  same_last : last_line (flown d) fl ≡ last_line (flown d) gl
  same_last =
      ap (λ us. Last d.frames us (margin_at (flown d) fl (d.frames - 1))) (alike.config d.frames (omega arith))
      ∙ ap (λ b. Last d.frames (config_at (flown d) gl d.frames) b) (alike.frames (d.frames - 1) (omega arith)).margin

  same_sheet : (version : Version) → sheet_of (flown d) fl version ≡ sheet_of (flown d) gl version
  same_sheet version =
      ap (λ xs. xs ++ last_line (flown d) fl ∷ []) (flat-same (frame_lines (flown d) fl version) (frame_lines (flown d) gl version) 0 d.frames (λ f low. same_lines version f (omega arith)))
      ∙ ap (λ x. flat_map (frame_lines (flown d) gl version) (range_with_len 0 d.frames) ++ x ∷ []) same_last

  same_votes : (f : ℕ) → f < d.frames → (u : ℕ) → has (flown d).units u ≡ true → unit_votes d fl f u ≡ unit_votes d gl f u
  same_votes f low u hu =
      let s = alike.units u f hu low in
      ap (λ a. votes_by d f u a (fl.said u f) (fl.heard u f)) s.account
      ∙ (ap (λ said. votes_by d f u (gl.account u f) said (fl.heard u f)) s.said
      ∙ ap (λ heard. votes_by d f u (gl.account u f) (gl.said u f) heard) s.heard)

  same_frame_votes : (f : ℕ) → f < d.frames → frame_votes d fl f ≡ frame_votes d gl f
  same_frame_votes f low = flat-units (unit_votes d fl f) (unit_votes d gl f) (flown d).units (same_votes f low)

  same_end : end_of (flown d) fl ≡ end_of (flown d) gl
  same_end = ap printed same_last

  all_votes : votes_of d fl ≡ votes_of d gl
  all_votes =
      ap (λ xs. xs ++ end_of (flown d) fl) (flat-same (frame_votes d fl) (frame_votes d gl) 0 d.frames (λ f low. same_frame_votes f (omega arith)))
      ∙ ap (λ xs. flat_map (frame_votes d gl) (range_with_len 0 d.frames) ++ xs) same_end

-- flights of one frame or more that tell the same have one report in each version, one text of votes and one last line
pub one_text : AlikeFlightsHaveOneText
one_text d fl gl some alike = record {
  report = λ version. ap text_of_lines (same_sheet d fl gl some alike version);
  votes = all_votes d fl gl some alike;
  end = same_end d fl gl some alike;
}
