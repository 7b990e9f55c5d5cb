-- Each line of a sheet is one of the sheet's version.
use Rattle.std.proofs.Common.{◌≡◌, refl, ℕ, Bool, true, false, List, [], ◌∷◌, cond, get_or, map}
use Rattle.std.specs.List.{All, flat_map, range_with_len}
use Rattle.std.proofs.lemmas.List.Elements.{All-append, All-cons, All-map, All-nil}
use Rattle.sift_base.specs.Units.{has}
use Rattle.sift_exec.specs.declared.catches.Catches.{Catches}
use Rattle.sift_flight.specs.Flight.{Flight}
use Rattle.sift_mission.specs.Data.{FlownMission}
use Rattle.sift_line.specs.Bad.{bad_in, version_of}
use Rattle.sift_line.specs.Line.{HasVersion}
use Rattle.sift_report.specs.Sheet.{frame_line, frame_lines, last_line, unit_line, working_line}
use Rattle.sift_report.specs.Versions.{SheetsHaveTheirVersion}
use Rattle.sift_line.specs.declared.line.ReportLine.{ReportLine}
use Rattle.sift_line.specs.declared.line.ReportLine.TheVariants.{Faulty, Idle}
use Rattle.sift_line.specs.declared.line.Version.{Version}
use Rattle.sift_line.specs.declared.line.Version.TheVariants.{One, Two}
use Rattle.sift_report.proofs.Tells.{account_line}

-- what a version tells of catches is told in that version
told_so : (version : Version) (caught : Catches) → version_of (bad_in version caught) ≡ version
told_so One caught = refl
told_so Two caught = refl

-- one of two lines is of a version where both are
one_of_both : (version : Version) (first : Bool) (one other : ReportLine) → HasVersion version one → HasVersion version other
    → HasVersion version (cond first one other)
one_of_both version true one other is is' = is
one_of_both version false one other is is' = is'

-- lines that are put together are of a version where each list is
put_together : (version : Version) (lines : ℕ → List ReportLine) → ((f : ℕ) → All (HasVersion version) (lines f)) → (frames : List ℕ)
    → All (HasVersion version) (flat_map lines frames)
put_together version lines each [] = All-nil (HasVersion version)
put_together version lines each (f ∷ frames) =
    All-append (HasVersion version) (lines f) (flat_map lines frames) (each f) (put_together version lines each frames)

module _ (m : FlownMission) (fl : Flight) (version : Version) where
  of_unit : (f u : ℕ) → HasVersion version (unit_line m fl version f u)
  of_unit f u =
      let account = fl.account u f in
      let working = one_of_both version (has account.cfg u) (account_line version f u account) (Idle f u) (told_so version account.bad) tt in
      one_of_both version (m.works u f) (working_line version f u account) (Faulty f u) working tt

  of_frame : (f : ℕ) → All (HasVersion version) (frame_lines m fl version f)
  of_frame f = All-append (HasVersion version) (map (unit_line m fl version f) m.units) (frame_line m fl f ∷ [])
      (All-map (HasVersion version) (unit_line m fl version f) m.units (λ k d low. of_unit f (get_or m.units k d)))
      (All-cons (HasVersion version) (frame_line m fl f) [] tt (All-nil (HasVersion version)))

-- each line of a sheet is one of the sheet's version
pub have_their_version : SheetsHaveTheirVersion
have_their_version m fl version =
    All-append (HasVersion version) (flat_map (frame_lines m fl version) (range_with_len 0 m.frames)) (last_line m fl ∷ [])
    (put_together version (frame_lines m fl version) (of_frame m fl version) (range_with_len 0 m.frames))
    (All-cons (HasVersion version) (last_line m fl) [] tt (All-nil (HasVersion version)))
