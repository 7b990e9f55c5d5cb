-- The lines of a round flight's report tell each lie, and no catch of who says its own words.
use Rattle.std.proofs.Common.{◌≡◌, ℕ, suc, ◌<◌, List, true, false, Some, sym, ap, ◌∙◌, subst, arith}
use Rattle.sift_base.specs.Units.{has, holds}
use Rattle.sift_exec.specs.Conviction.{has_kind, kinds_of}
use Rattle.sift_exec.specs.declared.catches.Catches.{Catches}
use Rattle.sift_exec.specs.declared.catches.Kind.{Kind}
use Rattle.sift_exec.specs.laws.Everyone.{way_is_caught}
use Rattle.sift_line.specs.Bad.{bad_in}
use Rattle.sift_line.specs.declared.line.ReportLine.{ReportLine}
use Rattle.sift_line.specs.declared.line.Version.{Version}
use Rattle.sift_line.specs.declared.line.Version.TheVariants.{One, Two}
use Rattle.sift_mission.specs.Data.{MissionData}
use Rattle.sift_mission.specs.Flown.{flown}
use Rattle.sift_mission.specs.PartsFit.{PartsFit}
use Rattle.sift_mission.specs.Premises.{PartsMakeItFlyable}
use Rattle.sift_conduct.specs.Conduct.{caught}
use Rattle.sift_flight.specs.Caught.{LiarsAreOut, LiesAt, LiesCost, OwnWordsCostNothing, known_at}
use Rattle.sift_flight.specs.Figures.{Works, config_at, HasMarginAt}
use Rattle.sift_flight.specs.Flight.{Flight, Strays, IsRound}
use Rattle.sift_flight.specs.Lies.{IsLie, SaysItsOwn}
use Rattle.sift_report.specs.Caught.{LiesTold, ReportCaught, TellsCaught, known_told, names, tells_catch}
use Rattle.sift_report.specs.Sheet.{sheet_of}
use Rattle.sift_report.specs.Told.{IsWorking, config_told, line_at}
use Rattle.sift_report.proofs.Alike.{one_told}
use Rattle.sift_report.proofs.FrameLines.{caught_is, is_told, line_is, tells_account}
use Rattle.sift_report.proofs.RoundFlights.{HasLaws}
use Rattle.sift_report.proofs.SheetConfigs.{at_from, config_is}
use Rattle.sift_report.proofs.SheetForm.{works_flying}

-- each version names who was caught in a way
names_way : (version : Version) (bad : Catches) (way : Kind) (v : ℕ) → has_kind (kinds_of bad v) way ≡ true → names (bad_in version bad) way v ≡ true
names_way One bad way v t = way_is_caught way bad v t
names_way Two bad way v t = t

-- a frame with margin, the configuration told at it, and a unit of which the laws of flights hold there
module _ (d : MissionData) (fl : Flight) (version : Version) (laws : HasLaws d fl) (f : ℕ) (within : f < d.frames) (at : HasMarginAt (flown d) fl f)
    (us : List ℕ) (told : config_told d (sheet_of (flown d) fl version) f ≡ Some us) (u : ℕ) (cost : LiesCost (flown d) fl f u)
    (own : SaysItsOwn (flown d) f u → (q : ℕ) → Works (flown d) q f → caught (fl.account q f) u ≡ false) where
  abbrev sheet : List ReportLine
  sheet = sheet_of (flown d) fl version

  works : (q : ℕ) → IsWorking d q f → Works (flown d) q f
  works q w = works_flying d q f w

  -- a working unit tells what it knows
  known_is : (q : ℕ) → IsWorking d q f → known_told d sheet f q ≡ known_at fl q f
  known_is q w = ap (λ t. record { outputs = t.outputs; clock = t.clock }) (tells_account d fl version laws f within at q (works q w))

  -- so a lie by the lines is one in the flight
  lies : (q : ℕ) (way : Kind) → IsWorking d q f → LiesTold d sheet us f u q way → LiesAt (flown d) fl f u q way
  lies q way w lie = subst (λ known. IsLie (flown d) (config_at (flown d) fl f) f u q known way) (known_is q w)
      (subst (λ c. IsLie (flown d) c f u q (known_told d sheet f q) way) (is_told d fl version laws f within at us told) lie)

  -- and whom a working unit caught it tells
  tells : (q : ℕ) (way : Kind) → IsWorking d q f → has_kind (kinds_of (fl.account q f).bad u) way ≡ true → tells_catch (line_at d sheet f q) way u ≡ true
  tells q way w t = ap (λ line. tells_catch line way u) (line_is d fl version laws f within at q (works q w)) ∙ names_way version (fl.account q f).bad way u t

  pub tells_caught : TellsCaught d sheet us f u
  tells_caught = record {
    caught = λ way q w lie. tells q way w (cost.caught way q (works q w) (lies q way w lie));
    out = λ a b q r wq wr ne lie_q lie_r next told_next.
        let then_is : next ≡ config_at (flown d) fl (suc f) =
        one_told next (config_at (flown d) fl (suc f)) _ told_next (config_is d fl version laws (suc f) (omega arith) (λ g early. at g (omega arith))) in
        subst (λ c. has c u ≡ false) (sym then_is) (cost.out a b q r (works q wq) (works r wr) ne (lies q a wq lie_q) (lies r b wr lie_r));
    own_words = λ says q w. ap (λ c. holds c u) (caught_is d fl version laws f within at q (works q w)) ∙ own says q (works q w);
  }

-- so it is of each such unit in each frame with margin
pub caught_is_printed : PartsMakeItFlyable → LiarsAreOut → OwnWordsCostNothing → (d : MissionData) (strays : Strays) (fl : Flight) (version : Version)
    → PartsFit d → IsRound (flown d) strays fl → HasLaws d fl → ReportCaught d (sheet_of (flown d) fl version)
caught_is_printed flies out nothing d strays fl version fits round laws f within margin us told u member there =
    let at = at_from d fl version laws f within margin in
    let member_at = subst (λ c. has c u ≡ true) (is_told d fl version laws f within at us told) member in
    let both = flies d fits in
    tells_caught d fl version laws f within at us told u
    (out (flown d) d.program strays fl both.0 both.1 round f within at u member_at there)
    (nothing (flown d) d.program strays fl both.0 both.1 round f within at u member_at there)
