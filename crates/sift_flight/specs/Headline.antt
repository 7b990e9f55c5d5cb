-- The headline: what holds of each frame with margin of a round flight, whatever its faulty units do.
use Rattle.std.specs.Prelude.{◌≡◌, ℕ, suc, ◌<◌, List, slice_index, nat_lt, not, Bool, true, false, ℤ, pos, ◌≤ℤ◌}
use Rattle.std.specs.List.{filter}
use Rattle.sift_base.specs.Units.{has}
use Rattle.sift_exec.specs.Conviction.{working_accusers}
use Rattle.sift_config.specs.Config.{reader_of}
use Rattle.sift_skew.specs.Figures.{lead_left}
use Rattle.sift_skew.specs.Keeping.{AreTogether}
use Rattle.sift_program.specs.Program.{ProgramTree}
use Rattle.sift_program.specs.Ideal.{ideal_words}
use Rattle.sift_mission.specs.Data.{FlownMission, IsConfigOf}
use Rattle.sift_conduct.specs.Conduct.{caught, report_in, report_of}
use Rattle.sift_flight.specs.Flight.{Flight, config_of, Strays, IsRound}
use Rattle.sift_flight.specs.Figures.{Works, lead_of, config_at, HasMarginAt, IsSkewAt, IsSlackAt}
use Rattle.sift_mission.specs.Premises.{IsFlyable, RunsProgram}

-- ---- words

-- the agreed words of a frame: the lead unit's
abbrev pub agreed_at : FlownMission → Flight → ℕ → List ℕ
agreed_at m fl f = (fl.account (lead_of m f) f).ins

-- the tasks that are shed in a frame: those that its configuration sheds
abbrev pub shed_at : FlownMission → Flight → ℕ → List ℕ
shed_at m fl f = m.shed (config_at m fl f)

-- same configuration: each working unit has the configuration at the frame, is in it, and so isn't idle
pub record SameConfiguration (m : FlownMission) (fl : Flight) (f : ℕ) : Type 0 where
  pub same : (u : ℕ) → Works m u f → config_of fl u f ≡ config_at m fl f
  pub member : (u : ℕ) → Works m u f → has (config_at m fl f) u ≡ true
  pub busy : (u : ℕ) → Works m u f → (fl.account u f).idle ≡ false

-- same inputs: all working units have the same agreed words, and the word of a sensor that a working unit reads is the mission's
pub record SameInputs (m : FlownMission) (fl : Flight) (f : ℕ) : Type 0 where
  pub same : (u : ℕ) → Works m u f → (fl.account u f).ins ≡ agreed_at m fl f
  pub sensed : (x : ℕ) → x < m.sensors → m.works (reader_of (config_at m fl f) x) f ≡ true → slice_index (agreed_at m fl f) x ≡ m.sensed x f

-- the report that u takes for r's in a frame
abbrev pub report_at : FlownMission → Flight → ℕ → ℕ → ℕ → ℕ
report_at m fl f u r = report_of (config_at m fl f) u (fl.account u f) (fl.heard u f) r

-- same reports: all working units take the same report for each unit's, and for a working unit's its own
pub record SameReports (m : FlownMission) (fl : Flight) (f : ℕ) : Type 0 where
  pub same : (u v r : ℕ) → Works m u f → Works m v f → has (config_at m fl f) r ≡ true → report_at m fl f u r ≡ report_at m fl f v r
  pub own : (u r : ℕ) → Works m u f → Works m r f → report_at m fl f u r ≡ report_in (fl.account r f)

-- ideal outputs: each working unit has the ideal machine's words over the agreed words, where in each frame those tasks are shed that the
-- table of its configuration sheds
abbrev pub IdealOutputs : FlownMission → ProgramTree → Flight → ℕ → Type 0
IdealOutputs m program fl f = (u : ℕ) → Works m u f → (fl.account u f).outs ≡ ideal_words program (agreed_at m fl) (shed_at m fl) f

-- ---- faults

-- no false accusation: no working unit catches a working unit
abbrev pub NoFalseAccusation : FlownMission → Flight → ℕ → Type 0
NoFalseAccusation m fl f = (u v : ℕ) → Works m u f → Works m v f → caught (fl.account u f) v ≡ false

-- at least two working units of the configuration caught v
abbrev pub two_caught : FlownMission → Flight → ℕ → ℕ → Bool
two_caught m fl f v = nat_lt 1 (working_accusers (λ u. m.works u f) (λ u. caught (fl.account u f)) (config_at m fl f) v)

-- exact removal: the next configuration is this one less exactly the units that two working units caught; each working unit finds it and
-- stays in it
pub record ExactRemoval (m : FlownMission) (fl : Flight) (f : ℕ) : Type 0 where
  pub exact : config_at m fl (suc f) ≡ filter (λ v. not (two_caught m fl f v)) (config_at m fl f)
  pub found : (u : ℕ) → Works m u f → (fl.account u f).next_cfg ≡ config_at m fl (suc f)
  pub stays : (u : ℕ) → Works m u f → has (config_at m fl (suc f)) u ≡ true
  pub config : IsConfigOf m (config_at m fl (suc f))

-- ---- clocks

-- something is left of a subframe between the clocks of p and q, with q's offset of this frame and with that in force after it
pub record HasLead (m : FlownMission) (fl : Flight) (f p q : ℕ) : Type 0 where
  pub now : pos 1 ≤ℤ lead_left m.length (fl.account p f).clk (fl.account q f).clk
  pub next : pos 1 ≤ℤ lead_left m.length (fl.account p f).clk (fl.account q f).next_clk

-- clock skew: working clocks differ by at most the skew, and so does the frame's figure; something is left of a subframe between any two
-- of them, and the slack is at least 1
pub record ClockSkew (m : FlownMission) (fl : Flight) (f : ℕ) : Type 0 where
  pub together : AreTogether m.skew (config_at m fl f) (λ u. m.works u f) (λ u. (fl.account u f).clk)
  pub skew : (s : ℤ) → IsSkewAt m fl f s → s ≤ℤ m.skew
  pub lead : (p q : ℕ) → Works m p f → Works m q f → HasLead m fl f p q
  pub slack : (s : ℤ) → IsSlackAt m fl f s → pos 1 ≤ℤ s

-- ---- all of it

-- what holds of a frame with margin
pub record Headline (m : FlownMission) (program : ProgramTree) (fl : Flight) (f : ℕ) : Type 0 where
  pub same_configuration : SameConfiguration m fl f
  pub same_inputs : SameInputs m fl f
  pub same_reports : SameReports m fl f
  pub ideal_outputs : IdealOutputs m program fl f
  pub no_false_accusation : NoFalseAccusation m fl f
  pub exact_removal : ExactRemoval m fl f
  pub clock_skew : ClockSkew m fl f

-- the headline holds of each frame with margin of each round flight of a mission that can be flown
abbrev pub HeadlineHolds : Type 0
HeadlineHolds = (m : FlownMission) (program : ProgramTree) (strays : Strays) (fl : Flight) → IsFlyable m → RunsProgram m program → IsRound m strays fl →
    (f : ℕ) → f < m.frames → HasMarginAt m fl f → Headline m program fl f
