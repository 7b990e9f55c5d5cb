-- All flights of a mission without storms have one text of each kind.
use Rattle.std.proofs.Common.{◌≡◌, ◌<◌, ℕ, List, refl, sym, ◌∙◌, ap, subst, arith}
use Rattle.sift_flight.specs.Alike.{RoundFlightsAreAlike}
use Rattle.sift_flight.specs.Flight.{Flight, HasNoStorms}
use Rattle.sift_gen.specs.Scenario.{tree_of, OneTextOfANumber}
use Rattle.sift_mission.specs.Data.{MissionData}
use Rattle.sift_mission.specs.Flown.{flown}
use Rattle.sift_mission.specs.PartsFit.{PartsFit}
use Rattle.sift_mission.specs.Premises.{PartsMakeItFlyable}
use Rattle.sift_reply.specs.Reply.{Reply, done}
use Rattle.sift_report.specs.OneText.{AlikeFlightsHaveOneText, HaveOneText}
use Rattle.sift_report.specs.Sheet.{end_of, sheet_of}
use Rattle.sift_line.specs.Line.{text_of_lines}
use Rattle.sift_line.specs.declared.line.Version.{Version}
use Rattle.sift_load.specs.Loads.{States}
use Rattle.sift_row.specs.Row.{AreOne}
use Rattle.sift_scenario.specs.Laws.{OneMission, StatedMissionsFit}
use Rattle.sift_scenario.specs.Mission.{IsMission}
use Rattle.sift_trial.specs.Laws.{DrawnMissionsHaveNoStorms}
use Rattle.sift_jobs.specs.Flights.{Flying, IsFlightOf}
use Rattle.sift_jobs.specs.Gen.{GenGives}
use Rattle.sift_jobs.specs.Run.{RunGives}
use Rattle.sift_jobs.specs.Trial.{TrialGives}
use Rattle.sift_jobs.specs.Votes.{VotesGives}
use Rattle.sift_jobs.specs.declared.run.RunJob.{RunJob}
use Rattle.sift_jobs.specs.declared.scenario.GenJob.{GenJob}
use Rattle.sift_jobs.specs.declared.trial.TrialJob.{TrialJob}
use Rattle.sift_jobs.specs.declared.votes.VotesJob.{VotesJob}

module _ (flying : Flying)
    (flies : PartsMakeItFlyable) (alike : RoundFlightsAreAlike) (texts : AlikeFlightsHaveOneText) (fit : StatedMissionsFit) where
  -- two flights of a mission without storms have one text of each kind
  one_flight : (d : MissionData) (fl gl : Flight) → PartsFit d → HasNoStorms (flown d)
      → IsFlightOf flying.gives d fl → IsFlightOf flying.gives d gl → HaveOneText d fl gl
  one_flight d fl gl fits calm one other =
      let some : 0 < d.frames = omega (arith, fits.limits.some_frame) in
      texts d fl gl some (alike (flown d) one.strays other.strays fl gl (flies d fits).0 calm some one.round other.round)

  -- so `run` gives one report for such a mission, whoever flies
  pub one_report :
      (job job' : RunJob) → job.version ≡ job'.version → (bytes : List ℕ) (d : MissionData) → States bytes d → HasNoStorms (flown d)
      → AreOne (RunGives flying job d) (RunGives flying job' d)
  one_report job job' version bytes d states calm one other (text, (fl, flies, (lines, told)), is) (text', (gl, flies', (lines', told')), is') =
      let same = one_flight d fl gl (fit states.0 d states.2) calm flies.over flies'.over in
      let versions = ap (λ (v : Version). text_of_lines (sheet_of (flown d) gl v)) version in
      is ∙ (ap done (told ∙ (same.report job.version ∙ (versions ∙ sym told'))) ∙ sym is')

  -- and `votes` one text of votes
  pub one_votes :
      (job job' : VotesJob) (bytes : List ℕ) (d : MissionData) → States bytes d → HasNoStorms (flown d)
      → AreOne (VotesGives flying job d) (VotesGives flying job' d)
  one_votes job job' bytes d states calm one other (text, (fl, flies, told), is) (text', (gl, flies', told'), is') =
      let same = one_flight d fl gl (fit states.0 d states.2) calm flies.over flies'.over in
      is ∙ (ap done (told ∙ (same.votes ∙ sym told')) ∙ sym is')

  -- and `trial` one last line for a number
  pub one_end : OneMission → DrawnMissionsHaveNoStorms → (job job' : TrialJob) → job.number ≡ job'.number
      → AreOne (TrialGives flying job) (TrialGives flying job')
  one_end mission calm job job' number one other (d, states, (text, (fl, flies, told), is)) (e, states', (text', (gl, flies', told'), is')) =
      let drawn : IsMission (tree_of job.number) e = subst (λ (n : ℕ). IsMission (tree_of n) e) (sym number) states' in
      let same : e ≡ d = mission (tree_of job.number) e d drawn states in
      let here : IsFlightOf flying.gives d gl = subst (λ (m : MissionData). IsFlightOf flying.gives m gl) same flies'.over in
      let theirs : text' ≡ end_of (flown d) gl = subst (λ (m : MissionData). text' ≡ end_of (flown m) gl) same told' in
      let none : HasNoStorms (flown d) = λ u there. rw (calm job.number d u states) refl in
      is ∙ (ap done (told ∙ ((one_flight d fl gl (fit (tree_of job.number) d states) none flies.over here).end ∙ sym theirs)) ∙ sym is')

-- a number has one text
pub one_scenario : OneTextOfANumber → (job : GenJob) → AreOne (GenGives job) (GenGives job)
one_scenario texts job one other (text, is_text, is) (text', is_text', is') = is ∙ (ap done (texts job.number text text' is_text is_text') ∙ sym is')
