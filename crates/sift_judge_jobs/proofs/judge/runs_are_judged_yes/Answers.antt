use Rattle.sift_judge_jobs.proofs.Judged.{judged_yes}
use Rattle.sift_judge_jobs.proofs.judge.runs_are_judged_yes.Goals as goal

pub returns : goal.returns
returns g c = λ flier. judged_yes (g.F.Flier.flying flier) c.lines_have_one_verdict.ensures c.sheets_have_their_version.ensures c.lines_come_apart.ensures
    c.bytes_state_one_mission.ensures.one c.bytes_state_one_mission.ensures.unrefused (c.run_is_headlined.ensures flier)
