-- The command `trial`: the end of the report of a flight of the scenario with a number. It reads nothing.
use Rattle.std.specs.Prelude.{codes, [], ◌∷◌, Option, option_map}
use Rattle.std.specs.Option.{option_and_then}
use Rattle.sift_gen.specs.Scenario.{tree_of}
use Rattle.sift_mission.specs.Data.{MissionData}
use Rattle.sift_options.specs.Options.{Given}
use Rattle.sift_reply.specs.Duty.{Duty}
use Rattle.sift_reply.specs.Reply.{Reply, done_status}
use Rattle.sift_row.specs.Row.{Nothing, Row, duty_of}
use Rattle.sift_scenario.specs.Mission.{IsMission}
use Rattle.sift_jobs.specs.Flights.{Flying, RepliesWith}
use Rattle.sift_jobs.specs.Gen.{number_flag}
use Rattle.sift_jobs.specs.Run.{order_flag, workers_flag, workers_of}
use Rattle.sift_jobs.specs.declared.order.Telling.TheVariants.{LastLine}
use Rattle.sift_jobs.specs.declared.order.Workers.TheVariants.{One}
use Rattle.sift_jobs.specs.declared.trial.TrialJob.{TrialJob}

-- what options ask for: the number, which has to be given, and the workers
abbrev pub trial_job_of : Given → Option TrialJob
trial_job_of options = option_and_then
    (λ number. option_map (λ workers. record { number = number; workers = workers })
    (workers_of (options workers_flag.name) (options order_flag.name))) (options number_flag.name)

-- the last line of the report of a flight of the mission that the scenario with the number states, by these workers
abbrev pub TrialGives : Flying → TrialJob → Reply → Type 0
TrialGives flying job came = (mission : MissionData) × IsMission (tree_of job.number) mission × RepliesWith flying job.workers mission LastLine came

-- so this is what it has to do
abbrev pub trial_duty : Flying → TrialJob → Duty
trial_duty flying job = duty_of (Nothing (TrialGives flying job))

-- its row
abbrev pub trial_row : Flying → Row TrialJob
trial_row flying = record {
  word = codes "trial";
  flags = workers_flag ∷ order_flag ∷ number_flag ∷ [];
  job_of = trial_job_of;
  does = λ job. Nothing (TrialGives flying job);
  statuses = done_status ∷ [];
  by_one = λ job. record { number = job.number; workers = One 0 };
}
