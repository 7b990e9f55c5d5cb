-- The command `run`: by which workers it flies, as for every command that flies, the report of a flight in the version asked for, and what its lines tell.
use Rattle.std.specs.Prelude.{codes, ℕ, [], ◌∷◌, true, Option, Some, None, option_map, unwrap_or, nat_eq, if◌then◌else◌, ◌≡◌, List}
use Rattle.sift_base.specs.Units.{unit_limit}
use Rattle.sift_flight.specs.Flight.{Flight}
use Rattle.sift_load.specs.Loads.{LoadsThen, States}
use Rattle.sift_mission.specs.Data.{MissionData}
use Rattle.sift_options.specs.Options.{Allowed, Given, digits_to, any_number, within}
use Rattle.sift_reply.specs.Reply.{Reply, done_status}
use Rattle.sift_line.specs.declared.line.ReportLine.{ReportLine}
use Rattle.sift_line.specs.declared.line.Version.{Version}
use Rattle.sift_line.specs.declared.line.Version.TheVariants.{One, Two}
use Rattle.sift_mission.specs.Flown.{flown}
use Rattle.sift_report.specs.Caught.{ReportCaught}
use Rattle.sift_report.specs.Headline.{ReportHeadline}
use Rattle.sift_report.specs.Sheet.{sheet_of}
use Rattle.sift_row.specs.Row.{Mission, Row}
use Rattle.sift_jobs.specs.Flights.{Flying, IsFlownBy, IsTelling, RepliesWith}
use Rattle.sift_jobs.specs.Several.{fewest_workers}
use Rattle.sift_jobs.specs.declared.run.RunJob.{RunJob}
use Rattle.sift_jobs.specs.declared.order.Telling.TheVariants.{Report}
use Rattle.sift_jobs.specs.declared.order.Workers.{Workers}
use Rattle.sift_jobs.specs.declared.order.Workers.TheVariants as worker

-- ---- the workers that fly a mission, and how options ask for them

-- the options for them: how many, and in which order one worker's units step
abbrev pub workers_flag : Allowed
workers_flag = digits_to unit_limit (codes "--workers")

abbrev pub order_flag : Allowed
order_flag = any_number (codes "--order")

-- the workers that these options ask for: one for each unit where there is neither, one alone for an order or for 1, and else so many, without order
abbrev pub workers_of : (workers order : Option ℕ) → Option Workers
workers_of None None = Some worker.OneEach
workers_of None (Some order) = Some (worker.One order)
workers_of (Some count) None =
    if nat_eq count 1 then Some (worker.One 0) else option_map worker.Several (within fewest_workers unit_limit (Some count))
workers_of (Some count) (Some order) = if nat_eq count 1 then Some (worker.One order) else None

-- ---- the command

-- the version of reports where none is asked for
abbrev pub usual_version : ℕ
usual_version = 2

-- the option for a version
abbrev pub report_flag : Allowed
report_flag = digits_to usual_version (codes "--report")

-- the version that options ask for
abbrev pub version_of : Given → Version
version_of options = if nat_eq (unwrap_or (options report_flag.name) usual_version) 1 then One else Two

-- what options ask for: the workers, and the version
abbrev pub run_job_of : Given → Option RunJob
run_job_of options = option_map (λ workers. record { workers = workers; version = version_of options })
    (workers_of (options workers_flag.name) (options order_flag.name))

-- the report of a flight of the mission by these workers, in that version; what it prints are lines
abbrev pub RunGives : Flying → RunJob → MissionData → Reply → Type 0
RunGives flying job mission = RepliesWith flying job.workers mission (Report job.version)

-- its row
abbrev pub run_row : Flying → Row RunJob
run_row flying = record {
  word = codes "run";
  flags = workers_flag ∷ order_flag ∷ report_flag ∷ [];
  job_of = run_job_of;
  does = λ job. Mission true (RunGives flying job);
  statuses = done_status ∷ [];
  by_one = λ job. record { workers = worker.One 0; version = job.version };
}

-- ---- what the lines of its report tell

module _ (flying : Flying) where
  -- the text is the report, in the version asked for, of a flight of the mission that the bytes state, by the workers asked for; and this
  -- holds of the mission and the lines
  pub record IsReported (Holds : MissionData → List ReportLine → Type 0) (job : RunJob) (bytes text : List ℕ) : Type 0 where
    pub mission : MissionData
    pub flight : Flight
    pub stated : States bytes mission
    pub flies : IsFlownBy flying job.workers mission flight
    pub told : IsTelling mission flight (Report job.version) text
    pub holds : Holds mission (sheet_of (flown mission) flight job.version)

  -- so it is with each reply of `run` that has the status 0
  abbrev pub RunIsReported : (MissionData → List ReportLine → Type 0) → Type 0
  RunIsReported Holds = (job : RunJob) (bytes : List ℕ) (reply : Reply) → LoadsThen (RunGives flying job) bytes reply → reply.status ≡ done_status
      → IsReported Holds job bytes reply.text

  -- its lines have the headline
  abbrev pub RunIsHeadlined : Type 0
  RunIsHeadlined = RunIsReported ReportHeadline

  -- and they tell what lies cost
  abbrev pub RunTellsCaught : Type 0
  RunTellsCaught = RunIsReported ReportCaught
