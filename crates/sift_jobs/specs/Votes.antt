-- The command `votes`: the votes of a flight.
use Rattle.std.specs.Prelude.{codes, [], ◌∷◌, true, Option, option_map}
use Rattle.sift_mission.specs.Data.{MissionData}
use Rattle.sift_options.specs.Options.{Given}
use Rattle.sift_reply.specs.Reply.{Reply, done_status}
use Rattle.sift_row.specs.Row.{Mission, Row}
use Rattle.sift_jobs.specs.Flights.{Flying, RepliesWith}
use Rattle.sift_jobs.specs.Run.{order_flag, workers_flag, workers_of}
use Rattle.sift_jobs.specs.declared.order.Telling.TheVariants.{Votes}
use Rattle.sift_jobs.specs.declared.order.Workers.TheVariants.{One}
use Rattle.sift_jobs.specs.declared.votes.VotesJob.{VotesJob}

-- what options ask for: the workers
abbrev pub votes_job_of : Given → Option VotesJob
votes_job_of options = option_map (λ workers. record { workers = workers }) (workers_of (options workers_flag.name) (options order_flag.name))

-- the votes of a flight of the mission by these workers
abbrev pub VotesGives : Flying → VotesJob → MissionData → Reply → Type 0
VotesGives flying job mission = RepliesWith flying job.workers mission Votes

-- its row
abbrev pub votes_row : Flying → Row VotesJob
votes_row flying = record {
  word = codes "votes";
  flags = workers_flag ∷ order_flag ∷ [];
  job_of = votes_job_of;
  does = λ job. Mission true (VotesGives flying job);
  statuses = done_status ∷ [];
  by_one = λ job. record { workers = One 0 };
}
