-- The command `gen`: the scenario of a number. It reads nothing.
use Rattle.std.specs.Prelude.{codes, ℕ, ◌≡◌, List, [], ◌∷◌, Option, option_map}
use Rattle.sift_gen.specs.Scenario.{IsTextOf}
use Rattle.sift_options.specs.Options.{Allowed, Given, any_number}
use Rattle.sift_reply.specs.Reply.{Reply, done, done_status}
use Rattle.sift_row.specs.Row.{Nothing, Row}
use Rattle.sift_jobs.specs.declared.scenario.GenJob.{GenJob}

-- the option for the number from which something is drawn
abbrev pub number_flag : Allowed
number_flag = any_number (codes "--number")

-- what options ask for: the number has to be given
abbrev pub gen_job_of : Given → Option GenJob
gen_job_of options = option_map (λ number. record { number = number }) (options number_flag.name)

-- the text of the scenario with the number
abbrev pub GenGives : GenJob → Reply → Type 0
GenGives job came = (text : List ℕ) × IsTextOf job.number text × (came ≡ done text)

-- its row
abbrev pub gen_row : Row GenJob
gen_row = record {
  word = codes "gen";
  flags = number_flag ∷ [];
  job_of = gen_job_of;
  does = λ job. Nothing (GenGives job);
  statuses = done_status ∷ [];
  by_one = λ job. job;
}
