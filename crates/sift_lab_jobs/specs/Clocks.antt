-- The command `clocks`: the run of a laboratory that is drawn from a number. It reads nothing.
use Rattle.std.specs.Prelude.{codes, ℕ, ◌≡◌, ◌⊎◌, List, [], ◌∷◌, pos, Option, Some}
use Rattle.sift_clocklab.specs.Conditions.{IsAdmitted, IsRefused}
use Rattle.sift_clocklab.specs.Draws.{drawn_lab, drawn_run}
use Rattle.sift_clocklab.specs.Laboratory.{Laboratory, Run}
use Rattle.sift_clocklab.specs.Text.{IsTextOf}
use Rattle.sift_document.specs.Document.{◌>>=◌}
use Rattle.sift_options.specs.Options.{Allowed, Given, any_number, within}
use Rattle.sift_reply.specs.Reply.{Reply, done, done_status}
use Rattle.sift_row.specs.Row.{Nothing, Row}

-- n clocks, m of them faulty; the skew that they are to keep, the most that they are misread by and drift by in a round;
-- how many rounds they run; and the number that all else is drawn from
pub record LabNumbers : Type 0 where
  pub n : ℕ
  pub m : ℕ
  pub skew : ℕ
  pub error : ℕ
  pub rate : ℕ
  pub rounds : ℕ
  pub number : ℕ

-- ---- what options ask for

-- the options
abbrev pub n_flag : Allowed
n_flag = any_number (codes "--n")

abbrev pub m_flag : Allowed
m_flag = any_number (codes "--m")

abbrev pub skew_flag : Allowed
skew_flag = any_number (codes "--skew")

abbrev pub error_flag : Allowed
error_flag = any_number (codes "--error")

abbrev pub rate_flag : Allowed
rate_flag = any_number (codes "--rate")

abbrev pub rounds_flag : Allowed
rounds_flag = any_number (codes "--rounds")

abbrev pub number_flag : Allowed
number_flag = any_number (codes "--number")

-- what options ask for: each of the seven has to be given, in its range
abbrev pub clocks_job_of : Given → Option LabNumbers
clocks_job_of options =
    within 1 32 (options n_flag.name) >>= λ n.
    within 0 10 (options m_flag.name) >>= λ m.
    within 0 8000 (options skew_flag.name) >>= λ skew.
    within 0 8000 (options error_flag.name) >>= λ error.
    within 0 8000 (options rate_flag.name) >>= λ rate.
    within 1 1000 (options rounds_flag.name) >>= λ rounds.
    options number_flag.name >>= λ number.
    Some (record { n = n; m = m; skew = skew; error = error; rate = rate; rounds = rounds; number = number })

-- ---- what it gives

-- the laboratory that is drawn
abbrev pub lab_of : LabNumbers → Laboratory
lab_of lab = drawn_lab lab.n lab.m (pos lab.skew) (pos lab.error) (pos lab.rate) lab.rounds lab.number

-- and its run, with the faulty clocks that are drawn for it
abbrev pub run_of : LabNumbers → Run
run_of lab = drawn_run lab.n lab.m (pos lab.skew) (pos lab.error) (pos lab.rate) lab.rounds lab.number

-- the reply where the laboratory isn't admitted
abbrev pub not_admitted : Reply
not_admitted = record { status = 17; text = codes "not admitted\n" }

-- the text of the run, where the laboratory is admitted, or that it isn't
abbrev pub ClocksGives : LabNumbers → Reply → Type 0
ClocksGives lab came =
    ((text : List ℕ) × IsAdmitted lab.n lab.m (pos lab.skew) (pos lab.error) (pos lab.rate)
    × IsTextOf (lab_of lab) (run_of lab).offsets text × (came ≡ done text))
    ⊎ (IsRefused lab.n lab.m (pos lab.skew) (pos lab.error) (pos lab.rate) × (came ≡ not_admitted))

-- the statuses of its replies
abbrev pub clocks_statuses : List ℕ
clocks_statuses = done_status ∷ 17 ∷ []

-- its row
abbrev pub clocks_row : Row LabNumbers
clocks_row = record {
  word = codes "clocks";
  flags = n_flag ∷ m_flag ∷ skew_flag ∷ error_flag ∷ rate_flag ∷ rounds_flag ∷ number_flag ∷ [];
  job_of = clocks_job_of;
  does = λ lab. Nothing (ClocksGives lab);
  statuses = clocks_statuses;
  by_one = λ lab. lab;
}
