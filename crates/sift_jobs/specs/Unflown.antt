-- The commands that fly nothing: `ideal` gives the outputs of the ideal machine, and `check` that the input states a mission.
use Rattle.std.specs.Prelude.{codes, ◌≡◌, [], ◌∷◌, false, Some}
use Rattle.sift_mission.specs.Data.{MissionData}
use Rattle.sift_reply.specs.Reply.{Reply, done, done_status}
use Rattle.sift_report.specs.Ideal.{ideal_of}
use Rattle.sift_row.specs.Row.{Mission, Row}
use Rattle.sift_jobs.specs.declared.ideal.IdealJob.{IdealJob}
use Rattle.sift_jobs.specs.declared.check.CheckJob.{CheckJob}

-- what the ideal machine puts out over the mission's own sensor words
abbrev pub IdealGives : IdealJob → MissionData → Reply → Type 0
IdealGives job mission came = came ≡ done (ideal_of mission)

-- that the input states one
abbrev pub CheckGives : CheckJob → MissionData → Reply → Type 0
CheckGives job mission came = came ≡ done (codes "ok\n")

-- their rows
abbrev pub ideal_row : Row IdealJob
ideal_row = record {
  word = codes "ideal";
  flags = [];
  job_of = λ options. Some (record {});
  does = λ job. Mission false (IdealGives job);
  statuses = done_status ∷ [];
  by_one = λ job. job;
}

abbrev pub check_row : Row CheckJob
check_row = record {
  word = codes "check";
  flags = [];
  job_of = λ options. Some (record {});
  does = λ job. Mission false (CheckGives job);
  statuses = done_status ∷ [];
  by_one = λ job. job;
}
