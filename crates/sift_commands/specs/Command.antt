-- The commands of the program: the rows that are listed, and what is promised of them.
use Rattle.sift_bus_jobs.specs.Buses.{buses_row}
use Rattle.sift_jobs.specs.Flights.{Flying}
use Rattle.sift_jobs.specs.Gen.{gen_row}
use Rattle.sift_jobs.specs.Plan.{plan_row}
use Rattle.sift_jobs.specs.Run.{run_row}
use Rattle.sift_jobs.specs.Trial.{trial_row}
use Rattle.sift_jobs.specs.Unflown.{check_row, ideal_row}
use Rattle.sift_jobs.specs.Votes.{votes_row}
use Rattle.sift_judge_jobs.specs.Judge.{judge_row}
use Rattle.sift_lab_jobs.specs.Byz.{byz_row}
use Rattle.sift_lab_jobs.specs.Clocks.{clocks_row}
use Rattle.sift_reply.specs.Promise.{Commands}
use Rattle.sift_row.specs.Rows.{Rows, commands_of, no_rows, standing_for, ◌⊕◌}
use Rattle.sift_commands.specs.declared.list.Command.{Command}

module _ (flying : Flying) where
  -- the rows of the commands, where this flies
  abbrev pub program : Rows Command
  program = standing_for (λ command. command.listed) (λ listed. record { listed = listed })
      (run_row flying
      ⊕ votes_row flying
      ⊕ ideal_row
      ⊕ check_row
      ⊕ gen_row
      ⊕ trial_row flying
      ⊕ plan_row
      ⊕ judge_row
      ⊕ buses_row
      ⊕ byz_row
      ⊕ clocks_row
      ⊕ no_rows)

  -- which words ask for each, and what it has to do
  abbrev pub commands : Commands Command
  commands = commands_of program
