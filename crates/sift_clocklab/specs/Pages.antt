-- Room for a run, taken before its first round. No public clause cites this module.
use Rattle.std.specs.Prelude.{◌≡◌, ◌+◌, ◌*◌, ◌≤◌, [], ◌∷◌, vec_len, vec_capacity}
use Rattle.sift_clocklab.specs.declared.lab.LabRun.{LabRun}
use Rattle.sift_clocklab.specs.declared.running.Page.{Page}
use Rattle.sift_clocklab.specs.Laboratory.{Laboratory, run_of, working_of}

-- the lists of a page are empty, with room for a round
pub record IsBlank (lab : Laboratory) (page : Page) : Type 0 where
  pub no_offsets : page.offsets.items ≡ []
  pub none_shown : page.shown.items ≡ []
  pub room_for_offsets : working_of lab ≤ vec_capacity page.offsets
  pub room_for_shown : working_of lab * lab.m ≤ vec_capacity page.shown

-- a run before its first round has the starts alone, with room for a list of offsets and of what is shown for each round
pub record IsStarting (lab : Laboratory) (run : LabRun) : Type 0 where
  pub offsets : (run_of run).offsets ≡ lab.start ∷ []
  pub shown : (run_of run).shown ≡ []
  pub one : vec_len run.offsets ≡ 1
  pub none : vec_len run.shown ≡ 0
  pub room_for_offsets : lab.rounds + 1 ≤ vec_capacity run.offsets
  pub room_for_shown : lab.rounds ≤ vec_capacity run.shown
