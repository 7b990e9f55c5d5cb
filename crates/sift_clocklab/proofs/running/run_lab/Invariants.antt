use Rattle.std.proofs.Common.{◌≡◌, ◌+◌, ◌≤◌, length, vec_len, vec_capacity}
use Rattle.std.specs.List.{All}
use Rattle.sift_clocklab.specs.Laboratory.{laboratory_of, run_of}
use Rattle.sift_clocklab.specs.Rounds.{run_offsets}
use Rattle.sift_clocklab.specs.Showing.{ShowsRounds, pairs_of}
use Rattle.sift_clocklab.specs.Pages.{IsBlank}
use Rattle.sift_clocklab.proofs.running.run_lab.Given as goal

-- the rounds so far were run, and there is a page for each that is left
abbrev pub invariant-loop-page : goal.invariant-loop-page
invariant-loop-page g l =
    let lab = laboratory_of l.lab in record {
      shown : ShowsRounds g.F.Face.allows (pairs_of lab) 0 l.fn.face (run_of l.run).shown l.face;
      offsets : (run_of l.run).offsets ≡ run_offsets lab (run_of l.run).shown;
      blank : All (IsBlank lab) l.pages.items;
      left : vec_len l.pages + vec_len l.run.shown ≡ lab.rounds;
      one_more : vec_len l.run.offsets ≡ vec_len l.run.shown + 1;
      rounds : length (run_of l.run).shown ≡ vec_len l.run.shown;
      lists : length (run_of l.run).offsets ≡ vec_len l.run.offsets;
      room_for_offsets : lab.rounds + 1 ≤ vec_capacity l.run.offsets;
      room_for_shown : lab.rounds ≤ vec_capacity l.run.shown;
    }

abbrev pub decreases-loop-page : goal.decreases-loop-page
decreases-loop-page g l = vec_len l.pages
