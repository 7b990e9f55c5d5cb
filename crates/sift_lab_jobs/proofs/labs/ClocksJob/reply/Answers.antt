use Rattle.std.proofs.Common.{◌≡◌, pos, subst, arith}
use Rattle.std.proofs.lemmas.Int.{ints}
use Rattle.sift_clocklab.specs.Laboratory.{run_of}
use Rattle.sift_lab_jobs.specs.Clocks.{ClocksGives, LabNumbers}
use Rattle.sift_lab_jobs.proofs.DrawnText.{drawn_text, held_as, kept_as}
use Rattle.sift_lab_jobs.proofs.labs.ClocksJob.reply.Goals as goal

-- the text of the run that was drawn
pub returns : goal.returns
returns c =
    let held = c.self.inside in
    let numbers : LabNumbers = record {
      n = held.n;
      m = held.m;
      skew = held.skew;
      error = held.error;
      rate = held.rate;
      rounds = held.rounds;
      number = held.number;
    } in
    let skew : held_as c.into-skew.result ≡ pos held.skew = kept_as _ held.skew c.into-skew.ensures (omega (arith, ints, c.self.invariant.small_skew.1)) in
    let error : held_as c.into-error.result ≡ pos held.error = kept_as _ held.error c.into-error.ensures (omega (arith, ints, c.self.invariant.small_error.1)) in
    let rate : held_as c.into-rate.result ≡ pos held.rate = kept_as _ held.rate c.into-rate.ensures (omega (arith, ints, c.self.invariant.small_rate.1)) in
    subst (λ (it : LabNumbers). ClocksGives it c.done.result) c.self.view_is
    (drawn_text c.drawn_runs_are_of_the_draws.ensures numbers _ _ _ _ _ _ (run_of c.in_ok-run.run') _ _
    skew error rate c.in-Ok.ensures.lab c.in-Ok.ensures.face c.in-Ok.ensures.ready
    c.in_ok-run.ensures.ran c.in_ok-text.ensures c.done.ensures)
