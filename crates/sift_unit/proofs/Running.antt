-- A board runs a task.
use Rattle.std.proofs.Common.{◌≡◌, ◌<◌, arith}
use mathlib.Core.Logic.{dite}
use native.Mathlib.Decide.{ℕ_discrete}
use Rattle.sift_buffer.specs.Conduct.{Conduct as Acts}
use Rattle.sift_mission.specs.Data.{FlownMission}
use Rattle.sift_mission.specs.Fits.{Fits}
use Rattle.sift_mission.specs.laws.Tasks.{few_tasks}
use Rattle.sift_unit_frame.specs.Memory.{Memory, run}
use Rattle.sift_unit.specs.Desk.{Desk}
use Rattle.sift_unit.specs.Going.{Accounts, Words, Fate, InRange, Going}
use Rattle.sift_unit.proofs.Kept.{heard_run, ran_kept, matches_run, settled_run, shape_run}
use Rattle.sift_unit.proofs.Made.{ran_new}
use Rattle.sift_unit.proofs.Noting.{onto, range_onto, slot_acts, heard_below, ran_below}

module _ (m : FlownMission) (fit : Fits m) where
  -- the memory after the task was run at whose number the board stands
  abbrev pub ran_on : Desk → Memory
  ran_on b = run m b.cfg b.unit b.last b.slot b.memory

  -- the board stays in range
  pub run_range : (b : Desk) → InRange m b → b.slot < m.tasks → InRange m (onto m fit b (ran_on b))
  run_range b r low = let few = few_tasks m fit in range_onto m fit b (ran_on b) r (omega arith) (shape_run m b.cfg b.unit b.last b.slot b.memory r.shape)

  -- where a board stands that runs a task
  pub record AtRun (b : Desk) : Type 0 where
    pub part : b.part ≡ 1
    pub slot : b.slot < m.tasks
    pub subframe : b.subframe ≡ m.run_in b.cfg b.slot

  -- a fate of the board afterwards is one of the board before
  run_fate : (b : Desk) (c : Acts) (a : Accounts) (h : Words) → InRange m b → AtRun b → Fate m (onto m fit b (ran_on b)) c a h → Fate m b c a h
  run_fate b c a h r at fate = let part = at.part in let low = at.slot in let nt = few_tasks m fit in let few = fit.numbered.few in let other = r.other in record {
    heard = fate.heard;
    accounts = fate.accounts;
    cfg = fate.cfg;
    clk = fate.clk;
    agrees = λ member. let ag = fate.agrees member in record {
      matches = λ k sk past. matches_run m b.cfg b.unit b.frame b.clk (a b.frame) (h b.frame) b.last b.slot k b.memory (ag.matches k sk (omega arith));
      settled = λ past. settled_run m b.cfg b.unit b.frame b.clk (a b.frame) (h b.frame) b.last b.slot b.memory (ag.settled (omega arith));
    };
  }

  -- a board that runs a task keeps what holds of it
  pub run_going : (b : Desk) (c : Acts) → Going m b c → AtRun b → Going m (onto m fit b (ran_on b)) c
  run_going b c g at =
      let r = g.range in let few = fit.numbered.few in let nt = few_tasks m fit in let part = at.part in let low' = at.slot in let sub = at.subframe in
      let low : b.slot < m.slots = omega arith in
      record {
        range = run_range b r low';
        progress = g.progress;
        left = g.left;
        meets = λ a h fate'.
            let other = r.other in
            let fate = run_fate b c a h r at fate' in
            let mt = g.meets a h fate in
            record {
              acts = slot_acts m fit b c a h r fate.cfg low (omega arith) (λ z. absurd (omega arith)) mt.acts;
              ended = mt.ended;
              begins = mt.begins;
              last = mt.last;
              places = λ zero few' sub' p below call. absurd (omega arith);
              remembers = λ member. let rm = mt.remembers member in let ag = fate.agrees member in record {
                heard = λ k sk past. heard_run m b.cfg b.unit b.frame b.clk (a b.frame) (h b.frame) b.last b.slot k b.memory
                    (rm.heard k sk (heard_below m fit b k r low sk (λ z e. absurd (omega arith)) past));
                ran = λ w few' past. let nk = fit.counted.task w few' in dite (ℕ_discrete (m.task w) b.slot)
                    (λ e. ran_new m b.cfg b.unit b.frame b.clk (a b.frame) (h b.frame) b.last fit r.config b.slot b.memory r.shape member
                    (λ k' sk' early. ag.matches k' sk' (let nk' = fit.numbered.low k' sk' in omega arith)) w few' e)
                    (λ ne. ran_kept m b.cfg b.unit b.frame b.clk (a b.frame) (h b.frame) b.last b.slot w b.memory ne
                    (rm.ran w few' (ran_below m fit b (m.task w) r low nk (λ z. ne) past)));
              };
            };
      }
