use Rattle.std.proofs.Common.{◌≡◌, ◌≤◌, ◌*◌, ◌^◌, take}
use Rattle.std.specs.List.{sum_by}
use Rattle.sift_bus_port.specs.Logs.{count_in, log_of}
use Rattle.sift_bus_jobs.proofs.counts.wrong_in.Given as goal

-- the words that the logs so far count, each of them few
abbrev pub invariant-loop-log : goal.invariant-loop-log
invariant-loop-log l =
    (l.words ≡ sum_by (λ log. count_in (log_of log) l.f l.bus) (take l.log-index l.logs)) × (l.words ≤ l.log-index * 2 ^ 32)
