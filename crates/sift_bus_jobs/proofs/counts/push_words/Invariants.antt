use Rattle.std.proofs.Common.{◌≡◌, ◌++◌, nat_lt, string_bytes}
use Rattle.std.specs.List.{flat_map, list_any, range_with_len, sum_by}
use Rattle.sift_bus_port.specs.Logs.{count_in, log_of}
use Rattle.sift_bus_jobs.specs.Text.{frame_text}
use Rattle.sift_bus_jobs.proofs.counts.push_words.Given as goal

-- the lines of the frames so far are written, and it is known whether there is one
abbrev pub invariant-loop-f : goal.invariant-loop-f
invariant-loop-f l =
    (string_bytes l.text ≡ string_bytes l.initial.text
    ++ flat_map (λ f. frame_text l.bus f (sum_by (λ log. count_in (log_of log) f l.bus) l.logs)) (range_with_len 0 l.f))
    × (l.bad ≡ list_any (λ f. nat_lt 0 (sum_by (λ log. count_in (log_of log) f l.bus) l.logs)) (range_with_len 0 l.f))
