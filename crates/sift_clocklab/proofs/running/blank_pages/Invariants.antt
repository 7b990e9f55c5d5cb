use Rattle.std.proofs.Common.{◌≡◌, vec_len}
use Rattle.std.specs.List.{All}
use Rattle.sift_clocklab.specs.Laboratory.{laboratory_of}
use Rattle.sift_clocklab.specs.Pages.{IsBlank}
use Rattle.sift_clocklab.proofs.running.blank_pages.Given as goal

-- the pages so far
abbrev pub invariant-loop : goal.invariant-loop
invariant-loop l = record {
  each : vec_len l.pages ≡ l.counter;
  blank : All (IsBlank (laboratory_of l.lab)) l.pages.items;
}
