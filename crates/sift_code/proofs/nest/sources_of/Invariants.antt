use Rattle.std.proofs.Common.{◌≡◌, ◌≤◌, length, map, take, vec_capacity}
use Rattle.sift_code.specs.Sources.{source_of}
use Rattle.sift_code.proofs.nest.sources_of.Given as goal

-- where the instructions up to here read
abbrev pub invariant-loop-instr : goal.invariant-loop-instr
invariant-loop-instr l = record {
  room : length l.code ≤ vec_capacity l.sources;
  tell : l.sources.items ≡ map source_of (take l.instr-index l.code);
}
