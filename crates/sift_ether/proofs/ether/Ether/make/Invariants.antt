use Rattle.std.proofs.Common.{◌≡◌, ◌≤◌, ◌-◌, vec_capacity, []}
use Rattle.sift_ether.specs.Deeds.{blanks_from}
use Rattle.sift_ether.specs.Tokens.{AreNewAt}
use Rattle.sift_ether.proofs.ether.Ether.make.Given as goal

-- the tokens of the units below the number, and the head seat stands for the others
abbrev pub invariant-loop-number : goal.invariant-loop-number
invariant-loop-number l = record {
  within : l.number ≤ l.layout.units;
  room : l.layout.units ≤ vec_capacity l.tokens;
  head : (l.head.table_id ≡ l.table.shared.table_id) × (l.head.me ≡ (blanks_from l.number (l.layout.units - l.number), []));
  tokens : AreNewAt l.table.shared.table_id l.layout l.frames l.number l.tokens.items;
}
