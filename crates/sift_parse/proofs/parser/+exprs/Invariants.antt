use Rattle.std.proofs.Common.{◌+◌, ◌-◌, ◌*◌, ◌≤◌, length}
use Rattle.sift_lang.specs.Tree.{term_of}
use Rattle.sift_parse.proofs.Parsing.Chains.{Leads}
use Rattle.sift_parse.proofs.parser.+exprs.Given as goal

abbrev pub decreases-level : goal.decreases-level
decreases-level l = 16 * length l.tokens.now.rest.now + (7 - l.n)

abbrev pub decreases-chain : goal.decreases-chain
decreases-chain l = 16 * length l.tokens.now.rest.now + 1

abbrev pub decreases-prim : goal.decreases-prim
decreases-prim l = 16 * length l.tokens.now.rest.now + 1

abbrev pub decreases-closed : goal.decreases-closed
decreases-closed l = 16 * length l.tokens.now.rest.now + 8

abbrev pub decreases-middle : goal.decreases-middle
decreases-middle l = 16 * length l.tokens.now.rest.now + 9

-- what is left to read leads where all of it led
abbrev pub invariant-chain-loop-op : goal.invariant-chain-loop-op
invariant-chain-loop-op l = record {
  shorter : length l.tokens.rest.now ≤ length l.initial.tokens.rest.now;
  leads : Leads l.n (term_of l.initial.left) l.initial.tokens.rest.now (term_of l.left) l.tokens.rest.now;
}

abbrev pub decreases-chain-loop-op : goal.decreases-chain-loop-op
decreases-chain-loop-op l = length l.tokens.rest.now
