use Rattle.std.proofs.Common.{◌≡◌, ℕ, suc, ◌+◌, ◌-◌, ◌<◌, List, refl, ap, ◌∙◌, arith}
use Rattle.std.specs.Prelude.{slice_index, slice_set}
use Rattle.sift_code.specs.declared.machine.Machine.{Machine}
use Rattle.sift_code.specs.declared.machine.TheConstants.{LEFTS_AT}
use Rattle.sift_code.specs.Work.{at_place, lefts_start, EndsRound}
use Rattle.sift_code.proofs.machine.Machine.end_round.Goals as goal

-- where some rounds are left but this one, they are counted and the next one starts
next_round : (left n start : ℕ) (m : Machine) (ws vs : List ℕ) → left ≡ n + 1 → 0 < n → vs ≡ slice_set ws (lefts_start + m.depth - 1) n
    → EndsRound left start m (at_place start m) ws vs
next_round (suc (suc k)) n start m ws vs one some is = (refl, is ∙ ap (slice_set ws (lefts_start + m.depth - 1)) (omega arith))
next_round left n start m ws vs one some is = absurd (omega arith)

pub returns-then-left-gt1 : goal.returns-then-left-gt1
returns-then-left-gt1 c =
    let left : ℕ = slice_index c.args.words.now (LEFTS_AT + c.args.self.now.depth - 1) in
    let one : left ≡ c.of.result + 1 = omega (arith, c.read.ensures, c.get-left.ensures, c.of.ensures, c.if-left-gt1.true) in
    record { ended = next_round left c.of.result c.args.start c.args.self.now _ _ one (omega (arith, c.of.ensures, c.if-left-gt1.true)) c.write.ensures }

pub write-requires : goal.write-requires
write-requires c = omega arith

pub returns-else-left-gt1 : goal.returns-else-left-gt1
returns-else-left-gt1 c = grind arith

pub overflow_sub-at : goal.overflow_sub-at
overflow_sub-at c = omega arith

pub read-requires : goal.read-requires
read-requires c = omega arith

pub overflow_sub-self : goal.overflow_sub-self
overflow_sub-self c = grind arith

pub overflow_add-at : goal.overflow_add-at
overflow_add-at c = grind arith
