use Rattle.std.proofs.Common.{◌≡◌}
use Rattle.sift_code.specs.Bound.{product, kept}
use Rattle.sift_code.specs.Kept.{rounds_at, bound_before, products_outside}
use Rattle.sift_code.proofs.checked.bound.Given as goal

-- the sum so far, and the products of the loops that are open
abbrev pub invariant-loop-instr : goal.invariant-loop-instr
invariant-loop-instr l =
    (l.bound ≡ kept (bound_before l.nest l.instr-index)) × (l.product ≡ kept (product (rounds_at l.nest l.instr-index))) × (l.outside.items ≡ products_outside (rounds_at l.nest l.instr-index))
