use Rattle.std.proofs.lemmas.Bool.{ltb-true, lt-ltb}
use Rattle.sift_code.proofs.refusal.is_too_high.Goals as goal

-- the height after the instruction is compared with the limit
pub returns : goal.returns
returns c =
    rw (c.from.ensures, c.from-2.ensures, c.saturating_sub-left.ensures, c.pops.ensures, c.pushes.ensures) (ltb-true _ _, lt-ltb _ _)
