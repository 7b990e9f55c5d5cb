use Rattle.std.proofs.Common.{subst, arith}
use Rattle.sift_byz.specs.Stated.{IsPath}
use Rattle.sift_byz.proofs.Testing.{not_both, one_value}
use Rattle.sift_byz.proofs.lies.path_of.Goals as goal

-- a path has three units at most
pub returns-in_err-path-clause-none : goal.returns-in_err-path-clause-none
returns-in_err-path-clause-none c =
    rw c.from_residual.ensures (λ has. omega (arith, c.in_err-path.ensures.none has.0 has.1, has.2.short, c.requires))

-- this is a path
pub returns-then-is_path-clause-path : goal.returns-then-is_path-clause-path
returns-then-is_path-clause-path c = rw c.deref.ensures.0 at (c.is_path.ensures.0 c.if-is_path.true)

-- this is none
pub returns-else-is_path-clause-none : goal.returns-else-is_path-clause-none
returns-else-is_path-clause-none c has =
    let same = one_value _ has.0 c.in_ok-path.path.items has.1 c.in_ok-path.ensures.found in
    not_both (c.is_path.ensures.1 (rw c.deref.ensures.0 (subst (IsPath c.args.units c.args.m) same has.2))) c.if-is_path.false
