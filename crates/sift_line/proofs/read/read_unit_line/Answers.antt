use Rattle.std.proofs.Common.{[], ◌∷◌, sym, subst, rules, w64}
use Rattle.std.proofs.lemmas.Int.{to_z-of_z}
use mir.Val.{SFits}
use Rattle.sift_line.proofs.LineForms.{field_at, same_unit}
use Rattle.sift_line.proofs.Results.{held, none_given}
use Rattle.sift_line.proofs.read.read_unit_line.Goals as goal

pub returns-in_err-f-clause-version : goal.returns-in_err-f-clause-version
returns-in_err-f-clause-version c = rw c.from_residual.ensures tt

pub returns-in_err-f-clause-printed : goal.returns-in_err-f-clause-printed
returns-in_err-f-clause-printed c = rw c.from_residual.ensures tt

pub returns-in_err-cfg-clause-version : goal.returns-in_err-cfg-clause-version
returns-in_err-cfg-clause-version c = rw c.from_residual-in_err-cfg.ensures tt

pub returns-in_err-cfg-clause-printed : goal.returns-in_err-cfg-clause-printed
returns-in_err-cfg-clause-printed c = rw c.from_residual-in_err-cfg.ensures tt

pub returns-in_err-clk-clause-version : goal.returns-in_err-clk-clause-version
returns-in_err-clk-clause-version c = rw c.from_residual-in_err-clk.ensures tt

pub returns-in_err-clk-clause-printed : goal.returns-in_err-clk-clause-printed
returns-in_err-clk-clause-printed c = rw c.from_residual-in_err-clk.ensures tt

pub returns-in_err-bad-clause-version : goal.returns-in_err-bad-clause-version
returns-in_err-bad-clause-version c = rw c.from_residual-in_err-bad.ensures tt

pub returns-in_err-bad-clause-printed : goal.returns-in_err-bad-clause-printed
returns-in_err-bad-clause-printed c = rw c.from_residual-in_err-bad.ensures tt

pub returns-in_err-ins-clause-version : goal.returns-in_err-ins-clause-version
returns-in_err-ins-clause-version c = rw c.from_residual-in_err-ins.ensures tt

pub returns-in_err-ins-clause-printed : goal.returns-in_err-ins-clause-printed
returns-in_err-ins-clause-printed c = rw c.from_residual-in_err-ins.ensures tt

pub returns-in_err-outs-clause-version : goal.returns-in_err-outs-clause-version
returns-in_err-outs-clause-version c = rw c.from_residual-in_err-outs.ensures tt

pub returns-in_err-outs-clause-printed : goal.returns-in_err-outs-clause-printed
returns-in_err-outs-clause-printed c = rw c.from_residual-in_err-outs.ensures tt

pub returns-in_err-f-clause-exact : goal.returns-in_err-f-clause-exact
returns-in_err-f-clause-exact c = λ n v us ticks agreed voted caught holds of e.
    absurd (none_given (n, v) (c.in_err-f.ensures.exact n v holds.0 holds.1 (field_at 0 _ _ e) (field_at 1 _ _ e)))

pub returns-in_err-cfg-clause-exact : goal.returns-in_err-cfg-clause-exact
returns-in_err-cfg-clause-exact c = λ n v us ticks agreed voted caught holds of e.
    absurd (none_given us (c.in_err-cfg.ensures.exact us holds.2 (field_at 2 _ _ e)))

pub returns-in_err-clk-clause-exact : goal.returns-in_err-clk-clause-exact
returns-in_err-clk-clause-exact c = λ n v us ticks agreed voted caught holds of e.
    absurd (none_given ticks (c.in_err-clk.ensures.exact ticks holds.3 (field_at 3 _ _ e)))

pub returns-in_err-ins-clause-exact : goal.returns-in_err-ins-clause-exact
returns-in_err-ins-clause-exact c = λ n v us ticks agreed voted caught holds of e.
    absurd (none_given agreed (c.in_err-ins.ensures.exact agreed holds.4 (field_at 4 _ _ e)))

pub returns-in_err-outs-clause-exact : goal.returns-in_err-outs-clause-exact
returns-in_err-outs-clause-exact c = λ n v us ticks agreed voted caught holds of e.
    absurd (none_given voted (c.in_err-outs.ensures.exact voted holds.5 (field_at 5 _ _ e)))

pub returns-in_err-bad-clause-exact : goal.returns-in_err-bad-clause-exact
returns-in_err-bad-clause-exact c = λ n v us ticks agreed voted caught holds of e.
    absurd (none_given caught (c.in_err-bad.ensures.exact caught holds.6 of (field_at 6 _ _ e)))

pub returns-clause-version : goal.returns-clause-version
returns-clause-version c = c.in_ok-bad.ensures.version

pub returns-clause-printed : goal.returns-clause-printed
returns-clause-printed c =
    let fits : SFits w64 c.in_ok-clk.clk = search rules in
    rw (to_z-of_z w64 c.in_ok-clk.clk fits)
    (λ i. c.in_ok-f.ensures.printed.0 i ∷ c.in_ok-f.ensures.printed.1 i ∷ c.in_ok-cfg.ensures.printed i ∷ c.in_ok-clk.ensures.printed i
    ∷ c.in_ok-ins.ensures.printed i ∷ c.in_ok-outs.ensures.printed i ∷ c.in_ok-bad.ensures.printed i ∷ [])

pub returns-clause-exact : goal.returns-clause-exact
returns-clause-exact c = λ n v us ticks agreed voted caught holds of e.
    let clock = c.in_ok-clk.ensures.exact ticks holds.3 (field_at 3 _ _ e) in
    let fits = subst (SFits w64) (sym (held c.in_ok-clk.clk ticks clock)) holds.3 in
    rw (to_z-of_z w64 c.in_ok-clk.clk fits)
    (same_unit c.in_ok-f.f n c.in_ok-f.u v c.in_ok-cfg.cfg us c.in_ok-clk.clk ticks c.in_ok-ins.ins agreed c.in_ok-outs.outs voted c.in_ok-bad.bad caught
    (c.in_ok-f.ensures.exact n v holds.0 holds.1 (field_at 0 _ _ e) (field_at 1 _ _ e)) (c.in_ok-cfg.ensures.exact us holds.2 (field_at 2 _ _ e))
    clock (c.in_ok-bad.ensures.exact caught holds.6 of (field_at 6 _ _ e))
    (c.in_ok-ins.ensures.exact agreed holds.4 (field_at 4 _ _ e)) (c.in_ok-outs.ensures.exact voted holds.5 (field_at 5 _ _ e)))
