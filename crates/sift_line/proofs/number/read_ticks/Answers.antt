use Rattle.std.proofs.Common.{Some, ap, sym}
use Rattle.sift_line.proofs.Numerals.{no_ticks}
use Rattle.sift_line.proofs.Results.{same_where}
use Rattle.sift_line.proofs.number.read_ticks.Goals as goal

pub returns-then-eq-clause-exact : goal.returns-then-eq-clause-exact
returns-then-eq-clause-exact c = λ ticks fit e.
    ap Some (sym (no_ticks ticks c.args.text.now fit e (same_where c.eq.result _ _ c.eq.ensures c.if-eq.true)))
