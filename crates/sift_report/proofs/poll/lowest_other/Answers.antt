use Rattle.std.proofs.Common.{◌≡◌, ◌≢◌, ◌∙◌, sym, ap, Some}
use Rattle.std.specs.Prelude.{slice_get}
use Rattle.std.proofs.lemmas.Bool.{eqb-true, eqb-false}
use Rattle.sift_base.specs.laws.Counts.{has_place}
use Rattle.sift_report.proofs.Heard.{lowest_first, lowest_second}
use Rattle.sift_report.proofs.poll.lowest_other.Goals as goal

-- the unit itself is the lowest
own : (c : goal.After-unit_at) → slice_get c.args.config.now 0 ≡ Some c.args.u
own c = c.unit_at-lowest.ensures ∙ ap Some (eqb-true c.unit_at-lowest.result c.args.u (sym c.eq.ensures ∙ c.if-eq.true))

pub returns-then-eq-clause-lowest : goal.returns-then-eq-clause-lowest
returns-then-eq-clause-lowest c = sym (lowest_second c.args.config.now c.args.u c.unit_at.result c.requires.ascending (own c) c.unit_at.ensures).0

pub returns-then-eq-clause-other : goal.returns-then-eq-clause-other
returns-then-eq-clause-other c = (lowest_second c.args.config.now c.args.u c.unit_at.result c.requires.ascending (own c) c.unit_at.ensures).1

pub returns-then-eq-clause-there : goal.returns-then-eq-clause-there
returns-then-eq-clause-there c = has_place c.args.config.now 1 c.unit_at.result c.unit_at.ensures

pub returns-else-eq-clause-lowest : goal.returns-else-eq-clause-lowest
returns-else-eq-clause-lowest c =
    let other : c.unit_at-lowest.result ≢ c.args.u = eqb-false c.unit_at-lowest.result c.args.u (sym c.eq.ensures ∙ c.if-eq.false) in
    sym (lowest_first c.args.config.now c.args.u c.unit_at-lowest.result c.unit_at-lowest.ensures other)

pub returns-else-eq-clause-there : goal.returns-else-eq-clause-there
returns-else-eq-clause-there c = has_place c.args.config.now 0 c.unit_at-lowest.result c.unit_at-lowest.ensures
