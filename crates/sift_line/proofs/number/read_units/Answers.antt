use Rattle.std.proofs.Common.{◌≡◌, ◌∙◌, ◌<◌, [], length, Some, ap, sym, codes, arith}
use Rattle.std.proofs.lemmas.Bool.Decides.{nat_tests}
use Rattle.sift_line.proofs.Ascending.{more_read, none_has, whole_ascend, whole_printed, whole_exact, digits_of_text, no_units}
use Rattle.sift_line.proofs.Results.{none_given, differ_where, same_where}
use Rattle.sift_line.proofs.number.read_units.Goals as goal

pub loop-digit-preserved : goal.loop-digit-preserved
loop-digit-preserved c =
    rw (c.push.ensures.items, c.get-least.ensures.number)
    (more_read _ _ c.loop-digit.least _ c.in_ok-unit.unit c.loop-digit.invariant c.loop-digit-test.true c.in_ok-unit.ensures.printed (omega arith) (omega arith))

pub returns-in_err-unit-clause-exact : goal.returns-in_err-unit-clause-exact
returns-in_err-unit-clause-exact c = λ units ascend e.
    let apart : c.args.text.now ≡ codes "-" → ⊥ = differ_where c.eq.result _ _ c.eq.ensures c.if-eq.false in
    absurd (none_has _ _ c.loop-digit.least _ c.loop-digit.invariant c.loop-digit-test.true
    (λ u digit low few. none_given u (c.in_err-unit.ensures.exact u few digit)) units.items ascend
    (digits_of_text units.items _ (e ∙ sym c.as_bytes-digit-items.ensures.value) (λ none. apart (sym c.as_bytes-digit-items.ensures.value ∙ none))))

pub returns-then-get-least-clause-exact : goal.returns-then-get-least-clause-exact
returns-then-get-least-clause-exact c = λ units ascend e.
    let apart : c.args.text.now ≡ codes "-" → ⊥ = differ_where c.eq.result _ _ c.eq.ensures c.if-eq.false in
    absurd (none_has _ _ c.loop-digit.least _ c.loop-digit.invariant c.loop-digit-test.true
    (λ u digit low few. omega (arith, c.in_ok-unit.ensures.printed)) units.items ascend
    (digits_of_text units.items _ (e ∙ sym c.as_bytes-digit-items.ensures.value) (λ none. apart (sym c.as_bytes-digit-items.ensures.value ∙ none))))

pub returns-clause-ascend : goal.returns-clause-ascend
returns-clause-ascend c = whole_ascend _ _ c.loop-digit.least _ c.loop-digit.invariant

pub returns-clause-printed : goal.returns-clause-printed
returns-clause-printed c =
    let some : 0 < length c.as_bytes-digit-items.result.now = rw c.as_bytes-digit-items.ensures.value (grind (arith, nat_tests, c.if-is_empty.ensures)) in
    whole_printed _ _ c.loop-digit.least _ c.loop-digit.invariant c.loop-digit-test.false some ∙ c.as_bytes-digit-items.ensures.value

pub returns-clause-exact : goal.returns-clause-exact
returns-clause-exact c = λ units ascend e.
    let apart : c.args.text.now ≡ codes "-" → ⊥ = differ_where c.eq.result _ _ c.eq.ensures c.if-eq.false in
    ap (λ xs. Some (record { items = xs }))
    (whole_exact _ _ c.loop-digit.least _ c.loop-digit.invariant c.loop-digit-test.false units.items ascend
    (digits_of_text units.items _ (e ∙ sym c.as_bytes-digit-items.ensures.value) (λ none. apart (sym c.as_bytes-digit-items.ensures.value ∙ none))))

pub returns-then-eq-clause-printed : goal.returns-then-eq-clause-printed
returns-then-eq-clause-printed c = rw c.new-units.ensures (sym (same_where c.eq.result _ _ c.eq.ensures c.if-eq.true))

pub returns-then-eq-clause-exact : goal.returns-then-eq-clause-exact
returns-then-eq-clause-exact c = λ units ascend e.
    let none : units.items ≡ [] = no_units units.items c.args.text.now e (same_where c.eq.result _ _ c.eq.ensures c.if-eq.true) in
    ap (λ xs. Some (record { items = xs })) (c.new-units.ensures ∙ sym none)
