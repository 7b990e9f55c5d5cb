use Rattle.std.proofs.Common.{Some, map, subst, sym, ap, ◌∙◌}
use Rattle.sift_line.specs.Bad.{IsToldBy, catch_text, catches_in}
use Rattle.sift_line.specs.Part.{list_text}
use Rattle.sift_line.proofs.Catches.{all_catches, catches_are, caught_again, few_catches, told_bad}
use Rattle.sift_line.proofs.Results.{held, not_both}
use Rattle.sift_line.proofs.catch.CatchesPart.read.Goals as goal

pub returns-in_err-listed-clause-exact : goal.returns-in_err-listed-clause-exact
returns-in_err-listed-clause-exact c = λ caught are e.
    let none = c.in_err-listed.ensures.exact (record { items = catches_in caught }) (all_catches caught are) (few_catches caught) (catches_are caught ∙ e) in (cc)

pub returns-then-are_catches_in-clause-part : goal.returns-then-are_catches_in-clause-part
returns-then-are_catches_in-clause-part c =
    told_bad c.in_ok-listed.listed.items c.caught_by-caught.result c.in_ok-listed.ensures.part.0
    (subst (λ list. IsToldBy list c.caught_by-caught.result) c.deref.ensures.0 c.caught_by-caught.ensures)

pub returns-then-are_catches_in-clause-printed : goal.returns-then-are_catches_in-clause-printed
returns-then-are_catches_in-clause-printed c =
    let listed = sym (c.are_catches_in.ensures.0 c.if-are_catches_in.true) ∙ c.deref-2.ensures.0 in
    sym (catches_are c.caught_by-caught.result) ∙ ap (λ list. list_text (map catch_text list)) listed ∙ c.in_ok-listed.ensures.printed

pub returns-then-are_catches_in-clause-exact : goal.returns-then-are_catches_in-clause-exact
returns-then-are_catches_in-clause-exact c = λ caught are e.
    let some = c.in_ok-listed.ensures.exact (record { items = catches_in caught }) (all_catches caught are) (few_catches caught) (catches_are caught ∙ e) in
    let listed = c.deref.ensures.0 ∙ ap (λ list. list.items) (held c.in_ok-listed.listed (record { items = catches_in caught }) some) in
    ap Some (caught_again caught c.caught_by-caught.result are (subst (λ list. IsToldBy list c.caught_by-caught.result) listed c.caught_by-caught.ensures))

pub returns-else-are_catches_in-clause-exact : goal.returns-else-are_catches_in-clause-exact
returns-else-are_catches_in-clause-exact c = λ caught are e.
    let some = c.in_ok-listed.ensures.exact (record { items = catches_in caught }) (all_catches caught are) (few_catches caught) (catches_are caught ∙ e) in
    let listed = ap (λ list. list.items) (held c.in_ok-listed.listed (record { items = catches_in caught }) some) in
    let same = caught_again caught c.caught_by-caught.result are
    (subst (λ list. IsToldBy list c.caught_by-caught.result) (c.deref.ensures.0 ∙ listed) c.caught_by-caught.ensures) in
    let yes = c.are_catches_in.ensures.1 (c.deref-2.ensures.0 ∙ (listed ∙ ap catches_in (sym same))) in
    absurd (not_both c.are_catches_in.result yes c.if-are_catches_in.false)
