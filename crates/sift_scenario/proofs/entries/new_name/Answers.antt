use Rattle.std.proofs.Common.{◌≡◌, ◌∙◌, Some, None, false, true, refl, sym}
use Rattle.toml.specs.View.{table_view}
use Rattle.sift_scenario.specs.Task.{name_of}
use Rattle.sift_scenario.proofs.NewNames.{found_name, is_new, no_new}
use Rattle.sift_scenario.proofs.entries.new_name.Goals as goal
use Rattle.sift_scenario.proofs.entries.new_name.Goals.{else-is_name-via-then-is_name+else-not-is_among, else-is_name-via-else-is_name}

-- a name that no earlier entry has
pub returns-then-not-is_among-clause-found : goal.returns-then-not-is_among-clause-found
returns-then-not-is_among-clause-found c =
    let stated : name_of (table_view c.args.entry.now) ≡ Some c.in_ok-text.text.now = rw (← c.in_ok-member_of.ensures) (sym c.in_ok-text.ensures) in
    found_name (λ name. name.bytes) c.args.earlier.now _ c.in_ok-text.text.now _ _ c.ok.ensures.value c.from.ensures.ok
    (is_new (λ name. name.bytes) c.args.earlier.now _ c.in_ok-text.text.now stated
    (c.is_name.ensures.0 c.if-is_name.true)
    (λ among. let wrong : false ≡ true = rw c.if-not-is_among.true at c.is_among.ensures.1 among in cc wrong))

-- a text that is no name, or is an earlier entry's
pub returns-else-is_name-clause-none : goal.returns-else-is_name-clause-none
returns-else-is_name-clause-none c name =
    let stated : name_of (table_view c.args.entry.now) ≡ Some c.in_ok-text.text.now = rw (← c.in_ok-member_of.ensures) (sym c.in_ok-text.ensures) in
    no_new (λ name. name.bytes) c.args.earlier.now _ c.in_ok-text.text.now name stated (elim c.else-is_name.branch [
      | else-is_name-via-then-is_name+else-not-is_among w ↦ λ form. w.is_among.ensures.0 w.if-not-is_among.false
      | else-is_name-via-else-is_name w ↦ λ form. let wrong : false ≡ true = rw w.if-is_name.false at c.is_name.ensures.1 form in cc wrong
    ])

-- no text is there
pub returns-in_err-member_of-clause-none : goal.returns-in_err-member_of-clause-none
returns-in_err-member_of-clause-none c =
    let none : name_of (table_view c.args.entry.now) ≡ None = rw (← c.in_err-member_of.ensures) refl in
    rw c.from_residual.ensures (λ name new. let wrong : Some name ≡ None = sym new.stated ∙ none in cc wrong)

pub returns-in_err-text-clause-none : goal.returns-in_err-text-clause-none
returns-in_err-text-clause-none c =
    let none : name_of (table_view c.args.entry.now) ≡ None = rw (← c.in_ok-member_of.ensures) (sym c.in_err-text.ensures) in
    rw c.from_residual-in_err-text.ensures (λ name new. let wrong : Some name ≡ None = sym new.stated ∙ none in cc wrong)
