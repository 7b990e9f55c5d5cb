use Rattle.std.proofs.Common.{◌≡◌, ◌==◌, ◌<◌, ◌≤◌, ◌∙◌, inl, inr, List, [], ◌∷◌, true, false, length, sym, ap, arith}
use Rattle.std.proofs.lemmas.List.{get_or-map, length-map}
use Rattle.std.proofs.lemmas.Bool.{eqb-true}
use Rattle.toml.specs.View.{view}
use Rattle.toml.specs.declared.value.Value.{Value}
use Rattle.sift_document.specs.Document.{word_value}
use Rattle.sift_document.specs.laws.Arrays.{array_from}
use Rattle.sift_document.specs.laws.ReadEntries.{array_between-none, array_between-other, array_between-whole, value-all, value-step}
use Rattle.sift_scenario.proofs.entries.word_list.Goals as goal
use Rattle.sift_scenario.proofs.entries.word_list.Goals.{then-is_empty-via-then-is_empty, then-is_empty-via-else-is_empty+then-entries-gt1000}

-- an empty list has no entry
none_there : (entries : List Value) → (length entries == 0) ≡ true → length entries < 1
none_there entries is = let none = eqb-true (length entries) 0 is in omega (arith, none)

-- a list that isn't empty has one
some_there : (entries : List Value) → (length entries == 0) ≡ false → 1 ≤ length entries
some_there [] is = absurd (let wrong : true ≡ false = is in let none : ⊥ = cc wrong in none)
some_there (e ∷ es) is = omega arith

-- the array is empty or too long
pub returns-then-is_empty : goal.returns-then-is_empty
returns-then-is_empty c =
    let entries = c.as_slice-entries.result.now in
    rw (array_from _ _ c.in-Some.ensures, ← c.as_slice-entries.ensures.value)
    (sym (array_between-other word_value 1 1000 entries (elim c.then-is_empty.branch [
      | then-is_empty-via-then-is_empty w ↦ inl (none_there entries (sym w.if-is_empty.ensures))
      | then-is_empty-via-else-is_empty+then-entries-gt1000 w ↦ inr w.if-entries-gt1000.true
    ])))

-- an entry is no word value
pub returns-in-None : goal.returns-in-None
returns-in-None c =
    let entries = c.as_slice-entries.result.now in
    let here = get_or-map view entries c.loop-entry.entry-index c.entry-item.result (view c.entry-item.result) c.loop-entry-test.true ∙ ap view (sym c.entry-item.is) in
    rw (array_from _ _ c.in-Some.ensures, ← c.as_slice-entries.ensures.value)
    (sym (array_between-none word_value 1 1000 entries c.loop-entry.entry-index (view c.entry-item.result)
    (rw length-map c.loop-entry-test.true) (ap word_value here ∙ sym c.in-None.ensures)))

-- one word more
pub loop-entry-preserved : goal.loop-entry-preserved
loop-entry-preserved c =
    rw c.in_ok-push-in-Some-word_value.ensures.items
    (value-step word_value c.as_slice-entries.result.now c.loop-entry.entry-index c.entry-item.result _ _ c.loop-entry-test.true c.entry-item.is
    c.loop-entry.invariant (sym c.in-Some-word_value.ensures))

-- all entries were read
pub returns : goal.returns
returns c =
    let entries = c.as_slice-entries.result.now in
    rw (array_from _ _ c.in-Some.ensures, ← c.as_slice-entries.ensures.value)
    (sym (array_between-whole word_value 1 1000 entries _ (some_there entries (sym c.if-is_empty.ensures)) c.if-entries-gt1000.false
    (value-all word_value entries c.loop-entry.entry-index _ c.loop-entry-test.false c.loop-entry.invariant)))
