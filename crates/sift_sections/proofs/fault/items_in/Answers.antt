use Rattle.std.proofs.Common.{◌≡◌, ◌∙◌, None, map, take, sym, ap}
use Rattle.std.proofs.lemmas.List.{get_or-map, length-map, map-append}
use Rattle.toml.specs.View.{view}
use Rattle.sift_document.specs.Document.{members_of}
use Rattle.sift_document.specs.laws.Places.{so_far}
use Rattle.sift_document.specs.laws.ReadEntries.{each_read-none, each_read-push, read-all}
use Rattle.sift_sections.specs.Item.{change_in}
use Rattle.sift_sections.proofs.fault.items_in.Goals as goal

-- an entry states no item
pub returns-in-None : goal.returns-in-None
returns-in-None c =
    let entries = c.args.entries.now in
    let i = c.loop-entry.entry-index in
    let members = members_of (view c.entry-item.result) in
    let none : None ≡ change_in members = rw c.in-None.is at c.in_ok-item.ensures in
    let here =
    get_or-map (λ entry. members_of (view entry)) entries i c.entry-item.result members c.loop-entry-test.true
    ∙ ap (λ entry. members_of (view entry)) (sym c.entry-item.is) in
    sym (each_read-none change_in (map (λ entry. members_of (view entry)) entries) i members (rw length-map c.loop-entry-test.true) (ap change_in here ∙ sym none))

-- one item more
pub loop-entry-preserved : goal.loop-entry-preserved
loop-entry-preserved c =
    let entries = c.args.entries.now in
    rw (so_far (λ entry. members_of (view entry)) entries c.loop-entry.entry-index c.entry-item.result c.loop-entry-test.true c.entry-item.is, c.in_ok-push-in-Some.ensures.items, map-append)
    (each_read-push change_in (take c.loop-entry.entry-index (map (λ entry. members_of (view entry)) entries)) (members_of (view c.entry-item.result)) _ _ c.loop-entry.invariant
    (sym (rw c.in-Some.is at c.in_ok-item.ensures)))

-- all entries were read
pub returns : goal.returns
returns c =
    sym (read-all change_in (map (λ entry. members_of (view entry)) c.args.entries.now) c.loop-entry.entry-index _ (rw length-map c.loop-entry-test.false) c.loop-entry.invariant)
