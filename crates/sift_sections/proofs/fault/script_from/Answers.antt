use Rattle.std.proofs.Common.{◌≡◌, ◌<◌, ◌≤◌, ◌+◌, None, Some, below_more, get_or, length, map, rules, ◌∙◌, arith}
use Rattle.std.proofs.lemmas.Iterator.Adapters.{YieldsList-from_vec}
use Rattle.std.proofs.lemmas.Iterator.Consumers.{YieldsList-end, YieldsList-turn}
use Rattle.std.proofs.lemmas.List.{length-append, length-map, take_all}
use Rattle.std.specs.Prelude.{option_map}
use Rattle.toml.specs.View.{table_view}
use Rattle.sift_script.specs.Script.{change_of, failing_of, fault_of}
use Rattle.sift_document.specs.laws.Places.{fails_here, holds_here, nowhere, read_more}
use Rattle.sift_document.specs.laws.Testing.{first_broken}
use Rattle.sift_sections.specs.Fault.{fault_in, stated_storm}
use Rattle.sift_sections.specs.laws.Named.{failing_from}
use Rattle.sift_sections.proofs.Faulting.{as_many, fault_taken, planned_storm, unplanned_storm}
use Rattle.sift_sections.proofs.fault.script_from.Goals as goal

-- each place has a head and a table
place_low : (c : goal.After-len-place) → (c.len-place.result < length c.args.heads.now) × (c.len-place.result < length c.args.tables.now)
place_low c =
    let turn =
    YieldsList-turn (YieldsList-from_vec {s = c.into_iter-items-iterator.result} c.args.said.items (search rules) (search rules))
    c.loop-items.yielded c.loop-items.items-iterator c.loop-items.yielded_by c.next.result c.next.new.self c.in-Some.items c.in-Some.is c.next.ensures.steps in
    let many =
    as_many (λ fault. table_view fault.now) (λ items. map change_of items.items) c.args.tables.now c.args.heads.now c.args.said.items c.requires.read in
    let low : c.len-place.result < length c.args.said.items =
    omega (arith, c.len-place.ensures, c.loop-items.entries.ok.0, c.loop-items.invariant.1, turn.0) in
    (rw many.0 low, rw many.1 low)

pub bounds-heads-place : goal.bounds-heads-place
bounds-heads-place c = (place_low c).0

pub bounds-heads-place-in-loop-items : goal.bounds-heads-place-in-loop-items
bounds-heads-place-in-loop-items c = (place_low c).0

pub offset_bounds-heads-place : goal.offset_bounds-heads-place
offset_bounds-heads-place c = let low = (place_low c).1 in omega (arith, low, c.requires.few)

pub bounds-tables-place : goal.bounds-tables-place
bounds-tables-place c = (place_low c).1

pub offset_bounds-tables-place : goal.offset_bounds-tables-place
offset_bounds-tables-place c = let low = (place_low c).1 in omega (arith, low, c.requires.few)

pub broken-requires : goal.broken-requires
broken-requires c =
    let turn =
    YieldsList-turn (YieldsList-from_vec {s = c.into_iter-items-iterator.result} c.args.said.items (search rules) (search rules))
    c.loop-items.yielded c.loop-items.items-iterator c.loop-items.yielded_by c.next.result c.next.new.self c.in-Some.items c.in-Some.is c.next.ensures.steps in
    let many =
    as_many (λ fault. table_view fault.now) (λ items. map change_of items.items) c.args.tables.now c.args.heads.now c.args.said.items c.requires.read in
    omega (arith, c.len-place.ensures, c.loop-items.entries.ok.0, c.loop-items.invariant.1, turn.0, many.1, c.requires.few)

-- a `storm` states none
pub returns-in-None-entry_plan_of-clause-tests : goal.returns-in-None-entry_plan_of-clause-tests
returns-in-None-entry_plan_of-clause-tests c =
    let turn =
    YieldsList-turn (YieldsList-from_vec {s = c.into_iter-items-iterator.result} c.args.said.items (search rules) (search rules))
    c.loop-items.yielded c.loop-items.items-iterator c.loop-items.yielded_by c.next.result c.next.new.self c.in-Some.items c.in-Some.is c.next.ensures.steps in
    let i = length c.loop-items.entries.items in
    let place : c.len-place.result ≡ i = search rules in
    let low : i < length c.args.said.items = rw c.loop-items.invariant.1 turn.0 in
    let table_is : c.index-tables-place.result ≡ get_or c.args.tables.now i c.index-tables-place.result = rw (← place) c.index-tables-place.is in
    let many =
    as_many (λ fault. table_view fault.now) (λ items. map change_of items.items) c.args.tables.now c.args.heads.now c.args.said.items c.requires.read in
    let there : i < length c.args.tables.now = rw many.1 low in
    let none = unplanned_storm (stated_storm (table_view c.index-tables-place.result.now)) (λ storm. failing_from storm (map change_of c.in-Some.items.items))
    (rw c.in-None-entry_plan_of.is at c.entry_plan_of.ensures) in
    rw (c.broken.ensures, place)
    (first_broken 30 _ _
    (holds_here (λ fault. table_view fault.now) c.args.tables.now (λ at fault. stated_storm fault ≡ None) i c.index-tables-place.result there table_is none)
    c.loop-items.invariant.2)

-- a fault more states one, where it has a `storm`
pub loop-items-preserved : goal.loop-items-preserved
loop-items-preserved c =
    let turn =
    YieldsList-turn (YieldsList-from_vec {s = c.into_iter-items-iterator.result} c.args.said.items (search rules) (search rules))
    c.loop-items.yielded c.loop-items.items-iterator c.loop-items.yielded_by c.next.result c.next.new.self c.in-Some.items c.in-Some.is c.next.ensures.steps in
    let i = length c.loop-items.entries.items in
    let place : c.len-place.result ≡ i = search rules in
    let low : i < length c.args.said.items = rw c.loop-items.invariant.1 turn.0 in
    let items_is : c.in-Some.items ≡ get_or c.args.said.items i c.in-Some.items = rw c.loop-items.invariant.1 turn.1 in
    let table_is : c.index-tables-place.result ≡ get_or c.args.tables.now i c.index-tables-place.result = rw (← place) c.index-tables-place.is in
    let many =
    as_many (λ fault. table_view fault.now) (λ items. map change_of items.items) c.args.tables.now c.args.heads.now c.args.said.items c.requires.read in
    let there : i < length c.args.tables.now = rw many.1 low in
    let storms = stated_storm (table_view c.index-tables-place.result.now) in
    let planned : Some (failing_of c.in-Some-entry_plan_of.plan) ≡ option_map (λ storm. failing_from storm (map change_of c.in-Some.items.items)) storms =
    rw c.in-Some-entry_plan_of.is at c.entry_plan_of.ensures in
    let made =
    fault_taken (λ fault. table_view fault.now) (λ items. map change_of items.items) c.args.tables.now c.args.heads.now c.args.said.items c.requires.read i
    c.index-tables-place.result c.in-Some.items (failing_of c.in-Some-entry_plan_of.plan) low table_is items_is planned in
    let added = c.in_ok-push-in-Some-entry_plan_of.ensures.items in
    let long : length c.push.new.self.items ≡ i + 1 = rw (added, length-append) (omega arith) in (
      rw long (read_more fault_of (λ fault. fault_in (table_view fault.now)) c.args.tables.now c.loop-items.entries.items c.push.new.self.items i _ _
          there table_is c.loop-items.invariant.0 added (rw place made)),
      rw (long, length-append) (omega (arith, c.loop-items.invariant.1)),
      rw long (below_more _ _ c.loop-items.invariant.2
          (fails_here (λ fault. table_view fault.now) c.args.tables.now (λ at fault. stated_storm fault ≡ None) i c.index-tables-place.result there table_is
          (planned_storm (stated_storm (table_view c.index-tables-place.result.now)) (λ storm. failing_from storm (map change_of c.in-Some.items.items)) _ planned))),
    )

-- all faults were read
pub returns-clause-read : goal.returns-clause-read
returns-clause-read c =
    let end =
    YieldsList-end (YieldsList-from_vec {s = c.into_iter-items-iterator.result} c.args.said.items (search rules) (search rules))
    c.loop-items.yielded c.loop-items.items-iterator c.loop-items.yielded_by c.next.result c.next.new.self c.in-None.is c.next.ensures.steps in
    let many =
    as_many (λ fault. table_view fault.now) (λ items. map change_of items.items) c.args.tables.now c.args.heads.now c.args.said.items c.requires.read in
    let high : length (map (λ fault. fault_in (table_view fault.now)) c.args.tables.now) ≤ length c.loop-items.entries.items =
    omega (arith, end.1, c.loop-items.invariant.1, many.1, length-map c.args.tables.now (λ fault. fault_in (table_view fault.now))) in
    c.loop-items.invariant.0 ∙ take_all (length c.loop-items.entries.items) (map (λ fault. fault_in (table_view fault.now)) c.args.tables.now) high

pub returns-clause-tests : goal.returns-clause-tests
returns-clause-tests c =
    let end =
    YieldsList-end (YieldsList-from_vec {s = c.into_iter-items-iterator.result} c.args.said.items (search rules) (search rules))
    c.loop-items.yielded c.loop-items.items-iterator c.loop-items.yielded_by c.next.result c.next.new.self c.in-None.is c.next.ensures.steps in
    let many =
    as_many (λ fault. table_view fault.now) (λ items. map change_of items.items) c.args.tables.now c.args.heads.now c.args.said.items c.requires.read in
    nowhere (λ fault. table_view fault.now) c.args.tables.now (λ at fault. stated_storm fault ≡ None)
    (λ at low. c.loop-items.invariant.2 at (omega (arith, low, end.1, c.loop-items.invariant.1, many.1)))
