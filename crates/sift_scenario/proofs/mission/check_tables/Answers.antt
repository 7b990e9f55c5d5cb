use Rattle.std.proofs.Common.{◌≡◌, ◌∙◌, Err, length, map, take, rules, sym, ap, refl}
use Rattle.std.proofs.lemmas.Iterator.Adapters.{YieldsList-from_vec}
use Rattle.std.proofs.lemmas.Iterator.Consumers.{YieldsList-end, YieldsList-so_far, YieldsList-turn}
use Rattle.std.proofs.lemmas.List.{map-append, map-id, take-map}
use Rattle.std.proofs.lemmas.List.Elements.{All-push}
use Rattle.sift_base.specs.Shapes.{shapes_of}
use Rattle.sift_table.specs.Rules.{IsGood}
use Rattle.sift_table.specs.Schedule.{schedule_of}
use Rattle.sift_scenario.proofs.CheckLemmas.{first_bad}
use Rattle.sift_scenario.proofs.mission.check_tables.Goals as goal

-- a table isn't good
pub returns-in_err-good_table-clause-refused : goal.returns-in_err-good_table-clause-refused
returns-in_err-good_table-clause-refused c =
    let turn =
    YieldsList-turn (YieldsList-from_vec {s = c.into_iter-table-iterator.result} c.args.tables.items (search rules) (search rules))
    c.loop-table.yielded c.loop-table.table-iterator c.loop-table.yielded_by c.next.result c.next.new.self c.in-Some.table c.in-Some.is c.next.ensures.steps in
    let before =
    YieldsList-so_far (YieldsList-from_vec {s = c.into_iter-table-iterator.result} c.args.tables.items (search rules) (search rules))
    c.loop-table.yielded c.loop-table.table-iterator c.loop-table.yielded_by in
    let same : c.from_residual.result ≡ Err c.in_err-good_table.field-0.0 = search rules in
    let goods : map schedule_of c.loop-table.yielded ≡ take (length c.loop-table.yielded) (map schedule_of c.args.tables.items) =
    ap (map schedule_of) (sym (map-id c.loop-table.yielded) ∙ before) ∙ sym (take-map schedule_of (length c.loop-table.yielded) c.args.tables.items) in
    rw same (first_bad schedule_of c.args.tables.items (shapes_of c.args.shapes.now) (length c.loop-table.yielded) c.in-Some.table turn.0 turn.1
    (rw (← goods, ← c.loop-table.invariant.0) c.loop-table.invariant.1) c.in_err-good_table.field-0.0 c.in_err-good_table.ensures.refused)

-- a table more is
pub loop-table-preserved : goal.loop-table-preserved
loop-table-preserved c = (
  rw (c.in_ok-push.ensures.items, map-append, c.loop-table.invariant.0, c.in_ok-good_table.ensures.same) refl,
  rw c.in_ok-push.ensures.items (All-push (λ table. IsGood table (shapes_of c.args.shapes.now)) c.loop-table.goods.items _ c.loop-table.invariant.1 c.in_ok-good_table.ensures.good),
)

-- all tables were checked
pub returns-clause-same : goal.returns-clause-same
returns-clause-same c =
    let end =
    YieldsList-end (YieldsList-from_vec {s = c.into_iter-table-iterator.result} c.args.tables.items (search rules) (search rules))
    c.loop-table.yielded c.loop-table.table-iterator c.loop-table.yielded_by c.next.result c.next.new.self c.in-None.is c.next.ensures.steps in
    c.loop-table.invariant.0 ∙ ap (map schedule_of) (sym (map-id c.loop-table.yielded) ∙ end.0)

pub returns-clause-good : goal.returns-clause-good
returns-clause-good c = c.loop-table.invariant.1
