use Rattle.std.proofs.Common.{◌≡◌, ◌∙◌, ◌++◌, ◌∷◌, [], ◌<◌, length, Some, ap, sym, arith}
use Rattle.std.proofs.lemmas.Iterator.Consumers.{YieldsList-at, YieldsList-turn, YieldsList-end}
use Rattle.std.proofs.lemmas.Iterator.Splits.{YieldsList-from_str_split}
use Rattle.std.proofs.lemmas.List.{length_push}
use Rattle.std.proofs.lemmas.List.Elements.{All-nil}
use Rattle.sift_line.proofs.Reading.{none_read, more_read, none_has, longer, whole_printed, whole_exact}
use Rattle.sift_line.proofs.Joined.{values_cut, cut_values, no_values}
use Rattle.sift_line.proofs.Results.{held, is_ok, none_given, differ_where, same_where, on_ok, on_err}
use Rattle.sift_line.proofs.number.read_list.Goals as goal

pub returns-then-eq-clause-exact : goal.returns-then-eq-clause-exact
returns-then-eq-clause-exact g c = λ list holds fit e.
    let none : list.items ≡ [] = no_values g.T.Part.text_of g.met.T.ListPart.apart list.items c.args.text.now e (same_where c.eq.result _ _ c.eq.ensures c.if-eq.true) in
    ap (λ xs. Some (record { items = xs })) (c.new-list.ensures ∙ sym none)

pub loop-part-init : goal.loop-part-init
loop-part-init g c = rw c.new-list.ensures (none_read g.T.Part.text_of g.T.Part.IsPart _, omega arith)

pub loop-part-preserved : goal.loop-part-preserved
loop-part-preserved g c =
    let cuts =
    YieldsList-from_str_split 44 c.args.text.now (omega arith) c.split-part-items.ensures.text c.split-part-items.ensures.has_more c.split-part-items.ensures.pattern in
    let runs = YieldsList-at c.into_iter-part-iterator.ensures.into_iter_gives cuts in
    let turn = YieldsList-turn runs c.loop-part.yielded _ c.loop-part.yielded_by _ _ c.in-Some.part c.in-Some.is c.next.ensures.steps in
    let pushed : c.try_push.new.self.items ≡ c.loop-part.list.items ++ c.in_ok-item.item ∷ [] =
    on_ok c.try_push.result c.in_ok-ok.field-0 _ (sym c.ok.ensures.value ∙ c.in_ok-ok.was) c.try_push.ensures.ok in
    let room : length c.loop-part.list.items < g.row.N =
    c.try_push.ensures.variant.0 (is_ok c.try_push.result c.in_ok-ok.field-0 (sym c.ok.ensures.value ∙ c.in_ok-ok.was)) in
    rw (length_push c.loop-part.yielded c.in-Some.part, pushed) (
      more_read g.T.Part.text_of g.T.Part.IsPart _ _ _ c.in_ok-item.item c.in-Some.part.now c.loop-part.invariant.0 turn.0 turn.1
          c.in_ok-item.ensures.part c.in_ok-item.ensures.printed (λ w holds e. held c.in_ok-item.item w (c.in_ok-item.ensures.exact w holds e)),
      rw (length_push c.loop-part.list.items c.in_ok-item.item) (omega arith),
    )

pub returns-in_err-item-clause-exact : goal.returns-in_err-item-clause-exact
returns-in_err-item-clause-exact g c = λ list holds fit e.
    let cuts =
    YieldsList-from_str_split 44 c.args.text.now (omega arith) c.split-part-items.ensures.text c.split-part-items.ensures.has_more c.split-part-items.ensures.pattern in
    let runs = YieldsList-at c.into_iter-part-iterator.ensures.into_iter_gives cuts in
    let turn = YieldsList-turn runs c.loop-part.yielded _ c.loop-part.yielded_by _ _ c.in-Some.part c.in-Some.is c.next.ensures.steps in
    absurd (none_has g.T.Part.text_of g.T.Part.IsPart _ _ c.in-Some.part.now turn.0 turn.1
    (λ w holds e. none_given w (c.in_err-item.ensures.exact w holds e)) list.items holds
    (values_cut g.T.Part.text_of g.met.T.ListPart.apart list.items c.args.text.now e (differ_where c.eq.result _ _ c.eq.ensures c.if-eq.false)))

pub returns-in_err-ok-clause-exact : goal.returns-in_err-ok-clause-exact
returns-in_err-ok-clause-exact g c = λ list holds fit e.
    let cuts =
    YieldsList-from_str_split 44 c.args.text.now (omega arith) c.split-part-items.ensures.text c.split-part-items.ensures.has_more c.split-part-items.ensures.pattern in
    let runs = YieldsList-at c.into_iter-part-iterator.ensures.into_iter_gives cuts in
    let turn = YieldsList-turn runs c.loop-part.yielded _ c.loop-part.yielded_by _ _ c.in-Some.part c.in-Some.is c.next.ensures.steps in
    let full : length c.loop-part.list.items ≡ g.row.N = on_err c.try_push.result _ (sym c.ok.ensures.value ∙ c.in_err-ok.was) c.try_push.ensures.full in
    let more : length c.loop-part.list.items < length list.items =
    longer g.T.Part.text_of g.T.Part.IsPart _ _ _ c.loop-part.invariant.0 turn.0 list.items
    (values_cut g.T.Part.text_of g.met.T.ListPart.apart list.items c.args.text.now e (differ_where c.eq.result _ _ c.eq.ensures c.if-eq.false)) in
    absurd (omega arith)

pub returns-clause-printed : goal.returns-clause-printed
returns-clause-printed g c =
    let cuts =
    YieldsList-from_str_split 44 c.args.text.now (omega arith) c.split-part-items.ensures.text c.split-part-items.ensures.has_more c.split-part-items.ensures.pattern in
    let runs = YieldsList-at c.into_iter-part-iterator.ensures.into_iter_gives cuts in
    let end = YieldsList-end runs c.loop-part.yielded _ c.loop-part.yielded_by _ _ c.in-None.is c.next.ensures.steps in
    cut_values g.T.Part.text_of g.met.T.ListPart.apart c.loop-part.list.items c.args.text.now (whole_printed g.T.Part.text_of g.T.Part.IsPart _ _ _ c.loop-part.invariant.0 end.1)

pub returns-clause-exact : goal.returns-clause-exact
returns-clause-exact g c = λ list holds fit e.
    let cuts =
    YieldsList-from_str_split 44 c.args.text.now (omega arith) c.split-part-items.ensures.text c.split-part-items.ensures.has_more c.split-part-items.ensures.pattern in
    let runs = YieldsList-at c.into_iter-part-iterator.ensures.into_iter_gives cuts in
    let end = YieldsList-end runs c.loop-part.yielded _ c.loop-part.yielded_by _ _ c.in-None.is c.next.ensures.steps in
    ap (λ xs. Some (record { items = xs }))
    (whole_exact g.T.Part.text_of g.T.Part.IsPart _ _ _ c.loop-part.invariant.0 end.1 list.items holds
    (values_cut g.T.Part.text_of g.met.T.ListPart.apart list.items c.args.text.now e (differ_where c.eq.result _ _ c.eq.ensures c.if-eq.false)))

pub returns-then-eq-clause-part : goal.returns-then-eq-clause-part
returns-then-eq-clause-part g c = rw c.new-list.ensures (All-nil g.T.Part.IsPart, omega arith)

pub returns-in_err-item-clause-part : goal.returns-in_err-item-clause-part
returns-in_err-item-clause-part g c = rw c.from_residual.ensures tt

pub returns-in_err-ok-clause-part : goal.returns-in_err-ok-clause-part
returns-in_err-ok-clause-part g c = rw c.from_residual-in_err-ok.ensures tt

pub returns-clause-part : goal.returns-clause-part
returns-clause-part g c = (c.loop-part.invariant.0.all, c.loop-part.invariant.1)

pub returns-in_err-ok-clause-printed : goal.returns-in_err-ok-clause-printed
returns-in_err-ok-clause-printed g c = rw c.from_residual-in_err-ok.ensures tt

pub returns-in_err-item-clause-printed : goal.returns-in_err-item-clause-printed
returns-in_err-item-clause-printed g c = rw c.from_residual.ensures tt

pub returns-then-eq-clause-printed : goal.returns-then-eq-clause-printed
returns-then-eq-clause-printed g c = rw c.new-list.ensures (sym (same_where c.eq.result _ _ c.eq.ensures c.if-eq.true))
