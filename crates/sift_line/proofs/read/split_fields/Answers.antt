use Rattle.std.proofs.Common.{◌≡◌, ◌∙◌, ◌++◌, ◌∷◌, [], length, ap, sym, arith}
use Rattle.std.proofs.lemmas.Iterator.Consumers.{YieldsList-at, YieldsList-turn, YieldsList-end}
use Rattle.std.proofs.lemmas.Iterator.Splits.{YieldsList-from_str_split}
use Rattle.sift_line.proofs.Results.{on_ok, on_err}
use Rattle.sift_line.proofs.read.split_fields.Goals as goal

pub loop-field-preserved : goal.loop-field-preserved
loop-field-preserved c =
    let pushed : c.try_push.new.self.items ≡ c.loop-field.fields.items ++ c.in-Some.field ∷ [] =
    on_ok c.try_push.result c.in_ok-ok.field-0 _ (sym c.ok.ensures.value ∙ c.in_ok-ok.was) c.try_push.ensures.ok in
    rw (pushed, c.loop-field.invariant)

pub returns-in_err-ok-clause-too_many : goal.returns-in_err-ok-clause-too_many
returns-in_err-ok-clause-too_many c =
    let cuts =
    YieldsList-from_str_split 32 c.args.line.now (omega arith) c.split-field-items.ensures.text c.split-field-items.ensures.has_more c.split-field-items.ensures.pattern in
    let runs = YieldsList-at c.into_iter-field-iterator.ensures.into_iter_gives cuts in
    let turn = YieldsList-turn runs c.loop-field.yielded _ c.loop-field.yielded_by _ _ c.in-Some.field c.in-Some.is c.next.ensures.steps in
    let full : length c.loop-field.fields.items ≡ 8 = on_err c.try_push.result _ (sym c.ok.ensures.value ∙ c.in_err-ok.was) c.try_push.ensures.full in
    rw c.from_residual.ensures (omega (arith, turn.0, full, ap length c.loop-field.invariant))

pub returns-clause-split : goal.returns-clause-split
returns-clause-split c =
    let cuts =
    YieldsList-from_str_split 32 c.args.line.now (omega arith) c.split-field-items.ensures.text c.split-field-items.ensures.has_more c.split-field-items.ensures.pattern in
    let runs = YieldsList-at c.into_iter-field-iterator.ensures.into_iter_gives cuts in
    let end = YieldsList-end runs c.loop-field.yielded _ c.loop-field.yielded_by _ _ c.in-None.is c.next.ensures.steps in
    rw c.loop-field.invariant end.0
