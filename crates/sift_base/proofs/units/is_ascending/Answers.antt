use Rattle.std.proofs.Common.{rules, ltb}
use Rattle.std.proofs.lemmas.List.Sorted.{answers_always}
use Rattle.sift_base.proofs.Ascending.{ascending_from_answer}
use Rattle.sift_base.proofs.units.is_ascending.Goals as goal

pub returns : goal.returns
returns c = ascending_from_answer c.args.numbers.now c.is_sorted_by.result (c.is_sorted_by.ensures.cases ltb (answers_always _ _ _ (λ f a r f' called. search rules)))
