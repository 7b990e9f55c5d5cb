use Rattle.std.proofs.Common.{◌+◌, ◌≡◌, ◌<◌, ap, arith, get_or, length, min, rules, subst, sum, sym, take, ◌∙◌}
use Rattle.std.proofs.lemmas.List.{take_min}
use Rattle.std.proofs.lemmas.List.FromFn.{get_or-map-range_with_len, length-map-range_with_len}
use Rattle.sift_script.proofs.Lists.{first_word_of}
use Rattle.sift_script.proofs.script.first_word.Goals as goal

pub returns : goal.returns
returns c counts are =
    let n = length counts in
    let long : length c.args.firsts.now ≡ n + 1 = ap length are.0 ∙ length-map-range_with_len (first_word_of counts) 0 (n + 1) in
    let here : c.min.result ≡ min c.args.task n = search (rules, arith) in
    let below : min c.args.task n < n + 1 = search arith in
    let told : get_or c.args.firsts.now (min c.args.task n) 0 ≡ sum (take (min c.args.task n) counts) =
    subst (λ xs. get_or xs (min c.args.task n) 0 ≡ sum (take (min c.args.task n) counts)) (sym are.0)
    (get_or-map-range_with_len (first_word_of counts) 0 (n + 1) (min c.args.task n) (min c.args.task n) 0 below (search arith)) in
    ap (λ i. get_or c.args.firsts.now i 0) here ∙ told ∙ ap sum (take_min c.args.task counts)
