use Rattle.std.proofs.Common.{ℕ, List, [], ◌∷◌, ◌+◌, ◌++◌, ◌≡◌, ap, arith, get_or, length, map, rules, sum, sym, take, ◌∙◌}
use Rattle.std.proofs.lemmas.List.Sums.{sum_by_more}
use Rattle.std.proofs.lemmas.List.FromFn.{length-map-range_with_len, map-range_with_len_more}
use Rattle.std.specs.List.{range_with_len}
use Rattle.sift_script.proofs.Lists.{first_word_of}
use Rattle.sift_script.proofs.script.first_words.Goals as goal

pub push-requires-in-loop-count : goal.push-requires-in-loop-count
push-requires-in-loop-count c =
    let long : length c.loop-count.firsts.items ≡ c.loop-count.count-index + 1 =
    ap length c.loop-count.invariant.0 ∙ length-map-range_with_len (first_word_of c.args.counts.now) 0 (c.loop-count.count-index + 1) in
    search arith

pub loop-count-preserved : goal.loop-count-preserved
loop-count-preserved c =
    let at = c.loop-count.count-index in
    let counts = c.args.counts.now in
    let here : c.from-first.result ≡ get_or counts at 0 = search rules in
    let more : c.loop-count.first + c.from-first.result ≡ sum (take (at + 1) counts) =
    ap (λ (n : ℕ). n + c.from-first.result) c.loop-count.invariant.1 ∙ ap (λ (n : ℕ). sum (take at counts) + n) here
    ∙ sym (sum_by_more (λ (n : ℕ). n) counts at 0 c.loop-count-test.true) in (
      c.push-in-loop-count.ensures.items ∙ ap (λ (xs : List ℕ). xs ++ (c.loop-count.first + c.from-first.result) ∷ []) c.loop-count.invariant.0
          ∙ ap (λ (n : ℕ). map (first_word_of counts) (range_with_len 0 (at + 1)) ++ n ∷ []) more ∙ sym (map-range_with_len_more (first_word_of counts) 0 (at + 1) (at + 1) (search arith)),
      more,
      search arith,
    )
