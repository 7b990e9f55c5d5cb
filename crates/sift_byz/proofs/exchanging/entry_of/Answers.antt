use Rattle.std.proofs.Common.{◌≡◌, ℕ, ◌+◌, ◌*◌, ◌<◌, [], ◌∷◌, length, get_or, None, ap, ◌∙◌, subst, sym}
use Rattle.std.proofs.lemmas.Bool.{ne_eqb}
use Rattle.std.proofs.lemmas.List.{get_or_default}
use Rattle.sift_vote.specs.Majority.{agreed_of}
use Rattle.sift_byz.specs.Plan.{byz_plan_of}
use Rattle.sift_byz.proofs.Charts.{result_shown}
use Rattle.sift_byz.proofs.Digits.{digit_below, square}
use Rattle.sift_byz.proofs.exchanging.entry_of.Goals as goal

-- the result is agreed on alone
pub returns : goal.returns
returns c =
    let n : ℕ = c.args.plan.now.units in
    let at : ℕ = c.args.s * n + c.args.q in
    let within : at < length c.args.results.now =
    subst (λ x. at < x) (sym (c.requires.results.shown.long ∙ square n)) (digit_below n n c.args.s c.args.q c.requires.other c.requires.unit) in
    let is : c.index-results-from.result ≡ get_or c.args.results.now at c.index-results-from.result =
    rw (c.from-2.ensures, c.from-3.ensures, c.from-4.ensures) at c.index-results-from.is in
    rw (ne_eqb c.args.s c.args.q c.if-s-q.false)
    (c.agree.ensures.exact ∙ ap (λ x. agreed_of (x ∷ []))
    (is ∙ get_or_default c.args.results.now at c.index-results-from.result None within
    ∙ result_shown (byz_plan_of c.args.plan.now) c.args.plan.now.m c.args.results.now c.requires.results.shown c.args.q c.args.s c.requires.unit c.requires.other))
