use Rattle.std.proofs.Common.{rules, ◌-ℤ◌, subst, sym, w64}
use mir.Val.{SFits}
use Rattle.sift_skew.specs.Figures.{IsSkew}
use Rattle.sift_skew.specs.laws.Extremes.{skew_from}
use Rattle.sift_judge.proofs.Skews.{difference_decides, difference_fits, no_skew}
use Rattle.sift_judge.proofs.words.is_skew.Goals as goal

pub overflow_sub-result : goal.overflow_sub-result
overflow_sub-result c = rw (c.from.ensures, c.from-2.ensures) (difference_fits c.in-Some.highest c.in-Some-lowest.lowest)

pub returns-in_default : goal.returns-in_default
returns-in_default c = no_skew c.args.offsets.now c.args.skew c.in_default.ensures

pub returns-in_default-lowest : goal.returns-in_default-lowest
returns-in_default-lowest c = no_skew c.args.offsets.now c.args.skew c.in_default-lowest.ensures

pub returns : goal.returns
returns c =
    let a = c.in-Some.highest in
    let b = c.in-Some-lowest.lowest in
    let s = c.args.skew in
    let fits_a : SFits w64 a = search rules in
    let fits_b : SFits w64 b = search rules in
    let is = skew_from c.args.offsets.now a b c.in-Some.ensures c.in-Some-lowest.ensures in
    let same = difference_decides a b s c.from.result c.from-2.result c.from-3.result fits_a fits_b c.ranges.skew
    c.from.ensures c.from-2.ensures c.from-3.ensures in (
      (λ t. subst (IsSkew c.args.offsets.now) (sym (same.0 t)) is),
      (λ skew. same.1 (c.skew_is_unique.ensures c.args.offsets.now s (a -ℤ b) skew is)),
    )
