use Rattle.std.proofs.Common.{◌≡◌, ◌/◌, ◌<◌, length, reverse, get_or, None, ap, ◌∙◌, arith, add-one}
use Rattle.std.proofs.lemmas.List.{get_or_default, length-reverse}
use Rattle.std.proofs.lemmas.Nat.{div_below}
use Rattle.std.proofs.lemmas.Grind.{common_steps}
use Rattle.sift_byz.proofs.Searches.{refilled}
use Rattle.sift_byz.proofs.exchanging.heard_at.Goals as goal

-- the path is written in its order, and the place before is read
pub returns : goal.returns
returns c =
    let path = c.path_in-written.result.items in
    let turned : c.reverse.new.self ≡ reverse path = c.reverse.ensures.after ∙ ap reverse c.deref_mut.ensures.value in
    let long : length c.reverse.new.self ≡ length path = ap length turned ∙ length-reverse path in
    let written : c.deref-2.result.now ≡ reverse path = c.deref-2.ensures.0 ∙ refilled path c.reverse.new.self long ∙ turned in
    let low : c.args.place / c.from-units.result < length c.args.before.now =
    div_below c.args.place c.from-units.result (length c.args.before.now) (omega (arith, c.from-units.ensures, c.requires.range.some)) (rw c.from-units.ensures c.requires.within) in
    let is : c.index-before-place.result ≡ get_or c.args.before.now (c.args.place / c.from-units.result) None =
    c.index-before-place.is ∙ get_or_default c.args.before.now (c.args.place / c.from-units.result) c.index-before-place.result None low in
    rw (c.unwrap_or.ensures, c.first_lie.ensures, c.deref.ensures.value, written, c.path_in-written.ensures, is, c.from-units.ensures, add-one)

pub offset_bounds-before-place : goal.offset_bounds-before-place
offset_bounds-before-place c = grind (arith, common_steps)

-- the place before is there
pub bounds-before-place : goal.bounds-before-place
bounds-before-place c =
    rw c.from-units.ensures (div_below c.args.place c.args.plan.now.units (length c.args.before.now) c.requires.range.some c.requires.within)
