use Rattle.std.proofs.Common.{◌≡◌, ℕ, Some}
use Rattle.sift_mission.specs.Parts.{data_of}
use Rattle.sift_report.specs.Told.{told_at}
use Rattle.std.proofs.lemmas.List.Elements.{AllWithin-none}
use Rattle.sift_judge.proofs.Deciding.{fails}
use Rattle.sift_judge.proofs.EachInTurn.{all_are, not_all, one_more}
use Rattle.sift_judge.proofs.working.all_tell_config.Goals as goal

pub loop-unit-init : goal.loop-unit-init
loop-unit-init c =
    let tells : ℕ → Type 0 = λ u. (told_at (data_of c.args.mission.now) c.args.lines.now c.args.f u).config ≡ Some c.args.config.now in
    AllWithin-none tells c.args.units.now 0

pub loop-unit-preserved : goal.loop-unit-preserved
loop-unit-preserved c =
    let tells : ℕ → Type 0 = λ u. (told_at (data_of c.args.mission.now) c.args.lines.now c.args.f u).config ≡ Some c.args.config.now in
    let is = c.tells_config.ensures in
    one_more tells c.args.units.now c.loop-unit.unit-index c.unit-item.result c.loop-unit-test.true c.unit-item.is
    c.loop-unit.invariant (is.0 c.if-not-tells_config.false)

pub returns-then-not-tells_config : goal.returns-then-not-tells_config
returns-then-not-tells_config c =
    let tells : ℕ → Type 0 = λ u. (told_at (data_of c.args.mission.now) c.args.lines.now c.args.f u).config ≡ Some c.args.config.now in
    let is = c.tells_config.ensures in
    not_all tells c.args.units.now c.loop-unit.unit-index c.unit-item.result c.loop-unit-test.true c.unit-item.is
    (fails c.tells_config.result (tells c.unit-item.result) is c.if-not-tells_config.true)

pub returns : goal.returns
returns c =
    let tells : ℕ → Type 0 = λ u. (told_at (data_of c.args.mission.now) c.args.lines.now c.args.f u).config ≡ Some c.args.config.now in
    all_are tells c.args.units.now c.loop-unit.unit-index c.loop-unit-test.false c.loop-unit.invariant
