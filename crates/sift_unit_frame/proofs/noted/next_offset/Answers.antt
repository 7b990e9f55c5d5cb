use Rattle.std.proofs.Common.{◌∙◌, sym, subst, arith, rules, w64}
use Rattle.std.specs.Prelude.{FitsSigned}
use mir.Val.{SFits}
use Rattle.std.proofs.lemmas.Int.{to_z-of_z}
use Rattle.std.proofs.lemmas.List.{length-map}
use Rattle.sift_mission.specs.laws.Offsets.{next_little}
use Rattle.sift_mission.specs.Parts.{flown_of}
use Rattle.sift_unit_frame.specs.Memory.{reading_at, offset_after}
use Rattle.sift_unit_frame.proofs.InTurn.{few_units, others_and_one}
use Rattle.sift_unit_frame.proofs.Sums.{offset_sum, advanced_fits}
use Rattle.sift_unit_frame.proofs.noted.next_offset.Goals as goal

-- there are eight units at most
pub overflow_cast-len : goal.overflow_cast-len
overflow_cast-len c =
    let config = c.len.ensures.config in
    let few = few_units 8 0 c.args.config.now (omega arith) config.ascending (λ u there. (omega arith, config.inside u there)) in
    omega (arith, c.len.ensures.length)

-- the others are one less
pub correction-mean-requires : goal.correction-mean-requires
correction-mean-requires c =
    let us = c.args.config.now in
    rw (c.deref.ensures.0, c.readings_of-readings.ensures, length-map, c.len.ensures.length) (others_and_one c.args.unit us c.requires.unit.config.ascending c.requires.unit.member)

-- the sum is the next offset, which fits
pub advance-requires : goal.advance-requires
advance-requires c =
    let m = flown_of c.args.mission.now in
    let us = c.args.config.now in
    let u = c.args.unit in
    let clk = c.args.clk.now in
    let read = reading_at m u clk c.args.places.now in
    let unit = c.requires.unit.config.inside u c.requires.unit.member in
    let little = c.offsets_change_little.ensures in
    let sum = offset_sum m c.requires.fits little us read clk u c.requires.unit.member unit c.correction-mean.result c.drift.result c.reading_limit.result c.deref.result.now c.len.result
    c.requires.near (c.deref.ensures.0 ∙ c.readings_of-readings.ensures) c.len.ensures.length c.reading_limit.ensures c.correction-mean.ensures c.drift.ensures in
    subst (λ n. FitsSigned w64 n) (sym sum)
    (advanced_fits (offset_after m us u clk c.args.places.now) clk c.requires.near (next_little m c.requires.fits little us read clk u c.requires.unit.member unit))

pub returns : goal.returns
returns c =
    let m = flown_of c.args.mission.now in
    let us = c.args.config.now in
    let u = c.args.unit in
    let clk = c.args.clk.now in
    let read = reading_at m u clk c.args.places.now in
    let unit = c.requires.unit.config.inside u c.requires.unit.member in
    let little = c.offsets_change_little.ensures in
    let fits : SFits w64 c.advance.result = search rules in
    to_z-of_z w64 c.advance.result fits ∙ (c.advance.ensures
    ∙ offset_sum m c.requires.fits little us read clk u c.requires.unit.member unit c.correction-mean.result c.drift.result c.reading_limit.result c.deref.result.now c.len.result
    c.requires.near (c.deref.ensures.0 ∙ c.readings_of-readings.ensures) c.len.ensures.length c.reading_limit.ensures c.correction-mean.ensures c.drift.ensures)
