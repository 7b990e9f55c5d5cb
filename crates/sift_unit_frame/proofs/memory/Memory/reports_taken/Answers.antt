use Rattle.std.proofs.Common.{◌≡◌, ◌++◌, ◌∷◌, [], ap, ◌∙◌, sym, arith, length, nat_eq}
use Rattle.std.proofs.lemmas.Grind.{common_steps}
use Rattle.std.specs.Prelude.{slice_index, if◌then◌else◌}
use Rattle.sift_mission.specs.Parts.{flown_of}
use Rattle.sift_unit_frame.specs.Tidings.{report_taken}
use Rattle.sift_unit_frame.specs.Memories.{memory_of}
use Rattle.sift_unit_frame.proofs.InTurn.{map_more, length-in_turn, few_units}
use Rattle.sift_unit_frame.proofs.memory.Memory.reports_taken.Goals as goal

-- there is room for one more
pub push-requires : goal.push-requires
push-requires c =
    let us = c.args.config.now in
    let f = report_taken (flown_of c.args.mission.now) us c.args.unit (memory_of c.args.self.now) in
    let config = c.len-position-end.ensures.config in
    let few = few_units 8 0 us (omega arith) config.ascending (λ u there. (omega arith, config.inside u there)) in
    let so_far = length-in_turn f us c.loop-position.position in
    let are = ap length c.loop-position.invariant in
    let low = c.loop-position-test.true in
    let all = c.len-position-end.ensures.length in
    omega arith

-- one report more
pub loop-position-preserved : goal.loop-position-preserved
loop-position-preserved c =
    let us = c.args.config.now in
    let b = memory_of c.args.self.now in
    let f = report_taken (flown_of c.args.mission.now) us c.args.unit b in
    let t = c.unit_at.result in
    let is : c.report_of.result ≡ f t = c.report_of.ensures ∙ ap (λ own. if nat_eq t c.args.unit then own else slice_index b.agreed t) c.report-own.ensures in
    c.push.ensures.items ∙ (λ i. c.loop-position.invariant i ++ is i ∷ []) ∙ sym (map_more f us c.loop-position.position t c.unit_at.ensures)

pub returns : goal.returns
returns c = grind (arith, common_steps)
