use Rattle.std.proofs.Common.{rules, ◌&&◌, not, nat_eq}
use Rattle.std.specs.Prelude.{◌+ℤ◌}
use Rattle.sift_clock.specs.Correction.{is_too_far}
use Rattle.sift_mission.specs.Parts.{flown_of}
use Rattle.sift_unit_frame.specs.Memory.{reading_at}
use Rattle.sift_unit_frame.specs.Memories.{memory_of}
use Rattle.sift_unit_frame.proofs.Memories.{is_gathered, clocks_same}
use Rattle.sift_unit_frame.proofs.memory.Memory.note_clocks.Goals as goal

pub returns-clause-noted : goal.returns-clause-noted
returns-clause-noted c =
    let m = flown_of c.args.mission.now in
    let b = memory_of c.args.self.now in
    let u = c.args.unit in
    let clk = c.args.clk.now in
    let heard = c.args.places.now in
    let far = is_gathered c.far_clocks-self.result (λ v. not (nat_eq v u) && is_too_far (m.skew +ℤ m.error) (reading_at m u clk heard v)) c.args.config.now c.far_clocks-self.ensures in
    λ f last. clocks_same b _ _ _ _ far (search (rules, c.next_offset-self.ensures))
