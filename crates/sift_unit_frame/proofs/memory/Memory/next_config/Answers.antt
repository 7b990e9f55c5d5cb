use Rattle.std.proofs.Common.{◌≡◌, ap, ◌∙◌, map, arith}
use Rattle.std.proofs.lemmas.Grind.{common_steps}
use Rattle.sift_base.specs.Units.{has_bit}
use Rattle.sift_exec.specs.Conviction.{names_by, report_by}
use Rattle.sift_exec.specs.laws.NextConfigs.{next-same}
use Rattle.sift_mission.specs.Parts.{flown_of}
use Rattle.sift_unit_frame.specs.Tidings.{report_taken, names_now}
use Rattle.sift_unit_frame.specs.Memories.{memory_of}
use Rattle.sift_unit_frame.proofs.Memories.{next_is, report_of_unit}
use Rattle.sift_unit_frame.proofs.memory.Memory.next_config.Goals as goal

pub returns : goal.returns
returns c =
    let us = c.args.config.now in
    let m = flown_of c.args.mission.now in
    let b = memory_of c.args.self.now in
    let f = report_taken m us c.args.unit b in
    let words : c.deref.result.now ≡ map f us = c.deref.ensures.0 ∙ c.reports_taken-reports.ensures in
    c.next_config.ensures ∙ next_is us c.convict.result (names_by us c.deref.result.now) c.convict.ensures
    ∙ next-same (names_by us c.deref.result.now) (names_now m us c.args.unit b) us (λ r v there. ap (λ w. has_bit w v)
    (ap (λ ws. report_by us ws r) words ∙ report_of_unit f us r there))

pub convict-requires : goal.convict-requires
convict-requires c = grind (arith, common_steps)
