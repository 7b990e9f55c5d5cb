use Rattle.std.proofs.Common.{◌∙◌, ap, ◌&&◌}
use Rattle.sift_base.specs.Units.{holds, has}
use Rattle.sift_mission.specs.Crews.{receives}
use Rattle.sift_mission.proofs.Sayers.{all_but}
use Rattle.sift_mission.proofs.crews.receivers_of.Goals as goal

-- a relayed report isn't heard by the unit that it is of
pub returns-in-RelayReport : goal.returns-in-RelayReport
returns-in-RelayReport c = λ q.
    let us = c.args.config.now in
    ap (λ units. holds units q) c.without.ensures
    ∙ all_but c.units_if.result us c.in-RelayReport.s q (c.units_if.ensures q)
    ∙ ap (λ k. has us q && receives k q) c.in-RelayReport.ensures
