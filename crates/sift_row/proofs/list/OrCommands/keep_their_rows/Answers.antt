use Rattle.sift_row.proofs.Kept.{all_kept}
use Rattle.sift_row.proofs.list.OrCommands.keep_their_rows.Goals as goal

pub returns : goal.returns
returns g c = λ means.
    all_kept (g.A.Command.row_of means) (g.B.Commands.rows_of means) c.one_mission.ensures c.missions_are_accepted.ensures c.one_refusal.ensures
    c.bytes_state_one_mission.ensures.one c.bytes_state_one_mission.ensures.unrefused (c.keeps_its_row.ensures means) (c.keep_their_rows.ensures means)
