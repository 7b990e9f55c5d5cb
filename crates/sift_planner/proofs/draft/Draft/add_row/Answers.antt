use Rattle.std.proofs.Common.{◌≡◌, ◌+◌, ◌++◌, ◌∷◌, ◌∙◌, [], map, set, take, ap, refl, rules, arith}
use Rattle.std.specs.Prelude.{slice_index}
use Rattle.std.proofs.lemmas.List.{map_push}
use Rattle.std.proofs.lemmas.Grind.{common_steps}
use Rattle.sift_table.specs.Schedule.{hearing_delay}
use Rattle.sift_planner.specs.Drafts.{drafted, rows_in, with_row}
use Rattle.sift_planner.specs.Earliest.{free_positions}
use Rattle.sift_planner.proofs.Plans.{same_schedule}
use Rattle.sift_planner.proofs.Used.{kept_more}
use Rattle.sift_planner.proofs.draft.Draft.add_row.Goals as goal

-- one row more
pub returns-clause-kept : goal.returns-clause-kept
returns-clause-kept c =
    let draft = c.args.self.now in
    let at = take draft.executors (free_positions (drafted draft) (rows_in draft) c.args.run) in
    let from : c.from.result ≡ c.args.run = search rules in
    let rows = ap (map (λ row. row.items)) c.in_ok-push-3.ensures.items ∙ map_push (λ row. row.items) draft.table.at.items c.in_ok-positions.positions
    ∙ ap (λ ps. map (λ row. row.items) draft.table.at.items ++ ps ∷ []) c.in_ok-positions.ensures in
    kept_more draft _ c.args.run (c.args.run + hearing_delay) c.requires.kept c.requires.by_reports c.requires.room
    (same_schedule _ (with_row (drafted draft) c.args.run (c.args.run + hearing_delay) at) refl refl c.in_ok-push.ensures.items c.in_ok-push-2.ensures.items rows refl)
    refl (ap (λ e. set draft.used e (slice_index draft.used e + draft.executors)) from)

pub returns-clause-row : goal.returns-clause-row
returns-clause-row c = grind (arith, common_steps)
