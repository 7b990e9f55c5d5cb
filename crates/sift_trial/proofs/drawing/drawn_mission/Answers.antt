use Rattle.std.proofs.Common.{◌≡◌, sym, subst}
use Rattle.toml.specs.Data.{Members}
use Rattle.toml.specs.View.{table_view}
use Rattle.sift_gen.specs.Scenario.{tree_of}
use Rattle.sift_mission.specs.Parts.{data_of}
use Rattle.sift_scenario.specs.Mission.{IsMission}
use Rattle.sift_trial.proofs.drawing.drawn_mission.Goals as goal

-- the tree states a mission, so memory is wanting
pub wanting-requires : goal.wanting-requires
wanting-requires c =
    let known = c.drawn_trees_are_missions.ensures c.args.number in
    let same : table_view c.in_ok-tree.tree ≡ tree_of c.args.number = c.in_ok-tree.ensures in
    c.in-Err.ensures.complete known.0 (subst (λ (tree : Members). IsMission tree known.0) (sym same) known.1)

-- the tree that was drawn is that of the number
pub returns-in-Ok : goal.returns-in-Ok
returns-in-Ok c = subst (λ (tree : Members). IsMission tree (data_of c.in-Ok.mission)) c.in_ok-tree.ensures c.in-Ok.ensures.accepted
