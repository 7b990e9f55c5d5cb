use Rattle.std.proofs.Common.{◌≡◌, ◌+◌, ◌*◌, map, refl, ap, ◌∙◌}
use Rattle.std.proofs.lemmas.Result.{IfOk-weaker}
use Rattle.toml.specs.View.{view}
use Rattle.sift_base.specs.Draw.{after, draw_at}
use Rattle.sift_gen.specs.Scenario.{fault_table, sensor_tables, task_place, task_tables, words_each}
use Rattle.sift_gen.proofs.Drawing.{after-next, draw-next}
use Rattle.sift_gen.proofs.Trees.{same-four, same-three, same-two, same_tree}
use Rattle.sift_gen.proofs.scenario.scenario_tree.Goals as goal

-- the draws in turn: the counts, the sensors, the tasks and the fault
pub returns : goal.returns
returns c =
    let n = c.args.number in
    let some = 5 + draw_at n 0 4 in
    let long = 20 + draw_at n 1 181 in
    let sensed = 1 + draw_at n 2 8 in
    let many = 1 + draw_at n 3 12 in
    let x = after n 4 in
    let y = after x (words_each * sensed) in
    let z = task_place many y in
    let one : c.drawn-units.new.draw ≡ after n 1 = c.drawn-units.ensures.next ∙ ap (λ x. after x 1) c.of-draw.ensures in
    let two = after-next n _ _ 1 2 one c.drawn-frames.ensures.next refl in
    let three = after-next n _ _ 2 3 two c.drawn-sensors.ensures.next refl in
    let four : c.drawn-tasks.new.draw ≡ x = after-next n _ _ 3 4 three c.drawn-tasks.ensures.next refl in
    let units : 5 + c.drawn-units.result ≡ some =
    ap (λ x. 5 + x) (c.drawn-units.ensures.drawn ∙ ap (λ x. draw_at x 0 4) c.of-draw.ensures) in
    let frames : 20 + c.drawn-frames.result ≡ long = ap (λ x. 20 + x) (c.drawn-frames.ensures.drawn ∙ draw-next n _ 1 181 one) in
    let sensors : 1 + c.drawn-sensors.result ≡ sensed = ap (λ x. 1 + x) (c.drawn-sensors.ensures.drawn ∙ draw-next n _ 2 8 two) in
    let tasks : 1 + c.drawn-tasks.result ≡ many = ap (λ x. 1 + x) (c.drawn-tasks.ensures.drawn ∙ draw-next n _ 3 12 three) in
    let sensor_list : map view c.in_ok-sensor_entries.sensor_entries.items ≡ sensor_tables sensed x =
    c.in_ok-sensor_entries.ensures.made ∙ same-two sensor_tables _ _ _ _ sensors four in
    let task_start : c.sensor_tables.new.draw ≡ y =
    c.in_ok-sensor_entries.ensures.drawn ∙ same-two (λ k x. after x (words_each * k)) _ _ _ _ sensors four in
    let task_list : map view c.in_ok-task_entries.task_entries.items ≡ task_tables many sensed y =
    c.in_ok-task_entries.ensures.made ∙ same-three task_tables _ _ _ _ _ _ tasks sensors task_start in
    let fault_start : c.task_tables.new.draw ≡ z =
    c.in_ok-task_entries.ensures.drawn ∙ same-two task_place _ _ _ _ tasks task_start in
    let fault : _ ≡ fault_table some long many z =
    c.in_ok-fault.ensures ∙ same-four fault_table _ _ _ _ _ _ _ _ units frames tasks fault_start in
    IfOk-weaker c.document_of.result _ _
    (λ tree made. made ∙ same_tree some long sensed many x _ _ _ _ _ units frames sensor_list task_list fault) c.document_of.ensures
