use Rattle.std.proofs.Common.{◌≡◌, None, replicate, rules, ◌∙◌}
use Rattle.sift_bus_port.specs.Logs.{log_by, none_wrong}
use Rattle.sift_bus_port.proofs.Logs.{blank}
use Rattle.sift_bus_port.proofs.log.BusLog.make.Goals as goal

pub returns : goal.returns
returns c =
    let carried : c.in_ok-vec.field-0.items ≡ replicate _ None = c.in_ok-vec.ensures.items_if_clones_equal (search rules) in
    let wrong : c.in_ok-vec-2.field-0.items ≡ replicate _ none_wrong = c.in_ok-vec-2.ensures.items_if_clones_equal (search rules) in
    (λ i. log_by (c.of-grid.ensures.layout i) (c.of-grid.ensures.frames i) (carried i) (wrong i)) ∙ blank c.args.layout c.args.frames _ _
