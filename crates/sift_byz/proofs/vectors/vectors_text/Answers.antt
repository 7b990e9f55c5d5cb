use Rattle.std.proofs.Common.{◌≡◌, ◌∙◌, ℕ, List, [], get_or, length, ap, arith}
use Rattle.std.proofs.lemmas.List.FromFn.{get_or-map-range_with_len, length-map-range_with_len}
use Rattle.std.specs.List.{flat_map, range_with_len}
use Rattle.sift_line.specs.laws.Printed.{first_text_more}
use Rattle.sift_byz.specs.Plan.{byz_plan_of, vector}
use Rattle.sift_byz.specs.Text.{line_text}
use Rattle.sift_byz.proofs.vectors.vectors_text.Goals as goal

-- each unit has a vector
pub row-requires : goal.row-requires
row-requires c =
    let long : length c.args.vectors.now ≡ c.args.plan.now.units = ap length c.requires ∙ length-map-range_with_len (vector (byz_plan_of c.args.plan.now)) 0 c.args.plan.now.units in
    omega (arith, long, c.loop-unit-test.true)

-- one line more
pub loop-unit-preserved : goal.loop-unit-preserved
loop-unit-preserved c =
    let plan = byz_plan_of c.args.plan.now in
    let unit : ℕ = c.loop-unit.unit in
    let there : c.row.result.now ≡ vector plan unit =
    c.row.ensures.vector ∙ ap (λ (vectors : List (List ℕ)). get_or vectors unit []) c.requires
    ∙ get_or-map-range_with_len (vector plan) 0 c.args.plan.now.units unit unit [] c.loop-unit-test.true (omega arith) in
    first_text_more (λ u. line_text plan u (vector plan u)) unit _ _ c.loop-unit.invariant (rw there at c.in_ok-push_line.ensures)

-- all lines
pub returns : goal.returns
returns c =
    let plan = byz_plan_of c.args.plan.now in
    let all : c.loop-unit.unit ≡ c.args.plan.now.units = omega (arith, c.loop-unit.auto, c.loop-unit-test.false) in
    c.loop-unit.invariant ∙ ap (λ n. flat_map (λ u. line_text plan u (vector plan u)) (range_with_len 0 n)) all
