-- There are plans for all sizes in one way, or one first size without room.
use Rattle.std.proofs.Common.{◌≡◌, ℕ, ◌+◌, ◌-◌, [], length, subst, inl, inr, arith}
use Rattle.std.proofs.lemmas.Bool.{cases_order}
use Rattle.std.proofs.lemmas.List.{ext_get_or}
use Rattle.sift_base.specs.Layout.{least_units}
use Rattle.sift_table.specs.Schedule.{Schedule}
use Rattle.sift_planner.specs.Plans.{HasNoRoom, IsPlan, wanted}
use Rattle.sift_planner.specs.Sizes.{OnePlanEach, OneSizeWithoutRoom, table_at}
use Rattle.sift_planner.proofs.Plans.{one_plan, one_refusal}

-- there are plans for all sizes in one way at most
pub one_plan_each : OnePlanEach
one_plan_each shapes units period copies some others plannable a b =
    let empty : Schedule = record { size = 0; period = 0; run = []; poll = []; at = []; shed = [] } in
    let long : length some ≡ length others = omega (arith, a.count, b.count) in
    ext_get_or empty some others long
    (λ i low. one_plan shapes (wanted (least_units + i) period copies) (table_at some i) (table_at others i) plannable (a.each i low) (b.each i (omega (arith, low, long))))

-- a first size without room for a task is the only one, with that task, and then there are no plans for all sizes
pub one_size_without_room : OneSizeWithoutRoom
one_size_without_room shapes units period copies place plannable none = (
  (λ tables plans.
      let i = place.size - least_units in
      let at : least_units + i ≡ place.size = omega (arith, none.from) in
      let here = plans.each i (omega (arith, plans.count, none.from, none.to)) in
      (one_refusal shapes (wanted place.size period copies) place.task plannable none.no_room).0 (table_at tables i)
      (subst (λ (s : ℕ). IsPlan shapes (wanted s period copies) (table_at tables i)) at here)),
  (λ other again.
      let same : other.size ≡ place.size = elim (cases_order other.size place.size) [
        | inl equal ↦ equal
        | inr (inl before) ↦
            let plan = none.smaller other.size again.from before in
            absurd ((one_refusal shapes (wanted other.size period copies) other.task plannable again.no_room).0 plan.0 plan.1)
        | inr (inr after) ↦
            let plan = again.smaller place.size none.from after in
            absurd ((one_refusal shapes (wanted place.size period copies) place.task plannable none.no_room).0 plan.0 plan.1)
      ] in (
        same,
        (one_refusal shapes (wanted place.size period copies) place.task plannable none.no_room).1 other.task
            (subst (λ (s : ℕ). HasNoRoom shapes (wanted s period copies) other.task) same again.no_room),
      )),
)
