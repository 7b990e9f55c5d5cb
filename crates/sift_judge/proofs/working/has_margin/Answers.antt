use Rattle.std.proofs.Common.{ℕ, Bool, ◌∙◌, ◌-◌, length, ap, arith}
use Rattle.std.proofs.lemmas.Bool.{le-leb, leb-true}
use Rattle.std.proofs.lemmas.List.Sums.{length-filter}
use Rattle.sift_exec.specs.laws.Counted.{faulty-rest, filter-≤}
use Rattle.sift_mission.specs.Parts.{data_of}
use Rattle.sift_report.specs.Told.{works_in}
use Rattle.sift_judge.proofs.working.has_margin.Goals as goal

pub overflow_sub-faulty : goal.overflow_sub-faulty
overflow_sub-faulty c =
    let works : ℕ → Bool = λ u. works_in (data_of c.args.mission.now) u c.args.f in
    let working = c.len-working.ensures.value ∙ ap length c.working_in.ensures in
    omega (arith, c.len.ensures.length, working, filter-≤ works c.args.config.now)

pub returns-then-faulty-le1 : goal.returns-then-faulty-le1
returns-then-faulty-le1 c =
    let works : ℕ → Bool = λ u. works_in (data_of c.args.mission.now) u c.args.f in
    let all = c.len.ensures.length in
    let working = c.len-working.ensures.value ∙ ap length c.working_in.ensures in
    let rest = faulty-rest works c.args.config.now in
    let count = length-filter works c.args.config.now in
    let few = c.if-faulty-le1.true in (
      (λ t. (let enough = leb-true 4 c.len-working.result t in
          record { few = omega (arith, all, working, rest, few); enough = omega (arith, enough, working, count) })),
      (λ h. le-leb 4 c.len-working.result (omega (arith, h.enough, working, count))),
    )

pub returns-else-faulty-le1 : goal.returns-else-faulty-le1
returns-else-faulty-le1 c =
    let works : ℕ → Bool = λ u. works_in (data_of c.args.mission.now) u c.args.f in
    let all = c.len.ensures.length in
    let working = c.len-working.ensures.value ∙ ap length c.working_in.ensures in
    let rest = faulty-rest works c.args.config.now in
    let many = c.len.result - c.len-working.result in (
      (λ t. (let low = leb-true many 1 t in let f = c.if-faulty-le1.false in absurd (omega (arith, low, f)))),
      (λ h. le-leb many 1 (omega (arith, h.few, all, working, rest))),
    )
