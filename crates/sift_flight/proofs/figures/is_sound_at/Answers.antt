use Rattle.std.proofs.Common.{◌∙◌, length, ap, arith}
use Rattle.sift_exec.specs.laws.Counted.{enough_decides, few_decides, filter-≤}
use Rattle.sift_mission.specs.Parts.{flown_of}
use Rattle.sift_flight.specs.Figures.{config_at}
use Rattle.sift_flight.specs.Told.{told}
use Rattle.sift_flight.proofs.figures.is_sound_at.Goals as goal

pub overflow_sub-faulty : goal.overflow_sub-faulty
overflow_sub-faulty c =
    let m = flown_of c.args.mission.now in
    let us = config_at m (told m c.args.flight.now) c.args.f in
    let all = c.len.ensures.length ∙ ap length c.config_at.ensures.config in
    let working = c.len-working.ensures.value ∙ ap length c.working_at.ensures.working in
    omega (arith, filter-≤ (λ u. m.works u c.args.f) us)

pub returns-then-faulty-le1 : goal.returns-then-faulty-le1
returns-then-faulty-le1 c =
    let m = flown_of c.args.mission.now in
    let us = config_at m (told m c.args.flight.now) c.args.f in
    let all = c.len.ensures.length ∙ ap length c.config_at.ensures.config in
    let working = c.len-working.ensures.value ∙ ap length c.working_at.ensures.working in
    enough_decides (λ u. m.works u c.args.f) us c.len.result c.len-working.result all working c.if-faulty-le1.true

pub returns-else-faulty-le1 : goal.returns-else-faulty-le1
returns-else-faulty-le1 c =
    let m = flown_of c.args.mission.now in
    let us = config_at m (told m c.args.flight.now) c.args.f in
    let all = c.len.ensures.length ∙ ap length c.config_at.ensures.config in
    let working = c.len-working.ensures.value ∙ ap length c.working_at.ensures.working in
    few_decides (λ u. m.works u c.args.f) us c.len.result c.len-working.result all working c.if-faulty-le1.false
