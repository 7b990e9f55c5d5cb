use Rattle.std.proofs.Common.{◌≡◌, [], get_or, ap, sym, ◌∙◌, w32, rules, arith, pos}
use mir.Val.{SFits}
use Rattle.std.proofs.lemmas.Int.{ints, to_z-of_z}
use Rattle.sift_mission.proofs.Rows.{error-low, errors-low, errors-place, errors-row}
use Rattle.sift_mission.specs.Parts.{data_of}
use Rattle.sift_mission.specs.Flown.{ticks_of}
use Rattle.sift_mission.proofs.mission.Mission.error.Goals as goal

pub bounds-deref-from : goal.bounds-deref-from
bounds-deref-from c =
    rw (c.from.ensures, c.get.ensures.number, c.deref.ensures.0, c.parts.ensures.same)
    (errors-place c.args.self.now c.parts.ensures.fit c.args.u c.requires.own)

pub ticks_at-requires : goal.ticks_at-requires
ticks_at-requires c =
    let row = c.index-deref-from.result in
    let low = errors-low (data_of c.args.self.now) c.parts.ensures.fit c.args.u c.requires.own in
    let read : row ≡ get_or c.args.self.now.clock.errors.items c.args.u row =
    rw (← c.parts.ensures.same, ← c.deref.ensures.0, ← c.get.ensures.number, ← c.from.ensures) c.index-deref-from.is in
    rw (← errors-row c.args.self.now c.parts.ensures.fit c.args.u low row read)
    (error-low (data_of c.args.self.now) c.parts.ensures.fit c.args.u c.requires.own c.args.p c.requires.other)

pub returns-clause-error : goal.returns-clause-error
returns-clause-error c =
    let row = c.index-deref-from.result in
    let low = errors-low (data_of c.args.self.now) c.parts.ensures.fit c.args.u c.requires.own in
    let read : row ≡ get_or c.args.self.now.clock.errors.items c.args.u row =
    rw (← c.parts.ensures.same, ← c.deref.ensures.0, ← c.get.ensures.number, ← c.from.ensures) c.index-deref-from.is in
    let fits : SFits w32 c.ticks_at.result = search rules in
    to_z-of_z w32 c.ticks_at.result fits
    ∙ (c.ticks_at.ensures ∙ ap (λ ticks. ticks_of ticks c.args.p) (sym (errors-row c.args.self.now c.parts.ensures.fit c.args.u low row read)))

pub returns-clause-small : goal.returns-clause-small
returns-clause-small c =
    let d = data_of c.args.self.now in
    let fit = c.parts.ensures.fit in
    let near = fit.clock.errors_within c.args.u [] (errors-low d fit c.args.u c.requires.own) c.args.p (pos 0) (error-low d fit c.args.u c.requires.own c.args.p c.requires.other) in
    let kept = fit.clock.admitted.kept in let told = fit.clock.admitted.told in let rate = fit.clock.numbers.2 in
    rw (returns-clause-error c) (omega (arith, ints), omega (arith, ints))
