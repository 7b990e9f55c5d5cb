use Rattle.std.proofs.Common.{◌≡◌, ℕ, Option, ◌++◌, ◌∷◌, [], ◌∙◌, length, map, take, sym, ap, arith}
use Rattle.std.specs.List.{filter}
use Rattle.std.proofs.lemmas.List.{length-map}
use Rattle.sift_exec.specs.laws.Counted.{filter-yes, filter-no, filter-room}
use Rattle.sift_mission.specs.Parts.{flown_of}
use Rattle.sift_flight.specs.Told.{told}
use Rattle.sift_report.specs.Poll.{poll_of}
use Rattle.sift_report.specs.declared.poll.Poll.{Poll}
use Rattle.sift_report.proofs.Polls.{polls_more}
use Rattle.sift_report.proofs.poll.polls_of.Goals.{then-executes, else-executes}
use Rattle.sift_report.proofs.poll.polls_of.Goals as goal

pub push-requires : goal.push-requires
push-requires c =
    let m = flown_of c.args.mission.now in
    let us = c.account_at.result.now.cfg in
    let room = filter-room (m.executes us c.args.word) us c.loop-i.i c.unit_at-unit.result c.unit_at-unit.ensures c.len-i-end.ensures.config in
    let count = length-map (filter (m.executes us c.args.word) (take c.loop-i.i us)) (poll_of (told m c.args.flight.now) c.args.f c.args.u c.args.word) in
    (omega arith, omega (arith, room, count, ap length c.loop-i.invariant))

pub loop-i-preserved : goal.loop-i-preserved
loop-i-preserved c =
    let m = flown_of c.args.mission.now in
    let us = c.account_at.result.now.cfg in
    let poll = poll_of (told m c.args.flight.now) c.args.f c.args.u c.args.word in
    elim c.if-executes.branch [
      | then-executes w ↦
          let made : Poll = record { unit = c.unit_at-unit.result; word = w.place_of.result } in
          let items : c.if-executes.polls.items ≡ c.loop-i.polls.items ++ made ∷ [] = rw w.polls-is w.push.ensures.items in
          polls_more poll _ _ c.unit_at-unit.result c.loop-i.polls.items _ made c.loop-i.invariant items
          (ap (λ (word : Option ℕ). record { unit = c.unit_at-unit.result; word = word }) w.place_of.ensures)
          (filter-yes (m.executes us c.args.word) us c.loop-i.i c.unit_at-unit.result c.unit_at-unit.ensures (sym c.executes.ensures ∙ w.if-executes.true))
      | else-executes w ↦
          rw w.polls-is (c.loop-i.invariant ∙ ap (map poll)
          (sym (filter-no (m.executes us c.args.word) us c.loop-i.i c.unit_at-unit.result c.unit_at-unit.ensures (sym c.executes.ensures ∙ w.if-executes.false))))
    ]
