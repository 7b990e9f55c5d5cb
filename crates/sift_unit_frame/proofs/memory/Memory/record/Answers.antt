use Rattle.std.proofs.Common.{◌≡◌, ◌&&◌, nat_cmp, take_all, ap, ◌∙◌, sym, refl, arith}
use Rattle.std.specs.FinSet as set
use Rattle.std.specs.List.{list_any, range_with_len}
use Rattle.sift_base.specs.Units.{has, holds}
use Rattle.sift_exec.specs.declared.catches.Catches.{Catches}
use Rattle.sift_exec.specs.declared.catches.Kind.TheVariants.{Poll, Relay, Clock}
use Rattle.sift_mission.specs.Parts.{flown_of}
use Rattle.sift_unit_frame.specs.Memory.{units_at}
use Rattle.sift_unit_frame.specs.Tidings.{poll_now, relay_now, clock_now}
use Rattle.sift_unit_frame.specs.Memories.{memory_of}
use Rattle.sift_unit_frame.proofs.Memories.{is_gathered}
use Rattle.sift_unit_frame.proofs.Recording.{more_members, noted_where, sets_after}
use Rattle.sift_unit_frame.proofs.memory.Memory.record.Goals as goal
use Rattle.sift_unit_frame.proofs.memory.Memory.record.Goals.{then-has, else-has, then-has-2, else-has-2, then-has-3, else-has-3}

-- nobody is noted at first
pub loop-position-init : goal.loop-position-init
loop-position-init c = record {
  polls = λ v. ap (λ (r : Catches). holds r.poll v) c.new-recorder.ensures ∙ set.contains-empty nat_cmp v;
  relays = λ v. ap (λ (r : Catches). holds r.relay v) c.new-recorder.ensures ∙ set.contains-empty nat_cmp v;
  clocks = λ v. ap (λ (r : Catches). holds r.clock v) c.new-recorder.ensures ∙ set.contains-empty nat_cmp v;
}

-- one unit more is noted in each way in which it was caught
pub loop-position-preserved : goal.loop-position-preserved
loop-position-preserved c =
    let us = c.args.config.now in
    let i = c.loop-position.position in
    let t = c.unit_at-unit.result in
    let before = c.loop-position.recorder in
    let so_far = c.loop-position.invariant in
    let clock = (memory_of c.args.self.now).clock in
    let polls : c.if-has.recorder ≡ noted_where (holds c.union_of-polled.result t) before t Poll
    = elim c.if-has.branch [
      | then-has w ↦ w.recorder-is ∙ w.note.ensures ∙ rw (sym c.has.ensures ∙ w.if-has.true) refl
      | else-has w ↦ w.recorder-is ∙ rw (sym c.has.ensures ∙ w.if-has.false) refl
    ] in
    let relays : c.if-has-2.recorder ≡ noted_where (holds c.union_of-relayed.result t) c.if-has.recorder t Relay
    = elim c.if-has-2.branch [
      | then-has-2 w ↦ w.recorder-is ∙ w.note-then-has-2.ensures ∙ rw (sym c.has-in-loop-position.ensures ∙ w.if-has-2.true) refl
      | else-has-2 w ↦ w.recorder-is ∙ rw (sym c.has-in-loop-position.ensures ∙ w.if-has-2.false) refl
    ] in
    let clocks : c.if-has-3.recorder ≡ noted_where (holds clock t) c.if-has-2.recorder t Clock
    = elim c.if-has-3.branch [
      | then-has-3 w ↦ w.recorder-is ∙ w.note-then-has-3.ensures ∙ rw (sym c.has-in-loop-position-2.ensures ∙ w.if-has-3.true) refl
      | else-has-3 w ↦ w.recorder-is ∙ rw (sym c.has-in-loop-position-2.ensures ∙ w.if-has-3.false) refl
    ] in
    let after = clocks
    ∙ (λ j. noted_where (holds clock t) ((relays ∙ (λ k. noted_where (holds c.union_of-relayed.result t) (polls k) t Relay)) j) t Clock)
    ∙ sets_after before t (holds c.union_of-polled.result t) (holds c.union_of-relayed.result t) (holds clock t) in
    record {
      polls = λ v. ap (λ (r : Catches). holds r.poll v) after
          ∙ more_members us i t before.poll (holds c.union_of-polled.result) c.unit_at-unit.ensures so_far.polls v;
      relays = λ v. ap (λ (r : Catches). holds r.relay v) after
          ∙ more_members us i t before.relay (holds c.union_of-relayed.result) c.unit_at-unit.ensures so_far.relays v;
      clocks = λ v. ap (λ (r : Catches). holds r.clock v) after
          ∙ more_members us i t before.clock (holds clock) c.unit_at-unit.ensures so_far.clocks v;
    }

-- all units are noted
pub returns : goal.returns
returns c =
    let m = flown_of c.args.mission.now in
    let us = c.args.config.now in
    let b = memory_of c.args.self.now in
    let so_far = c.loop-position.invariant in
    let all = take_all c.loop-position.position us (omega (arith, c.loop-position-test.false, c.len-position-end.ensures.length)) in
    let polls : c.loop-position.recorder.poll ≡ poll_now m us b
    = is_gathered c.loop-position.recorder.poll (λ v. list_any (λ w. holds (units_at b.poll w) v) (range_with_len 0 m.words)) us
    (λ v. so_far.polls v ∙ (λ i. has (all i) v && (c.union_of-polled.ensures v ∙ ap (λ n. list_any (λ w. holds (units_at b.poll w) v) (range_with_len 0 n)) c.words.ensures) i)) in
    let relays : c.loop-position.recorder.relay ≡ relay_now m us b
    = is_gathered c.loop-position.recorder.relay (λ v. list_any (λ x. holds (units_at b.relay x) v) (range_with_len 0 m.sensors)) us
    (λ v. so_far.relays v ∙ (λ i. has (all i) v && (c.union_of-relayed.ensures v ∙ ap (λ n. list_any (λ x. holds (units_at b.relay x) v) (range_with_len 0 n)) c.sensors.ensures) i)) in
    let clocks : c.loop-position.recorder.clock ≡ clock_now us b
    = is_gathered c.loop-position.recorder.clock (holds b.clock) us (λ v. so_far.clocks v ∙ ap (λ vs. has vs v && holds b.clock v) all) in
    λ i. record { poll = polls i; relay = relays i; clock = clocks i }
