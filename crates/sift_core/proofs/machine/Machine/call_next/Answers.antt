use Rattle.std.proofs.Common.{◌≡◌, ℕ, slice_index_or, slice_set, refl, sym, ap, ◌∙◌, subst, arith}
use Rattle.std.specs.Vec.{with_item}
use Rattle.sift_base.specs.declared.slots.Layout.{Layout}
use Rattle.sift_seat.specs.Seats.{HasCalls}
use Rattle.sift_seat.specs.Storms.{CallsNext}
use Rattle.sift_seat.specs.declared.seat.Seat.{Seat}
use Rattle.sift_core.proofs.Calls.{but_for_calls, next_called, rogue_at}
use Rattle.sift_core.proofs.machine.Machine.call_next.Goals as goal

-- calls are left at the unit's seat
pub call_next-requires-clause-calls : goal.call_next-requires-clause-calls
call_next-requires-clause-calls g c =
    let here : c.from-place.result ≡ c.args.u = c.from-place.ensures ∙ c.get.ensures.number in
    subst (λ (z : Seat). HasCalls z)
    (sym (c.index_mut.ensures.value ∙ ap (λ (i : ℕ). slice_index_or c.args.self.now.seats.items i c.index_mut.result.now) here))
    (c.requires.calls c.index_mut.result.now)

-- its rogue was asked for its next act, and one call less is left there
pub returns-clause-called : goal.returns-clause-called
returns-clause-called g c = λ d.
    let here : c.from-place.result ≡ c.args.u = c.from-place.ensures ∙ c.get.ensures.number in
    let few = c.get.ensures.small in let long = c.requires.rogues in let number = c.get.ensures.number in
    next_called c.args.self.now c.args.u c.from-place.result here c.index_mut.result.now c.call_next.new.self c.index_mut.ensures.value c.requires.unit
    (with_item c.args.self.now.seats c.from-place.result c.call_next.new.self) refl c.call_next.ensures.called.board g.R.Rogue.allows c.args.rogues.now _
    (slice_index_or c.args.rogues.now c.from-place.result c.index-rogues-place.result) c.call_next.new.rogue
    (rogue_at c.args.rogues.now c.args.u c.from-place.result c.index-rogues-place.result (omega arith) here)
    (ap (λ (i : ℕ). slice_set c.args.rogues.now i c.call_next.new.rogue) here) c.args.self.now.rack.grid.layout c.call_next.result
    (subst (λ (l : Layout). CallsNext g.R.Rogue.allows l c.args.u c.index_mut.result.now
    (slice_index_or c.args.rogues.now c.from-place.result c.index-rogues-place.result) c.call_next.result c.call_next.new.self
    c.call_next.new.rogue) c.layout-layout.ensures c.call_next.ensures.called) d

-- and nothing else has changed
pub returns-clause-rest : goal.returns-clause-rest
returns-clause-rest g c = but_for_calls c.args.self.now c.args.u c.from-place.result (c.from-place.ensures ∙ c.get.ensures.number) c.index_mut.result.now
    c.call_next.new.self c.index_mut.ensures.value c.requires.unit (with_item c.args.self.now.seats c.from-place.result c.call_next.new.self) refl
    c.call_next.ensures.called.board
