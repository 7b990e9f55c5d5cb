use Rattle.std.proofs.Common.{◌≡◌, ℕ, length, drop, sym, ap, ◌∙◌, subst, arith}
use Rattle.std.specs.Vec.Iter.{into_iter_items}
use Rattle.sift_base.specs.declared.slots.Layout.{Layout}
use Rattle.sift_ether.specs.Tokens.{IsTokenOf}
use Rattle.sift_ether.specs.declared.seat.Token.{Token}
use Rattle.sift_mission.specs.declared.mission.MissionParts.{MissionParts}
use Rattle.sift_threads.specs.Crews.{AreSeated}
use Rattle.sift_threads.proofs.Crews.{is_next, seated_push, all_driven}
use Rattle.sift_threads.proofs.seating.seat_all.Goals as goal

pub loop-number-init : goal.loop-number-init
loop-number-init g c = record {
  within = omega arith;
  room = c.requires.room;
  tokens = c.into_iter-tokens.ensures.rest;
  tokens_left = (let size = c.args.tokens.ok.0 in let len = c.into_iter-tokens.ensures.len in omega arith);
  seats = c.into_iter-seats.ensures.rest;
  seats_left = (let size = c.args.seats.ok.0 in let len = c.into_iter-seats.ensures.len in omega arith);
  rogues = c.into_iter-rogues.ensures.rest;
  rogues_left = (let size = c.args.rogues.ok.0 in let len = c.into_iter-rogues.ensures.len in omega arith);
  seated = record { count = ap length c.requires.empty; each = λ u t s r x low. absurd (omega arith) };
}

-- a unit is left, with its token, its seat and its rogue
pub numbered-unit-requires : goal.numbered-unit-requires
numbered-unit-requires g c =
    let units = ap (λ (p : MissionParts). p.units) c.parts.ensures.same in let test = c.loop-number-test.true in
    let few = c.parts.ensures.fit.limits.few_units in omega arith

pub take_next-token-requires : goal.take_next-token-requires
take_next-token-requires g c =
    let units = ap (λ (p : MissionParts). p.units) c.parts.ensures.same in let test = c.loop-number-test.true in
    let left = c.loop-number.invariant.tokens_left in let count = c.requires.made.all.count in
    let layout = ap (λ (l : Layout). l.units) c.requires.made.layout_is in let fit = c.parts.ensures.fit.layout.units in omega arith

pub take_next-seat-requires : goal.take_next-seat-requires
take_next-seat-requires g c =
    let units = ap (λ (p : MissionParts). p.units) c.parts.ensures.same in let test = c.loop-number-test.true in
    let left = c.loop-number.invariant.seats_left in let count = c.requires.seats.count in omega arith

pub take_next-rogue-requires : goal.take_next-rogue-requires
take_next-rogue-requires g c =
    let units = ap (λ (p : MissionParts). p.units) c.parts.ensures.same in let test = c.loop-number-test.true in
    let left = c.loop-number.invariant.rogues_left in let count = c.requires.rogues in omega arith

-- and there is room for it
pub push_reserved-requires : goal.push_reserved-requires
push_reserved-requires g c =
    let units = ap (λ (p : MissionParts). p.units) c.parts.ensures.same in let test = c.loop-number-test.true in
    let inv = c.loop-number.invariant in let count = inv.seated.count in let room = inv.room in let size = c.loop-number.places.ok.0 in omega arith

-- the next token is the next unit's
pub seat_one-requires : goal.seat_one-requires
seat_one-requires g c =
    let at = is_next c.args.tokens.items c.loop-number.number c.take_next-token.result (into_iter_items c.take_next-token.new.rest)
    (sym c.loop-number.invariant.tokens ∙ c.take_next-token.ensures.item) in
    subst (λ (t : Token). IsTokenOf c.args.ether.now t) (at.here c.take_next-token.result)
    (c.requires.made.all.of c.loop-number.number c.take_next-token.result (let low = at.low in let count = c.requires.made.all.count in omega arith))

pub loop-number-preserved : goal.loop-number-preserved
loop-number-preserved g c =
    let inv = c.loop-number.invariant in
    let t = is_next c.args.tokens.items c.loop-number.number c.take_next-token.result (into_iter_items c.take_next-token.new.rest)
    (sym inv.tokens ∙ c.take_next-token.ensures.item) in
    let b = is_next c.args.seats.items c.loop-number.number c.take_next-seat.result (into_iter_items c.take_next-seat.new.rest)
    (sym inv.seats ∙ c.take_next-seat.ensures.item) in
    let r = is_next c.args.rogues.items c.loop-number.number c.take_next-rogue.result (into_iter_items c.take_next-rogue.new.rest)
    (sym inv.rogues ∙ c.take_next-rogue.ensures.item) in
    record {
      within = (let test = c.loop-number-test.true in let units = ap (λ (p : MissionParts). p.units) c.parts.ensures.same in omega arith);
      room = (let room = inv.room in let same = c.push_reserved.ensures.capacity in omega arith);
      tokens = t.rest_is;
      tokens_left = (let left = inv.tokens_left in let less = c.take_next-token.ensures.left in omega arith);
      seats = b.rest_is;
      seats_left = (let left = inv.seats_left in let less = c.take_next-seat.ensures.left in omega arith);
      rogues = r.rest_is;
      rogues_left = (let left = inv.rogues_left in let less = c.take_next-rogue.ensures.left in omega arith);
      seated = rw c.push_reserved.ensures.items (seated_push c.args.mission.now c.args.ether.now c.args.tokens.items c.args.seats.items c.args.rogues.items
          c.loop-number.number c.loop-number.places.items c.seat_one.result c.take_next-token.result c.take_next-seat.result
          c.take_next-rogue.result inv.seated t.here b.here r.here c.seat_one.ensures);
    }

pub returns-clause-seated : goal.returns-clause-seated
returns-clause-seated g c =
    let units : c.parts.result.now.units ≡ c.args.mission.now.units = ap (λ (p : MissionParts). p.units) c.parts.ensures.same in
    let all : c.loop-number.number ≡ c.args.mission.now.units = (let within = c.loop-number.invariant.within in let test = c.loop-number-test.false in omega arith) in
    subst (λ (n : ℕ). AreSeated c.args.mission.now c.args.ether.now c.args.tokens.items c.args.seats.items c.args.rogues.items n c.loop-number.places.items) all
    c.loop-number.invariant.seated

pub returns-clause-driven : goal.returns-clause-driven
returns-clause-driven g c =
    let units : c.parts.result.now.units ≡ c.args.mission.now.units = ap (λ (p : MissionParts). p.units) c.parts.ensures.same in
    let all : c.loop-number.number ≡ c.args.mission.now.units = (let within = c.loop-number.invariant.within in let test = c.loop-number-test.false in omega arith) in
    all_driven c.args.mission.now c.parts.ensures.fit c.new_boards_may_step.ensures c.args.ether.now c.args.tokens.items c.args.seats.items c.args.rogues.items
    c.requires.made c.requires.seats c.loop-number.places.items
    (subst (λ (n : ℕ). AreSeated c.args.mission.now c.args.ether.now c.args.tokens.items c.args.seats.items c.args.rogues.items n c.loop-number.places.items) all
    c.loop-number.invariant.seated)

pub returns-clause-beyond : goal.returns-clause-beyond
returns-clause-beyond g c =
    let units : c.parts.result.now.units ≡ c.args.mission.now.units = ap (λ (p : MissionParts). p.units) c.parts.ensures.same in
    let all : c.loop-number.number ≡ c.args.mission.now.units = (let within = c.loop-number.invariant.within in let test = c.loop-number-test.false in omega arith) in
    subst (λ (n : ℕ). into_iter_items c.loop-number.rogues ≡ drop n c.args.rogues.items) all c.loop-number.invariant.rogues
