use Rattle.std.proofs.Common.{◌≡◌, [], ◌∷◌, ◌++◌, length, length-append, sym, ap, ◌∙◌, arith}
use Rattle.std.proofs.lemmas.List.{append_assoc}
use Rattle.sift_base.specs.declared.slots.Layout.{Layout}
use Rattle.sift_config.specs.laws.FirstUnits.{low_unit}
use Rattle.sift_mission.specs.Parts.{flown_of}
use Rattle.sift_mission.specs.declared.mission.MissionParts.{MissionParts}
use Rattle.sift_bus.proofs.SeatsTaken.{no_rest, new_token, boarded_long, boarded_before, boarded_push}
use Rattle.sift_bus.proofs.boarding.board_all.Goals as goal

-- there are as many buses as units, and the next bus is one of them: so many flyers are few
pub overflow_cast-len : goal.overflow_cast-len
overflow_cast-len g c =
    let b = c.loop-bus.invariant.boarded in
    let before = boarded_before (flown_of c.args.mission.now) c.args.ether.now c.args.faulty b.0 c.loop-bus.yielded c.loop-bus.bus-iterator.rest.items
    c.next.new.self.rest.items c.args.buses.items c.in-Some.bus c.loop-bus.flyers.items b.3 c.in-Some.ensures.steps.0 c.loop-bus.invariant.all in
    let few = c.args.ether.now.grid.lawful.few_units in let size = c.loop-bus.flyers.ok.0 in
    omega (arith, before.1, few, size, c.len.ensures, c.requires.count, ap (λ (l : Layout). l.units) c.requires.made.layout_is)

-- and fewer than units may be
pub numbered-unit-requires : goal.numbered-unit-requires
numbered-unit-requires g c =
    let b = c.loop-bus.invariant.boarded in
    let before = boarded_before (flown_of c.args.mission.now) c.args.ether.now c.args.faulty b.0 c.loop-bus.yielded c.loop-bus.bus-iterator.rest.items
    c.next.new.self.rest.items c.args.buses.items c.in-Some.bus c.loop-bus.flyers.items b.3 c.in-Some.ensures.steps.0 c.loop-bus.invariant.all in
    let few = c.args.ether.now.grid.lawful.few_units in let size = c.loop-bus.flyers.ok.0 in
    omega (arith, before.1, few, size, c.len.ensures, c.requires.count, ap (λ (l : Layout). l.units) c.requires.made.layout_is)

pub board_unit-requires-clause-unit : goal.board_unit-requires-clause-unit
board_unit-requires-clause-unit g c =
    let b = c.loop-bus.invariant.boarded in
    let before = boarded_before (flown_of c.args.mission.now) c.args.ether.now c.args.faulty b.0 c.loop-bus.yielded c.loop-bus.bus-iterator.rest.items
    c.next.new.self.rest.items c.args.buses.items c.in-Some.bus c.loop-bus.flyers.items b.3 c.in-Some.ensures.steps.0 c.loop-bus.invariant.all in
    let size = c.loop-bus.flyers.ok.0 in
    low_unit c.args.mission.now.units c.numbered-unit.result
    (omega (arith, before.1, size, c.numbered-unit.ensures, c.len.ensures, c.requires.count, c.parts.ensures.fit.layout.units))

pub board_unit-requires-clause-ether : goal.board_unit-requires-clause-ether
board_unit-requires-clause-ether g c = record { layout_is = c.requires.made.layout_is; frames_are = c.requires.made.frames_are }

pub board_unit-requires-clause-token : goal.board_unit-requires-clause-token
board_unit-requires-clause-token g c =
    let b = c.loop-bus.invariant.boarded in
    let before = boarded_before (flown_of c.args.mission.now) c.args.ether.now c.args.faulty b.0 c.loop-bus.yielded c.loop-bus.bus-iterator.rest.items
    c.next.new.self.rest.items c.args.buses.items c.in-Some.bus c.loop-bus.flyers.items b.3 c.in-Some.ensures.steps.0 c.loop-bus.invariant.all in
    let size = c.loop-bus.flyers.ok.0 in
    new_token c.args.ether.now c.args.mission.now.layout c.args.mission.now.frames c.numbered-unit.result c.args.tokens.items b.0
    c.next_token-token.new.tokens.rest.items c.next_token-token.result c.requires.made ((λ i. b.0 ++ sym c.next_token-token.ensures.token i) ∙ b.1)
    (omega (arith, before.0, size, c.numbered-unit.ensures, c.len.ensures))
    (omega (arith, before.1, size, c.numbered-unit.ensures, c.len.ensures, c.requires.count))

-- and room for the unit
pub push_reserved-requires : goal.push_reserved-requires
push_reserved-requires g c =
    let b = c.loop-bus.invariant.boarded in
    let before = boarded_before (flown_of c.args.mission.now) c.args.ether.now c.args.faulty b.0 c.loop-bus.yielded c.loop-bus.bus-iterator.rest.items
    c.next.new.self.rest.items c.args.buses.items c.in-Some.bus c.loop-bus.flyers.items b.3 c.in-Some.ensures.steps.0 c.loop-bus.invariant.all in
    let size = c.loop-bus.flyers.ok.0 in let room = c.loop-bus.invariant.room in
    omega (arith, before.1, size, room, c.requires.count, c.parts.ensures.fit.layout.units)

pub loop-bus-preserved : goal.loop-bus-preserved
loop-bus-preserved g c =
    let b = c.loop-bus.invariant.boarded in
    record {
      boarded = (
        b.0 ++ (c.next_token-token.result ∷ []),
        append_assoc b.0 (c.next_token-token.result ∷ []) c.next_token-token.new.tokens.rest.items ∙ ((λ i. b.0 ++ sym c.next_token-token.ensures.token i) ∙ b.1),
        (let less = c.next_token-token.ensures.left in omega (arith, less, b.2, length-append b.0 (c.next_token-token.result ∷ []))),
        rw c.push_reserved.ensures.items (boarded_push (flown_of c.args.mission.now) c.args.ether.now c.args.faulty b.0 c.loop-bus.yielded c.loop-bus.flyers.items
            c.next_token-token.result c.in-Some.bus _ b.3 c.in_ok-board_unit.ensures),
      );
      room = (let room = c.loop-bus.invariant.room in let same = c.push_reserved.ensures.capacity in omega arith);
      all = append_assoc c.loop-bus.yielded (c.in-Some.bus ∷ []) c.next.new.self.rest.items
          ∙ ((λ i. c.loop-bus.yielded ++ sym c.in-Some.ensures.steps.0 i) ∙ c.loop-bus.invariant.all);
    }

-- there are as many tokens as units too
pub next_token-token-requires : goal.next_token-token-requires
next_token-token-requires g c =
    let b = c.loop-bus.invariant.boarded in
    let before = boarded_before (flown_of c.args.mission.now) c.args.ether.now c.args.faulty b.0 c.loop-bus.yielded c.loop-bus.bus-iterator.rest.items
    c.next.new.self.rest.items c.args.buses.items c.in-Some.bus c.loop-bus.flyers.items b.3 c.in-Some.ensures.steps.0 c.loop-bus.invariant.all in
    let count = c.requires.made.all.count ∙ ap (λ (l : Layout). l.units) c.requires.made.layout_is in
    omega (arith, before.0, before.1, b.2, count, c.requires.count)

pub loop-bus-init : goal.loop-bus-init
loop-bus-init g c = record {
  boarded = (
    [],
    c.into_iter-tokens.ensures.rest,
    (let size = c.args.tokens.ok.0 in omega (arith, size, c.into_iter-tokens.ensures.len)),
    rw c.in_ok-flyers.ensures.items tt,
  );
  room = (
      let units = ap (λ (p : MissionParts). p.units) c.parts.ensures.same in
      let count = c.from-units.ensures in
      let room = c.in_ok-flyers.ensures.capacity in omega arith
      );
  all = c.into_iter-bus-iterator.ensures.into_iter_gives.0;
}

pub returns : goal.returns
returns g c =
    let b = c.loop-bus.invariant.boarded in
    let seen : c.loop-bus.yielded ≡ c.args.buses.items =
    no_rest c.loop-bus.yielded c.loop-bus.bus-iterator.rest.items c.args.buses.items c.loop-bus.invariant.all
    (let none = c.in-None.ensures.steps.0 in let size = c.loop-bus.bus-iterator.rest.ok.0 in omega (
      arith,
      none,
      size,
      ap length c.loop-bus.invariant.all,
      length-append c.loop-bus.yielded c.loop-bus.bus-iterator.rest.items,
    )) in
    let long = boarded_long (flown_of c.args.mission.now) c.args.ether.now c.args.faulty b.0 c.loop-bus.yielded c.loop-bus.flyers.items b.3 in
    let count = c.requires.made.all.count ∙ ap (λ (l : Layout). l.units) c.requires.made.layout_is in
    let all : b.0 ≡ c.args.tokens.items =
    no_rest b.0 c.loop-bus.tokens.rest.items c.args.tokens.items b.1 (long.0 ∙ (ap length seen ∙ (c.requires.count ∙ sym count))) in
    rw (← all, ← seen) b.3
