use Rattle.std.proofs.Common.{◌≡◌, ℕ, ap, subst, arith}
use Rattle.std.proofs.lemmas.Grind.{common_steps}
use Rattle.sift_config.specs.laws.FirstUnits.{low_unit}
use Rattle.sift_mission.specs.Parts.{flown_of}
use Rattle.sift_seat.specs.Seats.{AreNewSeats}
use Rattle.sift_seat.proofs.NewSeats.{seats_push}
use Rattle.sift_seat.proofs.seat.Seat.make_all.Goals as goal

pub make-requires : goal.make-requires
make-requires c =
    let units : c.parts.result.now.units ≡ c.args.mission.now.units = ap (λ parts. parts.units) c.parts.ensures.same in
    let t = c.loop-number-test.true in let here = c.numbered-unit.ensures in
    low_unit c.args.mission.now.units c.numbered-unit.result (omega arith)

pub loop-number-preserved : goal.loop-number-preserved
loop-number-preserved c = let inv = c.loop-number.invariant in record {
  within = (let t = c.loop-number-test.true in omega arith);
  room = (let r = inv.room in let k = c.push_reserved.ensures.capacity in omega arith);
  seats = rw c.push_reserved.ensures.items (seats_push (flown_of c.args.mission.now) c.loop-number.number c.numbered-unit.result
      c.loop-number.seats.items _ inv.seats c.numbered-unit.ensures c.in_ok-make.ensures);
}

pub returns : goal.returns
returns c =
    let units : c.parts.result.now.units ≡ c.args.mission.now.units = ap (λ parts. parts.units) c.parts.ensures.same in
    let all : c.loop-number.number ≡ c.args.mission.now.units = let w = c.loop-number.invariant.within in let t =
    c.loop-number-test.false in omega arith in
    subst (λ (n : ℕ). AreNewSeats (flown_of c.args.mission.now) n c.loop-number.seats.items) all c.loop-number.invariant.seats

pub loop-number-init : goal.loop-number-init
loop-number-init c = grind (arith, common_steps)
