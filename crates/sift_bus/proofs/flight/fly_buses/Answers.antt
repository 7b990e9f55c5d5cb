use Rattle.std.proofs.Common.{◌≡◌, refl, ℕ, All, List, ◌++◌, length, take, drop, sym, ap, ◌∙◌, subst, arith}
use Rattle.std.proofs.Math.Seq.{take-append_seam}
use Rattle.std.specs.List.{AllZip}
use Rattle.sift_mission.specs.Parts.{data_of, flown_of}
use Rattle.sift_mission.specs.declared.mission.MissionParts.{MissionParts}
use Rattle.sift_unit.specs.Boards.{Drives}
use Rattle.sift_ether.specs.Landed.{HaveLanded}
use Rattle.sift_ether.specs.Seating.{IsTokenBack}
use Rattle.sift_ether.specs.Tokens.{IsMade}
use Rattle.sift_bus.specs.Boarding.{Boarded, seat_view}
use Rattle.sift_bus.proofs.Returning.{HaveFlown, IsToldWhole, Flew, all_back, all_told, landed_as}
use Rattle.sift_bus.proofs.SeatsTaken.{boarded_drive}
use Rattle.sift_bus.proofs.Sides.{side_long}
use Rattle.sift_bus.proofs.flight.fly_buses.Given.{Over}
use Rattle.sift_bus.proofs.flight.fly_buses.Goals as goal

pub board_all-requires-clause-made : goal.board_all-requires-clause-made
board_all-requires-clause-made g c = subst (λ (p : MissionParts). IsMade c.in_ok-ether.ether c.in_ok-ether.tokens.items p.layout p.frames)
    c.parts-parts.ensures.same c.in_ok-ether.ensures

pub fly_all-requires : goal.fly_all-requires
fly_all-requires g c = subst (λ (xs : List (Boarded g.row.B.Denot)). All (λ x. Drives (flown_of c.args.mission.now) x.seat.board (seat_view x)) xs)
    (sym c.as_mut_slice.ensures.value)
    (boarded_drive (flown_of c.args.mission.now) c.in_ok-ether.ether c.args.faulty c.in_ok-ether.tokens.items c.args.buses.items c.in_ok-flyers.flyers.items
    c.in_ok-flyers.ensures)

-- what was flown stands in the list again
written_back : (g : Over) (c : goal.In_ok-tokens g) →
    take c.in_ok-flyers.flyers.len (c.fly_all.new.flyers ++ drop (length c.fly_all.new.flyers) c.in_ok-flyers.flyers.items) ≡ c.fly_all.new.flyers
written_back g c =
    let long = side_long (Flew g.B.Bus.allows) c.as_mut_slice.result.now c.fly_all.new.flyers c.fly_all.ensures.follows in
    let size = c.in_ok-flyers.flyers.ok.0 in
    let same : c.in_ok-flyers.flyers.len ≡ length c.fly_all.new.flyers = omega (arith, size, long, ap length c.as_mut_slice.ensures.value) in
    ap (λ (n : ℕ). take n (c.fly_all.new.flyers ++ drop (length c.fly_all.new.flyers) c.in_ok-flyers.flyers.items)) same
    ∙ take-append_seam c.fly_all.new.flyers (drop (length c.fly_all.new.flyers) c.in_ok-flyers.flyers.items)

-- all units have flown and left their seats
have_flown : (g : Over) (c : goal.In_ok-tokens g) → HaveFlown g.B.Bus.allows (flown_of c.args.mission.now) c.in_ok-ether.ether c.args.mission.now.layout
    c.args.faulty c.in_ok-ether.tokens.items c.args.buses.items c.in_ok-flyers.flyers.items c.fly_all.new.flyers c.in_ok-tokens.tokens.items
have_flown g c = record {
  made = subst (λ (p : MissionParts). IsMade c.in_ok-ether.ether c.in_ok-ether.tokens.items p.layout p.frames) c.parts-parts.ensures.same c.in_ok-ether.ensures;
  count = c.requires.count;
  boarded = c.in_ok-flyers.ensures;
  flew = subst (λ (xs : List (Boarded g.row.B.Denot)). AllZip (Flew g.B.Bus.allows) xs c.fly_all.new.flyers) c.as_mut_slice.ensures.value c.fly_all.ensures.follows;
  drives = c.fly_all.ensures.drives;
  down = c.if-not-fly_all.ensures.down refl;
  left = subst (λ (ys : List (Boarded g.row.B.Denot)). AllZip (λ y t. IsTokenBack y.port.port t) ys c.in_ok-tokens.tokens.items) (written_back g c)
      c.in_ok-tokens.ensures.tokens;
}

pub land-requires : goal.land-requires
land-requires g c = all_back g.B.Bus.allows (flown_of c.args.mission.now) c.in_ok-ether.ether c.args.mission.now.layout c.args.faulty
    c.in_ok-ether.tokens.items c.args.buses.items c.in_ok-flyers.flyers.items c.fly_all.new.flyers c.in_ok-tokens.tokens.items
    (have_flown g c) c.tokens_come_back.ensures

landed : (g : Over) (c : goal.In_ok-journals g) → HaveLanded c.args.mission.now.layout c.args.mission.now.frames c.in_ok-tokens.tokens.items
    c.in_ok-journals.journals.items
landed g c = let made = subst (λ (p : MissionParts). IsMade c.in_ok-ether.ether c.in_ok-ether.tokens.items p.layout p.frames)
    c.parts-parts.ensures.same c.in_ok-ether.ensures in
    landed_as g.B.Bus.allows c.in_ok-ether.ether c.args.mission.now.layout c.args.mission.now.frames c.in_ok-tokens.tokens.items
    c.in_ok-journals.journals.items made.layout_is made.frames_are c.in_ok-journals.ensures

-- what is told of the flight
told_whole : (g : Over) (c : goal.In_ok-journals g) → IsToldWhole g.B.Bus.allows (data_of c.args.mission.now) c.args.faulty c.args.buses.items
    (record { journals = c.in_ok-journals.journals; accounts = c.in_ok-tokens.accounts }) c.in_ok-tokens.logs.items
told_whole g c = all_told g.B.Bus.allows (data_of c.args.mission.now) c.in_ok-ether.ether c.args.faulty
    c.in_ok-ether.tokens.items c.args.buses.items c.in_ok-flyers.flyers.items c.fly_all.new.flyers c.in_ok-tokens.tokens.items
    (record { journals = c.in_ok-journals.journals; accounts = c.in_ok-tokens.accounts }) c.in_ok-tokens.logs.items
    c.parts-parts.ensures.fit c.a_mission_fits.ensures.fits c.requires.calm (have_flown g c.before.before.before) (landed g c)
    (rw (← written_back g c.before.before.before) c.in_ok-tokens.ensures.accounts)
    (rw (← written_back g c.before.before.before) c.in_ok-tokens.ensures.logs) c.tokens_come_back.ensures c.boards_that_are_down_have_flown.ensures
    c.flights_that_come_home_are_round.ensures c.logs_tell_what_was_heard.ensures

pub returns-clause-round : goal.returns-clause-round
returns-clause-round g c = (told_whole g c).round

pub returns-clause-logged : goal.returns-clause-logged
returns-clause-logged g c = (told_whole g c).logged

pub returns-clause-logs : goal.returns-clause-logs
returns-clause-logs g c = (told_whole g c).logs
