use Rattle.std.proofs.Common.{refl, subst}
use Rattle.sift_mission.specs.Parts.{data_of}
use Rattle.sift_mission.specs.declared.mission.MissionParts.{MissionParts}
use Rattle.sift_ether.specs.Tokens.{IsMade}
use Rattle.sift_threads.proofs.Landing.{landed_as_made, landed_round, landed_logged}
use Rattle.sift_threads.proofs.flight.fly_threads.Goals as goal

pub fly_seats-requires-clause-made : goal.fly_seats-requires-clause-made
fly_seats-requires-clause-made g c κs within =
    subst (λ (p : MissionParts). IsMade c.in_ok-ether.ether c.in_ok-ether.tokens.items p.layout p.frames) c.parts-parts.ensures.same c.in_ok-ether.ensures

pub land-requires : goal.land-requires
land-requires g c = c.in_ok-flown.ensures.tokens

pub returns-clause-round : goal.returns-clause-round
returns-clause-round g c =
    let made = subst (λ (p : MissionParts). IsMade c.in_ok-ether.ether c.in_ok-ether.tokens.items p.layout p.frames) c.parts-parts.ensures.same c.in_ok-ether.ensures in
    let landed = landed_as_made c.in_ok-ether.ether c.in_ok-ether.tokens.items c.args.mission.now.layout c.args.mission.now.frames
    c.in_ok-flown.flown.tokens.items c.in_ok-journals.journals.items made c.in_ok-journals.ensures in (
      c.in_ok-flown.flown.rogues.items,
      landed_round g.R.Rogue.allows (data_of c.args.mission.now) c.parts-parts.ensures.fit c.in_ok-ether.ether
          c.args.rogues.items c.requires.rogues c.in_ok-flown.flown c.in_ok-flown.ensures
          (record { journals = c.in_ok-journals.journals; accounts = c.in_ok-flown.flown.accounts }) refl landed
          c.flights_that_come_home_are_round.ensures c.a_mission_fits.ensures.fits,
    )

pub returns-clause-logged : goal.returns-clause-logged
returns-clause-logged g c =
    let made = subst (λ (p : MissionParts). IsMade c.in_ok-ether.ether c.in_ok-ether.tokens.items p.layout p.frames) c.parts-parts.ensures.same c.in_ok-ether.ensures in
    let landed = landed_as_made c.in_ok-ether.ether c.in_ok-ether.tokens.items c.args.mission.now.layout c.args.mission.now.frames
    c.in_ok-flown.flown.tokens.items c.in_ok-journals.journals.items made c.in_ok-journals.ensures in
    landed_logged g.R.Rogue.allows (data_of c.args.mission.now) c.parts-parts.ensures.fit c.in_ok-ether.ether
    c.args.rogues.items c.requires.rogues c.in_ok-flown.flown c.in_ok-flown.ensures
    (record { journals = c.in_ok-journals.journals; accounts = c.in_ok-flown.flown.accounts }) refl landed
