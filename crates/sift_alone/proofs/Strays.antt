-- That there are strays which rogues give, and flights over them.
use Rattle.std.proofs.Common.{◌*◌, slice_index_or, option_map, subst, sym, ap, ◌∙◌, arith}
use Rattle.std.proofs.lemmas.Option.{none-some}
use Rattle.sift_base.specs.Draw.{after}
use Rattle.sift_base.specs.laws.Ranges.{has-range}
use Rattle.sift_flight.specs.Existence.{EachMissionHasARoundFlight}
use Rattle.sift_flight.specs.Flight.{Flight, Strays}
use Rattle.sift_jobs.specs.Flights.{IsFlightOf}
use Rattle.sift_mission.specs.Data.{MissionData}
use Rattle.sift_mission.specs.Flown.{flown}
use Rattle.sift_mission.specs.PartsFit.{PartsFit}
use Rattle.sift_mission.specs.Premises.{PartsMakeItFlyable}
use Rattle.sift_rogue.specs.DrawnStorms.{DrawnStormsAreTheDraws}
use Rattle.sift_rogue.specs.Rogues.{AllowsDrawn}
use Rattle.sift_rogue.specs.Storms.{Call, sifted, Storms}
use Rattle.sift_rogue.specs.declared.storm.Storm.{Storm}
use Rattle.sift_script.specs.declared.script.StormEntry.{StormEntry}
use Rattle.sift_alone.specs.Strays.{CalmMissionsGetNone, StormsGiveDraws, drawn_in}

-- a storm answers what is drawn from its number, and its drawer stands behind these draws
pub storms_give_draws : DrawnStormsAreTheDraws → StormsGiveDraws
storms_give_draws drawn storms mission u storm rogue low is =
    let sift = sifted mission.layout u in
    let x = slice_index_or storms u rogue in
    let y : Storm = record { drawer = after storm.number (5 * storm.strays) } in (
      y,
      subst (λ found. Storms AllowsDrawn sift (record { number = storm.number; count = storm.strays; strays = drawn_in mission.layout u found }) x y)
          (sym is) (drawn.some sift storm.number x storm.strays),
    )

-- where no unit has a storm, no rogue is called
pub calm_missions_get_none : {R : Type 0} (allows : R → Call → R → Type 0) → CalmMissionsGetNone allows
calm_missions_get_none allows rogues mission calm u storm rogue low is =
    let none = calm u (has-range 0 mission.units u (omega arith) (omega (arith, low))) in
    absurd (none-some storm.from (sym none ∙ ap (option_map (λ (s : StormEntry). s.from)) is))

-- over strays that may be given there is a flight
pub flown_over : (given : MissionData → Strays → Type 0) → PartsMakeItFlyable → EachMissionHasARoundFlight
    → (mission : MissionData) (strays : Strays) → PartsFit mission → given mission strays → (flight : Flight) × IsFlightOf given mission flight
flown_over given makes each mission strays fits may =
    let found = each (flown mission) strays (makes mission fits).0.fits in
    (found.0, record { strays = strays; given_are = may; round = found.1 })
