use Rattle.sift_report.proofs.SheetConfigs.{tells_its_flight}
use Rattle.sift_report.proofs.RoundFlights.{round_flight_has_laws}
use Rattle.sift_report.proofs.law.sheets_tell_their_flights.Goals as goal

pub returns : goal.returns
returns c d s fl version fits round =
    tells_its_flight d fl version (round_flight_has_laws c.fitting_parts_make_a_flight.ensures c.headline_holds.ensures
    c.round_flights_have_accounts.ensures c.margin_is_told.ensures c.skew_is_told.ensures c.slack_is_told.ensures d s fl fits round)
