use Rattle.sift_report.proofs.CaughtLines.{caught_is_printed}
use Rattle.sift_report.proofs.RoundFlights.{round_flight_has_laws}
use Rattle.sift_report.proofs.law.caught_is_printed.Goals as goal

pub returns : goal.returns
returns c d s fl version fits round =
    caught_is_printed c.fitting_parts_make_a_flight.ensures c.liars_are_out.ensures c.own_words_cost_nothing.ensures d s fl version fits round
    (round_flight_has_laws c.fitting_parts_make_a_flight.ensures c.headline_holds.ensures
    c.round_flights_have_accounts.ensures c.margin_is_told.ensures c.skew_is_told.ensures c.slack_is_told.ensures d s fl fits round)
