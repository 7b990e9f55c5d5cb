use Rattle.sift_report.proofs.FlownFault.{fault_is_flown}
use Rattle.sift_report.proofs.OtherLines.{other_lines_are_refused}
use Rattle.sift_report.proofs.TwoCatchersFit.{parts_fit}
use Rattle.sift_report.proofs.law.fault_is_within_the_headline.Goals as goal

pub returns : goal.returns
returns c = record {
  holds = fault_is_flown (parts_fit c.plain_tables_are_good.ensures c.calm_missions_fly.ensures) c.fitting_parts_make_a_flight.ensures
      c.each_mission_has_a_round_flight.ensures c.round_flights_are_alike.ensures c.alike_flights_have_one_text.ensures
      c.the_headline_is_printed.ensures c.caught_is_printed.ensures;
  refuses = other_lines_are_refused;
}
