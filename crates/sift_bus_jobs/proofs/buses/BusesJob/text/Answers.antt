use Rattle.std.proofs.Common.{◌++◌, replicate, ap, sym, subst, ◌∙◌, arith}
use Rattle.std.specs.List.{sum_by}
use Rattle.std.proofs.lemmas.Grind.{common_steps}
use Rattle.sift_bus_port.specs.Buses.{AllowsConstant}
use Rattle.sift_bus_port.specs.Flown.{AreLogsOf}
use Rattle.sift_bus_port.specs.Logs.{count_in, log_of}
use Rattle.sift_flight.specs.Told.{told}
use Rattle.sift_mission.specs.Parts.{data_of, flown_of}
use Rattle.sift_line.specs.Line.{text_of_lines}
use Rattle.sift_report.specs.Sheet.{sheet_of}
use Rattle.sift_line.specs.declared.line.Version.TheVariants.{Two}
use Rattle.sift_bus_jobs.specs.Numbers.{BusNumbers, bus_of}
use Rattle.sift_bus_jobs.specs.Text.{words_text}
use Rattle.sift_bus_jobs.proofs.Counted.{frames_are}
use Rattle.sift_bus_jobs.proofs.Told.{same_words}
use Rattle.sift_bus_jobs.specs.Buses as buses
use Rattle.sift_bus_jobs.proofs.buses.BusesJob.text.Goals as goal

pub report_text-requires : goal.report_text-requires
report_text-requires c = c.round_flights_are_whole.ensures (data_of c.args.mission.now) c.requires.flown.strays c.args.flight.now
    c.parts.ensures.fit c.requires.logged c.requires.flown.round

pub push_words-requires-clause-frames : goal.push_words-requires-clause-frames
push_words-requires-clause-frames c =
    let m = flown_of c.args.mission.now in
    rw c.parts.ensures.same
    (frames_are m (told m c.args.flight.now) c.args.mission.now.layout _ _ c.args.logs.now c.requires.logs)

-- the report of the flight, and what its logs tell
pub returns : goal.returns
returns c =
    let m = flown_of c.args.mission.now in
    let fl = told m c.args.flight.now in
    let layout = c.args.mission.now.layout in
    let job : BusNumbers = record { bus = c.self.inside.bus; from = c.self.inside.from; value = c.self.inside.value } in
    let logs = subst
    (λ (numbers : BusNumbers). AreLogsOf AllowsConstant m fl layout numbers.bus (replicate layout.units (bus_of numbers)) c.args.logs.now)
    (sym c.self.view_is) c.requires.logs in
    let words = same_words job (data_of c.args.mission.now) fl c.parts.ensures.fit
    c.a_mission_fits.ensures.fits.numbered c.logs_tell_what_was_heard.ensures c.args.logs.now logs in (
      fl,
      c.requires.flown,
      c.in_ok-push_words.ensures
          ∙ ((λ i. c.in_ok-text.ensures.text i ++ words_text job.bus (c.parts.ensures.same i).frames
          (λ f. sum_by (λ log. count_in (log_of log) f job.bus) c.args.logs.now))
          ∙ ((λ i. text_of_lines (sheet_of m fl Two) ++ words i)
          ∙ ap (λ (numbers : BusNumbers). buses.told numbers (data_of c.args.mission.now) fl) c.self.view_is)),
    )

pub push_words-requires-clause-few : goal.push_words-requires-clause-few
push_words-requires-clause-few c = grind (arith, common_steps)
