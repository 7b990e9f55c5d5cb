-- What is told of the logs of a flight is told of the flight.
use Rattle.std.proofs.Common.{◌≡◌, List, length, replicate, refl, sym, ◌∙◌}
use Rattle.std.specs.List.{range_with_len, sum_by}
use Rattle.std.proofs.lemmas.List.FromFn.{length-range_with_len}
use Rattle.sift_bus_port.specs.Buses.{AllowsConstant}
use Rattle.sift_bus_port.specs.Flown.{AreLogsOf}
use Rattle.sift_bus_port.specs.Logs.{count_in, log_of}
use Rattle.sift_bus_port.specs.Telling.{LogsTellWhatWasHeard}
use Rattle.sift_bus_port.specs.declared.log.BusLog.{BusLog}
use Rattle.sift_flight.specs.Flight.{Flight}
use Rattle.sift_mission.specs.Data.{MissionData}
use Rattle.sift_mission.specs.Fits.{IsNumbered}
use Rattle.sift_mission.specs.Flown.{flown}
use Rattle.sift_mission.specs.PartsFit.{PartsFit}
use Rattle.sift_bus_jobs.specs.Numbers.{BusNumbers, bus_of}
use Rattle.sift_bus_jobs.specs.Text.{words_text}
use Rattle.sift_bus_jobs.specs.Wrong.{wrong_in}
use Rattle.sift_bus_jobs.proofs.Counted.{counts_are}
use Rattle.sift_bus_jobs.proofs.Texts.{same_text}

module _ (job : BusNumbers) (d : MissionData) (fl : Flight) (fit : PartsFit d) (numbered : IsNumbered (flown d)) (tells : LogsTellWhatWasHeard AllowsConstant)
    (logs : List BusLog) (are : AreLogsOf AllowsConstant (flown d) fl d.layout job.bus (replicate d.layout.units (bus_of job)) logs) where
  -- there are as many units as the layout has
  units_are : length (flown d).units ≡ d.layout.units
  units_are = length-range_with_len 0 d.units ∙ sym fit.layout.units

  -- its logs tell what it tells
  pub same_words : words_text job.bus d.frames (λ f. sum_by (λ log. count_in (log_of log) f job.bus) logs)
      ≡ words_text job.bus d.frames (wrong_in job (flown d) fl)
  same_words = same_text job.bus d.frames (λ f. sum_by (λ log. count_in (log_of log) f job.bus) logs) (wrong_in job (flown d) fl)
      (counts_are job (flown d) fl d.layout numbered refl units_are tells logs are (λ i. range_with_len 0 (sym fit.layout.units i)))
