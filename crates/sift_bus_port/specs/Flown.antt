-- What comes of a flight over three buses: the log of each unit.
use Rattle.std.specs.Prelude.{◌≡◌, ℕ, ◌<◌, true, List, length, slice_index_or, Option, Some, None, option_map, if◌then◌else◌}
use Rattle.sift_base.specs.declared.slots.Layout.{Layout}
use Rattle.sift_base.specs.declared.slots.Slot.{Slot}
use Rattle.sift_buffer.specs.Conduct.{Hearing}
use Rattle.sift_buffer.specs.Tables.{ranges_of}
use Rattle.sift_mission.specs.Data.{FlownMission}
use Rattle.sift_mission.specs.Slots.{calls, is_slot}
use Rattle.sift_flight.specs.Flight.{Flight, config_of}
use Rattle.sift_bus_port.specs.Buses.{Carriage}
use Rattle.sift_bus_port.specs.Links.{GoesOn, Link, first_link}
use Rattle.sift_bus_port.specs.Logs.{Log, blank_log, log_of}
use Rattle.sift_bus_port.specs.Telling.{TellsHeard}
use Rattle.sift_bus_port.specs.declared.log.BusLog.{BusLog}

-- what a unit has heard are just the words of the flight, absence included: those of the slots that other units say to it
abbrev pub HasHeardFlight : FlownMission → Flight → ℕ → (ℕ → ℕ → ℕ → Option Hearing) → Type 0
HasHeardFlight m fl u heard = (f : ℕ) (k : Slot) (p : ℕ) → f < m.frames → is_slot m k ≡ true →
    option_map (λ act. act.word) (heard f (m.number k) p) ≡ (if calls m (config_of fl u f) k p u then Some (fl.heard u f k p) else None)

module _ {B : Type 0} (allows : B → Carriage → B → Type 0) (m : FlownMission) (fl : Flight) (layout : Layout) (faulty : ℕ) where
  -- the log of unit u: it heard its words of the flight one after the other, and the faulty bus, which was this one at first, carried each by a step
  -- that it allows; the log is of the layout's slots and units and of all frames, it has what the bus carried, and it counts just the words that it carried as others
  pub record IsLogOf (u : ℕ) (bus : B) (log : Log) : Type 0 where
    pub last : Link B
    pub carried : GoesOn allows (first_link u faulty bus (blank_log layout m.frames)) last
    pub log_is : last.log ≡ log
    pub ranges : log.ranges ≡ ranges_of layout m.frames
    pub heard : HasHeardFlight m fl u last.heard
    pub tells : TellsHeard faulty last.heard log

  -- a log for each unit, in order
  pub record AreLogsOf (buses : List B) (logs : List BusLog) : Type 0 where
    pub count : length logs ≡ length buses
    pub each : (u : ℕ) (b : B) (l : BusLog) → u < length buses → IsLogOf u (slice_index_or buses u b) (log_of (slice_index_or logs u l))
