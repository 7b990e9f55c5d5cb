-- How many words a faulty bus gets wrong in a flight, absence included. No log is needed to tell them: they are told by the words of the flight.
use Rattle.std.specs.Prelude.{ℕ, ◌&&◌, Bool, length, not, nat_lt, if◌then◌else◌, Option}
use Rattle.std.specs.List.{sum_by}
use Rattle.sift_bus_port.specs.Buses.{is_same}
use Rattle.sift_bus_port.specs.Logs.{count_places}
use Rattle.sift_flight.specs.Flight.{Flight, config_of}
use Rattle.sift_mission.specs.Data.{FlownMission}
use Rattle.sift_mission.specs.Slots.{calls}
use Rattle.sift_bus_jobs.specs.Numbers.{BusNumbers}

-- what the faulty bus carries in a frame in place of a word, or of absence: just this before it is faulty, and then its one word, or absence
abbrev pub carried_for : BusNumbers → (f : ℕ) → Option ℕ → Option ℕ
carried_for job f word = if nat_lt f job.from then word else job.value

-- it carries something else
abbrev pub is_changed : BusNumbers → (f : ℕ) → Option ℕ → Bool
is_changed job f word = not (is_same (carried_for job f word) word)

module _ (job : BusNumbers) (m : FlownMission) (fl : Flight) (f : ℕ) where
  -- unit u hears of unit p in the slot of number k, and what it hears, a word or absence, comes as something else over the faulty bus
  abbrev pub is_wrong_at : (u k p : ℕ) → Bool
  is_wrong_at u k p = calls m (config_of fl u f) (m.kind k) p u && is_changed job f (fl.heard u f (m.kind k) p)

  -- how many words unit u hears so in the frame, in all slots and of all units
  abbrev pub wrong_for : (u : ℕ) → ℕ
  wrong_for u = count_places (is_wrong_at u) m.slots (length m.units)

  -- how many all units hear so
  abbrev pub wrong_in : ℕ
  wrong_in = sum_by wrong_for m.units
