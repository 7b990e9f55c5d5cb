-- What options ask of `buses`: which bus is faulty, from which frame on, and what it carries then.
use Rattle.std.specs.Prelude.{codes, ℕ, ◌<◌, ◌≤◌, Option, Some, None, IfSome, option_map}
use Rattle.sift_bus_port.specs.Buses.{bus_count}
use Rattle.sift_bus_port.specs.declared.bus.Constant.{Constant}
use Rattle.sift_options.specs.Options.{Allowed, Given, any_number, within}

-- a faulty bus, the frame from which on it is faulty, and the word that it carries then in place of every other, or absence
pub record BusNumbers : Type 0 where
  pub bus : ℕ
  pub from : ℕ
  pub value : Option ℕ

-- the bus that carries so
abbrev pub bus_of : BusNumbers → Constant
bus_of numbers = record { from = numbers.from; value = numbers.value }

-- the last of three buses
abbrev pub last_bus : ℕ
last_bus = 2

-- the last frame of the longest mission
abbrev pub last_frame : ℕ
last_frame = 999

-- the largest word
abbrev pub last_word : ℕ
last_word = 65535

-- they are within these limits
pub record AreWithinLimits (numbers : BusNumbers) : Type 0 where
  pub bus : numbers.bus < bus_count
  pub frame : numbers.from ≤ last_frame
  pub word : IfSome numbers.value (λ word. word ≤ last_word)

-- the word that is given, where one is; a number that is no word's is none
abbrev pub word_given : Option ℕ → Option (Option ℕ)
word_given None = Some None
word_given (Some number) = option_map Some (within 0 last_word (Some number))

-- a faulty bus with these numbers, where all are there
abbrev pub buses_with : (bus from : Option ℕ) → (value : Option (Option ℕ)) → Option BusNumbers
buses_with (Some bus) (Some from) (Some value) = Some (record { bus = bus; from = from; value = value })
buses_with bus from value = None

-- the options
abbrev pub bus_flag : Allowed
bus_flag = any_number (codes "--bus")

abbrev pub from_flag : Allowed
from_flag = any_number (codes "--from")

abbrev pub value_flag : Allowed
value_flag = any_number (codes "--value")

-- what options ask for: the bus and the frame have to be given, and a word may be, each in its range
abbrev pub buses_job_of : Given → Option BusNumbers
buses_job_of options = buses_with (within 0 last_bus (options bus_flag.name)) (within 0 last_frame (options from_flag.name))
    (word_given (options value_flag.name))
