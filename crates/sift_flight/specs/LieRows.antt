-- Rows of the definitions of lies and of what they cost: for each of them, one that it accepts and one that it refuses.
use Rattle.std.specs.Prelude.{ℕ, [], ◌∷◌, Bool, true, false, ◌&&◌, nat_eq, if◌then◌else◌, Option, None, Some, pos}
use Rattle.std.specs.FinSet as set
use Rattle.sift_base.specs.declared.slots.Slot.{Slot}
use Rattle.sift_base.specs.declared.slots.Slot.TheVariants.{Clock, RelaySense, Out, Report}
use Rattle.sift_exec.specs.Conviction.{nobody}
use Rattle.sift_mission.specs.Data.{FlownMission}
use Rattle.sift_conduct.specs.Conduct.{Account}
use Rattle.sift_flight.specs.Calm.{four_units, mission_of}
use Rattle.sift_flight.specs.CalmFlight.{account_of}
use Rattle.sift_flight.specs.Calms.{count, gauge}
use Rattle.sift_flight.specs.Caught.{LiesCost}
use Rattle.sift_flight.specs.Flight.{Flight}
use Rattle.sift_flight.specs.Lies.{Known, IsFalseResult, IsFalseRelay, IsFalseClock, SaysItsOwn}
use Rattle.sift_flight.specs.Rows.{calm_flight}

-- ---- missions in which unit 3 lies

-- a result, a sensor's relay, a clock, a report
abbrev pub is_result : Slot → Bool
is_result (Out w) = true
is_result k = false

abbrev pub is_relay : Slot → Bool
is_relay (RelaySense x) = true
is_relay k = false

abbrev pub is_clock : Slot → Bool
is_clock Clock = true
is_clock k = false

abbrev pub is_report : Slot → Bool
is_report Report = true
is_report k = false

-- the same mission, in which unit 3 says this, a word or nothing, to all in these slots
abbrev pub with_lie : FlownMission → (Slot → Bool) → Option ℕ → FlownMission
with_lie m at said = record m { override = λ u f k q. if nat_eq u 3 && at k then Some said else None }

-- `count` in which unit 3 says 7 for the word
abbrev pub lying : FlownMission
lying = with_lie (mission_of count) is_result (Some 7)

-- ---- what units know, and their accounts

-- word 0 is 16, and the clock is right
abbrev pub knows_16 : Known
knows_16 = record { outputs = 16 ∷ []; clock = pos 0 }

-- the flight in which each unit has this account
abbrev pub all_with : Account → Flight
all_with a = record (calm_flight count) { account = λ u f. a }

-- the account of who catches unit 3 for a result, and of who finds the next configuration without it too
abbrev pub catching : Account
catching = record (account_of count) { bad = record nobody { poll = set.insert set.empty 3 } }

abbrev pub removing : Account
removing = record catching { next_cfg = 0 ∷ 1 ∷ 2 ∷ [] }

-- ---- the rows

pub record LieRows : Type 0 where
  -- unit 3 says 7 for the word that unit 1 voted as 16, or nothing; but 16 is no lie
  pub result : IsFalseResult lying four_units 0 3 1 knows_16
  pub no_result : IsFalseResult (with_lie (mission_of count) is_result None) four_units 0 3 1 knows_16
  pub true_result : ¬ IsFalseResult (with_lie (mission_of count) is_result (Some 16)) four_units 0 3 1 knows_16
  -- it relays 6 for the sensor's 7 to unit 0, which reads the sensor; to unit 1, which doesn't, that is no lie
  pub relay : IsFalseRelay (with_lie (mission_of gauge) is_relay (Some 6)) four_units 0 3 0 knows_16
  pub no_reader : ¬ IsFalseRelay (with_lie (mission_of gauge) is_relay (Some 6)) four_units 0 3 1 knows_16
  -- it shows 9 for a clock that should be 0, with no skew and no error; 0 is no lie
  pub clock : IsFalseClock (with_lie (mission_of count) is_clock (Some 9)) four_units 0 3 1 knows_16
  pub true_clock : ¬ IsFalseClock (with_lie (mission_of count) is_clock (Some 0)) four_units 0 3 1 knows_16
  -- who lies in a report alone says its own words, who lies in a result doesn't
  pub own_words : SaysItsOwn (with_lie (mission_of count) is_report (Some 1)) 0 3
  pub other_words : ¬ SaysItsOwn lying 0 3
  -- all catch unit 3 and remove it; or nobody does; or all catch it, and it stays
  pub cost : LiesCost lying (all_with removing) 0 3
  pub uncaught : ¬ LiesCost lying (calm_flight count) 0 3
  pub unremoved : ¬ LiesCost lying (all_with catching) 0 3
