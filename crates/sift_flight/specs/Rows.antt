-- Rows of the definitions of flights: for each of them, one that it accepts and one that it refuses.
use Rattle.std.specs.Prelude.{None, ◌≡◌, ℕ, List, [], ◌∷◌, Bool, true, not, ◌&&◌, nat_eq, nat_lt, if◌then◌else◌, Some, pos}
use Rattle.std.specs.FinSet as set
use Rattle.sift_base.specs.Units.{has, HasMargin}
use Rattle.sift_base.specs.declared.slots.Slot.{Slot}
use Rattle.sift_base.specs.declared.slots.Slot.TheVariants.{Out, Report, RelayReport}
use Rattle.sift_buffer.specs.Cell.{packed}
use Rattle.sift_buffer.specs.Conduct.{stray_to}
use Rattle.sift_exec.specs.Conviction.{nobody, next_by}
use Rattle.sift_clock.specs.Correction.{corrected_offset}
use Rattle.sift_mission.specs.Data.{FlownMission}
use Rattle.sift_conduct.specs.Conduct.{Account, voted}
use Rattle.sift_conduct.specs.Frames.{frame_of}
use Rattle.sift_flight.specs.Calm.{Calm, four_units, mission_of, program_of}
use Rattle.sift_flight.specs.CalmFlight.{account_of, core_of}
use Rattle.sift_flight.specs.Calms.{count, gauge}
use Rattle.sift_flight.specs.Figures.{lead_of, config_at, HasMarginAt, IsSkewAt, IsSlackAt}
use Rattle.sift_flight.specs.Flight.{Flight, unit_of, flight_of, Strays, IsOfStray, Hears, RoundAt}
use Rattle.sift_flight.specs.Headline.{SameConfiguration, SameInputs, SameReports, IdealOutputs, NoFalseAccusation, ExactRemoval, ClockSkew, Headline}

-- no unit strays
abbrev pub no_strays : Strays
no_strays p = []

-- the flight of a calm mission, and its account
abbrev pub calm_flight : Calm → Flight
calm_flight c = flight_of (mission_of c) (core_of c) (λ u f. account_of c)

-- the same flight with another account of one unit
abbrev pub with_account : Flight → ℕ → Account → Flight
with_account fl u a = record fl { account = λ v f. if nat_eq v u then a else fl.account v f }

-- the same flight, in which each unit has these outputs
abbrev pub with_outputs : Flight → List ℕ → Flight
with_outputs fl outs = record fl { account = λ u f. record (fl.account u f) { outs = outs } }

-- the same flight, in which one unit hears another word of one unit in some slots
abbrev pub with_heard : Flight → ℕ → (Slot → ℕ → Bool) → ℕ → Flight
with_heard fl q at w = record fl { heard = λ v f k p. if nat_eq v q && at k p then Some w else fl.heard v f k p }

-- word 0 of unit 0
abbrev pub first_word : Slot → ℕ → Bool
first_word (Out w) p = nat_eq p 0
first_word k p = nat_eq 0 1

-- the report of unit 0, with its relays
abbrev pub first_report : Slot → ℕ → Bool
first_report Report p = nat_eq p 0
first_report (RelayReport s) p = nat_eq s 0
first_report k p = nat_eq 0 1

-- the same mission, in which one unit fails below a frame, or from frame 0 on
abbrev pub with_failing : FlownMission → ℕ → ℕ → FlownMission
with_failing m u below = record m { works = λ v f. not (nat_eq v u && nat_lt f below) }

-- the same mission, whose configurations shed these tasks
abbrev pub with_shed : FlownMission → List ℕ → FlownMission
with_shed m tasks = record m { shed = λ us. tasks }

-- the mission `count`, whose configurations shed its one task
abbrev pub shedding : FlownMission
shedding = with_shed (mission_of count) (0 ∷ [])

-- five units
abbrev pub five_units : List ℕ
five_units = 0 ∷ 1 ∷ 2 ∷ 3 ∷ 4 ∷ []

-- ---- hearing, rounds, configurations

-- what is heard, and what is no round flight
pub record HearingRows : Type 0 where
  pub hears : (q : ℕ) (k : Slot) (p : ℕ) → has four_units q ≡ true → Hears (mission_of count) no_strays (calm_flight count) 0 q k p
  -- unit 1 hears 17 where unit 0 said 16
  pub hears_other : ¬ Hears (mission_of count) no_strays (with_heard (calm_flight count) 1 first_word 17) 0 1 (Out 0) 0
  -- a stray of 7 with stamp 5 is heard by stamp 5, and no word without a stray
  pub strayed : IsOfStray (stray_to 1 3 (packed 5 (Some 7)) ∷ []) 1 3 5 (Some 7)
  pub no_stray : ¬ IsOfStray [] 1 3 5 (Some 7)
  pub round : RoundAt (mission_of count) no_strays (calm_flight count) 0
  -- unit 2 votes 17
  pub not_round : ¬ RoundAt (mission_of count) no_strays (with_account (calm_flight count) 2 (record (account_of count) { outs = 17 ∷ [] })) 0
  -- unit 2 votes 16, and where the task is shed it holds 5, the word of before the frame
  pub votes : voted (frame_of (mission_of count) 2 (unit_of (calm_flight count) 2) 0) 0 ≡ 16
  pub holds : voted (frame_of shedding 2 (unit_of (calm_flight count) 2) 0) 0 ≡ 5
  -- unit 3 has turned, and yet says its words
  pub not_silent : ¬ RoundAt (record (mission_of count) { storm = λ u. if nat_eq u 3 then Some 0 else None }) no_strays (calm_flight count) 0

-- configurations, margin and clocks
pub record ConfigurationRows : Type 0 where
  -- all name unit 0 of five; and units 0 and 1, without which three would be left
  pub four_left : next_by (λ r v. nat_eq v 0) five_units ≡ 1 ∷ 2 ∷ 3 ∷ 4 ∷ []
  pub three_left : next_by (λ r v. nat_lt v 2) five_units ≡ five_units
  pub lead : lead_of (mission_of count) 0 ≡ 0
  -- unit 0 fails
  pub next_lead : lead_of (with_failing (mission_of count) 0 1) 0 ≡ 1
  pub after : config_at (mission_of count) (with_account (calm_flight count) 0 (record (account_of count) { next_cfg = 1 ∷ 2 ∷ [] })) 1 ≡ 1 ∷ 2 ∷ []
  pub margin : HasMarginAt (mission_of count) (calm_flight count) 0
  -- three units work
  pub no_margin : ¬ HasMarginAt (with_failing (mission_of count) 3 1) (calm_flight count) 0
  -- three work in frame 0, and all four in frame 1
  pub lost_margin : HasMargin (λ u. (with_failing (mission_of count) 3 1).works u 1) (config_at (mission_of count) (calm_flight count) 1)
      × (¬ HasMarginAt (with_failing (mission_of count) 3 1) (calm_flight count) 1)
  -- three readings of 4 and the own clock make 12, and a quarter of it is 3
  pub mean : corrected_offset (pos 10) four_units (λ v. Some (pos 4)) (pos 0) 0 ≡ pos 3
  pub skew : IsSkewAt (mission_of count) (calm_flight count) 0 (pos 0)
  pub other_skew : ¬ IsSkewAt (mission_of count) (calm_flight count) 0 (pos 1)
  pub slack : IsSlackAt (mission_of count) (calm_flight count) 0 (pos 1)
  pub other_slack : ¬ IsSlackAt (mission_of count) (calm_flight count) 0 (pos 0)

-- ---- the headline's items

-- the flight of `count` in which unit 2 has another account
abbrev pub other_count : Account → Flight
other_count a = with_account (calm_flight count) 2 a

-- the headline holds of both calm missions, and each of its items refuses a flight
pub record HeadlineRows : Type 0 where
  pub count_stands : Headline (mission_of count) (program_of count) (calm_flight count) 0
  pub gauge_stands : Headline (mission_of gauge) (program_of gauge) (calm_flight gauge) 0
  pub configuration : ¬ SameConfiguration (mission_of count) (other_count (record (account_of count) { cfg = 0 ∷ 1 ∷ 2 ∷ [] })) 0
  pub inputs : ¬ SameInputs (mission_of gauge) (with_account (calm_flight gauge) 2 (record (account_of gauge) { ins = 6 ∷ [] })) 0
  -- unit 1 hears of all that unit 0 reports unit 2
  pub reports : ¬ SameReports (mission_of count) (with_heard (calm_flight count) 1 first_report 4) 0
  pub outputs : ¬ IdealOutputs (mission_of count) (program_of count) (other_count (record (account_of count) { outs = 17 ∷ [] })) 0
  -- where the task is shed, the ideal word is 5, that of before the frame, and not 16
  pub held : IdealOutputs shedding (program_of count) (with_outputs (calm_flight count) (5 ∷ [])) 0
  pub not_held : ¬ IdealOutputs shedding (program_of count) (calm_flight count) 0
  -- unit 2 catches unit 1
  pub accusation : ¬ NoFalseAccusation (mission_of count) (other_count (record (account_of count) { bad = record nobody { poll = set.insert set.empty 1 } })) 0
  pub removal : ¬ ExactRemoval (mission_of count) (other_count (record (account_of count) { next_cfg = 0 ∷ 1 ∷ 2 ∷ [] })) 0
  -- unit 2's clock is a tick ahead
  pub clock : ¬ ClockSkew (mission_of count) (other_count (record (account_of count) { clk = pos 1 })) 0

-- all of them
pub record RowsHold : Type 0 where
  pub hearing : HearingRows
  pub configuration : ConfigurationRows
  pub headline : HeadlineRows
