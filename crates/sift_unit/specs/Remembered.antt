-- What the memory of a board holds, over its unit's frame: what it heard, the account, and the words voted before.
use Rattle.std.specs.Prelude.{◌≡◌, ◌≢◌, ℕ, List, map, slice_index, true, false, not, ◌&&◌, nat_eq, Option, Some, ℤ, ◌+ℤ◌}
use Rattle.sift_base.specs.Units.{has, holds}
use Rattle.sift_base.specs.declared.slots.Slot.{Slot}
use Rattle.sift_base.specs.declared.slots.Slot.TheVariants.{Clock, Sense, RelaySense, Out, Report, RelayReport}
use Rattle.sift_vote.specs.Majority.{majority_of, agreed_of, differs}
use Rattle.sift_agree.specs.Agreement.{taken}
use Rattle.sift_config.specs.Config.{reader_of}
use Rattle.sift_clock.specs.Correction.{corrected_offset}
use Rattle.sift_mission.specs.Data.{FlownMission}
use Rattle.sift_mission.specs.Slots.{executors}
use Rattle.sift_conduct.specs.Conduct.{Account, UnitFrame, input_of, made, polled, voted, reading_by, clock_catches}
use Rattle.sift_unit_frame.specs.Memory.{Memory, place_at, units_at}
use Rattle.sift_unit_frame.specs.Tidings.{bad_now}

-- the words of a poll, as the equations of conduct have them
abbrev pub polled_words : UnitFrame → ℕ → List (Option ℕ)
polled_words x w = map (polled x w) (executors x.mission x.account.cfg w)

-- the unit's frame, with a clock of this offset
abbrev pub with_clock : UnitFrame → ℤ → UnitFrame
with_clock x clk = record x { account = record x.account { clk = clk } }

module _ (x : UnitFrame) where
  open x use {mission as m, unit as u, frame as f, account.{cfg as us}, heard as h}

  -- the memory holds what comes of a slot, all of which was heard with a clock of this offset
  abbrev pub Heard : ℤ → Memory → Slot → Type 0
  Heard clk b Clock =
      ((v : ℕ) → holds b.clock v ≡ clock_catches (with_clock x clk) v)
      × (b.next_clk ≡ corrected_offset (m.skew +ℤ m.error) us (reading_by (with_clock x clk)) clk u +ℤ m.drift u)
  Heard clk b (Sense s) =
      nat_eq (reader_of us s) u ≡ false → place_at b.direct s ≡ h (Sense s) (reader_of us s)
  Heard clk b (RelaySense s) =
      (slice_index b.ins s ≡ input_of x s)
      × ((v : ℕ) → holds (units_at b.relay s) v ≡
      (has us v && (not (nat_eq v u) && (nat_eq (reader_of us s) u && differs (h (RelaySense s) v) (Some (m.sensed s f))))))
  Heard clk b (Out w) =
      (slice_index b.outs w ≡ voted x w)
      × ((v : ℕ) → holds (units_at b.poll w) v ≡ (has us v && (m.executes us w v && differs (polled x w v) (majority_of (polled_words x w)))))
  Heard clk b Report = (s : ℕ) → has us s ≡ true → s ≢ u → place_at b.reports s ≡ h Report s
  Heard clk b (RelayReport s) =
      has us s ≡ true → s ≢ u → slice_index b.agreed s ≡ agreed_of (taken us s u (λ q. h Report s) (λ q p. h (RelayReport s) p))

  -- the memory holds the word that u made, where its task was run
  abbrev pub Ran : Memory → ℕ → Type 0
  Ran b w = m.executes us w u ≡ true → slice_index b.made w ≡ made x w

-- the account has what the memory settled when the slot was heard
abbrev pub Matches : Memory → Account → Slot → Type 0
Matches b a Clock = Unit {0}
Matches b a (Sense x) = Unit {0}
Matches b a (RelaySense x) = slice_index b.ins x ≡ slice_index a.ins x
Matches b a (Out w) = slice_index b.outs w ≡ slice_index a.outs w
Matches b a Report = Unit {0}
Matches b a (RelayReport s) = Unit {0}

-- the account has the catches of the memory, all of which are known
abbrev pub Settled : FlownMission → List ℕ → Memory → Account → Type 0
Settled m us b a = bad_now m us b ≡ a.bad
