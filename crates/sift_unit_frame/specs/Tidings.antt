-- What a unit says and accounts for, of what it remembers.
use Rattle.std.specs.Prelude.{ℕ, List, [], slice_index, Bool, true, false, nat_eq, if◌then◌else◌, Option, Some, unwrap_or, ℤ}
use Rattle.std.specs.List.{list_any, range_with_len}
use Rattle.sift_base.specs.Word.{word_of}
use Rattle.sift_base.specs.Units.{Units, has, holds, has_bit, bits_of}
use Rattle.sift_base.specs.declared.slots.Slot.{Slot}
use Rattle.sift_base.specs.declared.slots.Slot.TheVariants.{Clock, Sense, RelaySense, Out, Report, RelayReport}
use Rattle.sift_exec.specs.Conviction.{everyone_in, nobody, next_by}
use Rattle.sift_exec.specs.declared.catches.Catches.{Catches}
use Rattle.sift_mission.specs.Data.{FlownMission}
use Rattle.sift_conduct.specs.Conduct.{Account}
use Rattle.sift_unit_frame.specs.Memory.{Memory, place_at, units_at, gathered}

-- ---- catches

-- the units that were caught in the poll of some word
abbrev pub poll_now : FlownMission → List ℕ → Memory → Units
poll_now m us b = gathered (λ v. list_any (λ w. holds (units_at b.poll w) v) (range_with_len 0 m.words)) us

-- the units that were caught by their relays of some sensor
abbrev pub relay_now : FlownMission → List ℕ → Memory → Units
relay_now m us b = gathered (λ v. list_any (λ x. holds (units_at b.relay x) v) (range_with_len 0 m.sensors)) us

-- the units that were caught by their clocks
abbrev pub clock_now : List ℕ → Memory → Units
clock_now us b = gathered (holds b.clock) us

-- all that were caught, by kind
abbrev pub bad_now : FlownMission → List ℕ → Memory → Catches
bad_now m us b = record { poll = poll_now m us b; relay = relay_now m us b; clock = clock_now us b }

-- ---- what is said

-- the own report: the byte of all that were caught
abbrev pub report_now : FlownMission → List ℕ → Memory → ℕ
report_now m us b = bits_of (everyone_in (bad_now m us b))

-- the own word of a slot
abbrev pub word_now : FlownMission → List ℕ → ℕ → ℤ → Memory → Slot → Option ℕ
word_now m us f clk b Clock = Some (word_of clk)
word_now m us f clk b (Sense x) = Some (m.sensed x f)
word_now m us f clk b (RelaySense x) = place_at b.direct x
word_now m us f clk b (Out w) = Some (slice_index b.made w)
word_now m us f clk b Report = Some (report_now m us b)
word_now m us f clk b (RelayReport s) = place_at b.reports s

-- the word to say to q: the own word, or what the script of faults puts in its place
abbrev pub word_to : FlownMission → List ℕ → ℕ → ℕ → ℤ → Memory → Slot → ℕ → Option ℕ
word_to m us u f clk b k q = unwrap_or (m.override u f k q) (word_now m us f clk b k)

-- ---- the account

-- r's report, as u takes it: its own, or the agreed one
abbrev pub report_taken : FlownMission → List ℕ → ℕ → Memory → ℕ → ℕ
report_taken m us u b r = if nat_eq r u then report_now m us b else slice_index b.agreed r

-- this report names v
abbrev pub names_now : FlownMission → List ℕ → ℕ → Memory → ℕ → ℕ → Bool
names_now m us u b r v = has_bit (report_taken m us u b r) v

-- the account of a unit that is in its configuration us
abbrev pub busy_account : FlownMission → List ℕ → ℕ → ℤ → Memory → Account
busy_account m us u clk b = record {
  cfg = us;
  idle = false;
  clk = clk;
  ins = b.ins;
  outs = b.outs;
  bad = bad_now m us b;
  next_cfg = next_by (names_now m us u b) us;
  next_clk = b.next_clk;
}

-- the account of a unit that isn't
abbrev pub idle_account : List ℕ → ℤ → Account
idle_account us clk = record { cfg = us; idle = true; clk = clk; ins = []; outs = []; bad = nobody; next_cfg = us; next_clk = clk }

-- the account of a frame, as far as it is remembered
abbrev pub frame_account : FlownMission → List ℕ → ℕ → ℤ → Memory → Account
frame_account m us u clk b = if has us u then busy_account m us u clk b else idle_account us clk
