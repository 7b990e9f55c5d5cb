-- A frame of a round flight is made of how it begins: its words slot by slot, in an order in which each word is made of earlier ones.
use Rattle.std.specs.Prelude.{ℕ, zero, suc, ◌+ℤ◌, List, [], ◌∷◌, ◌++◌, Bool, not, nat_eq, if◌then◌else◌, Option, None, Some, unwrap_or, ℤ}
use Rattle.std.specs.List.{filter}
use Rattle.std.specs.FinSet as set
use Rattle.std.specs.Ordering.{nat_cmp}
use Rattle.sift_base.specs.Word.{word_of}
use Rattle.sift_base.specs.Units.{Units, has, has_bit, bits_of}
use Rattle.sift_base.specs.declared.slots.Slot.{Slot}
use Rattle.sift_base.specs.declared.slots.Slot.TheVariants.{Clock, Sense, RelaySense, Out, Report, RelayReport}
use Rattle.sift_exec.specs.Conviction.{nobody, everyone_in, next_by}
use Rattle.sift_exec.specs.declared.catches.Catches.{Catches}
use Rattle.sift_config.specs.Config.{reader_of}
use Rattle.sift_clock.specs.Correction.{corrected_offset}
use Rattle.sift_mission.specs.Data.{FlownMission}
use Rattle.sift_mission.specs.Slots.{calls, stamp_of, has_turned}
use Rattle.sift_conduct.specs.Conduct.{Account, Places, UnitFrame, unit_frame, input_of, voted, poll_catches, relay_catches, clock_catches, reading_by, report_of, said_of}
use Rattle.sift_flight.specs.Flight.{Flight}
use Rattle.sift_flight.specs.Existence.{StrayHearing}

-- how a unit begins a frame: its configuration, its offset, and the words voted in the frame before
pub record Start : Type 0 where
  pub cfg : List ℕ
  pub clk : ℤ
  pub last : List ℕ

-- the numbers of a rule below n
abbrev pub row : (ℕ → ℕ) → ℕ → List ℕ
row rule zero = []
row rule (suc n) = row rule n ++ (rule n ∷ [])

-- the units of a configuration that pass a test
abbrev pub set_by : (ℕ → Bool) → List ℕ → Units
set_by test us = set.from_list {R = nat_cmp} (filter test us)

module _ (m : FlownMission) (stray : StrayHearing) (f : ℕ) (start : ℕ → Start) where
  -- ---- what is heard, where each unit's own word of the slot is known

  -- what p says to q
  abbrev pub said_by : (ℕ → Option ℕ) → Slot → ℕ → ℕ → Option ℕ
  said_by own k p q = if calls m (start p).cfg k p q then unwrap_or (m.override p f k q) (own p) else None

  -- what q hears of p, by the hearing equations
  abbrev pub heard_by : (ℕ → Option ℕ) → Slot → ℕ → ℕ → Option ℕ
  heard_by own k q p =
      if has_turned m q f then None
      else if calls m (start q).cfg k p q then
      (if has_turned m p f then stray q f k p (stamp_of m (start q).cfg f k)
      else if nat_eq (m.due (start p).cfg k) (m.due (start q).cfg k) then said_by own k p q else None)
      else None

  -- each unit's own word of a slot, where those of the outputs and the report are known
  abbrev pub own_by : (ℕ → ℕ → Option ℕ) → (ℕ → Option ℕ) → Slot → ℕ → Option ℕ
  own_by out report Clock = λ p. Some (word_of (start p).clk)
  own_by out report (Sense x) = λ p. Some (m.sensed x f)
  own_by out report (RelaySense x) = λ p. heard_by (λ r. Some (m.sensed x f)) (Sense x) p (reader_of (start p).cfg x)
  own_by out report (Out w) = out w
  own_by out report Report = report
  own_by out report (RelayReport s) = λ p. heard_by report Report p s

  -- what each unit hears, where they are known
  abbrev pub places_by : (ℕ → ℕ → Option ℕ) → (ℕ → Option ℕ) → ℕ → Places
  places_by out report q k p = heard_by (own_by out report k) k q p

  -- no word is known
  abbrev pub unknown : ℕ → Option ℕ
  unknown p = None

  -- a unit in the frame with an account and what it heard
  abbrev pub frame_by : ℕ → Account → Places → UnitFrame
  frame_by u a h = unit_frame m (start u).cfg u f a h (start u).last

  -- ---- sensors, of clocks and sensors alone

  -- the account of a unit, where no word is agreed or voted yet
  abbrev pub starting : ℕ → Account
  starting u = record {
    cfg = (start u).cfg;
    idle = not (has (start u).cfg u);
    clk = (start u).clk;
    ins = [];
    outs = [];
    bad = nobody;
    next_cfg = (start u).cfg;
    next_clk = (start u).clk;
  }

  -- the inputs that a unit agrees on
  abbrev pub inputs : ℕ → List ℕ
  inputs u = row (input_of (frame_by u (starting u) (places_by (λ w. unknown) unknown u))) m.sensors

  -- ---- tasks, one word after the other

  -- the account of a unit, as far as votes need it, with the words that it voted till now
  abbrev pub voting : ℕ → List ℕ → Account
  voting u outs = record (starting u) { ins = inputs u; outs = outs }

  -- a word as each unit makes it of the words that it voted till now
  abbrev pub word_by : (ℕ → List ℕ) → ℕ → ℕ → Option ℕ
  word_by outs w p = Some (m.word w (inputs p) (outs p) (start p).last)

  -- and as a unit votes it
  abbrev pub vote_by : (ℕ → List ℕ) → ℕ → ℕ → ℕ
  vote_by outs w u = voted (frame_by u (voting u (outs u)) (places_by (word_by outs) unknown u)) w

  -- the first n words as a unit votes them
  abbrev pub outs_to : ℕ → ℕ → List ℕ
  outs_to zero u = []
  outs_to (suc n) u = outs_to n u ++ (vote_by (outs_to n) n u ∷ [])

  -- all of them
  abbrev pub outputs : ℕ → List ℕ
  outputs = outs_to m.words

  -- the word of an output that each unit says
  abbrev pub out_word : ℕ → ℕ → Option ℕ
  out_word w p = word_by (outs_to w) w p

  -- ---- catches, reports, the next configuration and the next offset

  -- whom a unit catches
  abbrev pub catches : ℕ → Catches
  catches u =
      let us = (start u).cfg in
      let x : UnitFrame = frame_by u (voting u (outputs u)) (places_by out_word unknown u) in
      record { poll = set_by (poll_catches x) us; relay = set_by (relay_catches x) us; clock = set_by (clock_catches x) us }

  abbrev pub catching : ℕ → Account
  catching u = record (voting u (outputs u)) { bad = catches u }

  -- whom it says that it caught
  abbrev pub report_word : ℕ → Option ℕ
  report_word u = Some (bits_of (everyone_in (if has (start u).cfg u then catches u else nobody)))

  -- ---- all of it

  -- what each unit hears
  abbrev pub heard_here : ℕ → Places
  heard_here = places_by out_word report_word

  -- the account of a unit that is in its configuration
  abbrev pub busy_account : ℕ → Account
  busy_account u =
      let us = (start u).cfg in
      let h = heard_here u in
      record (catching u) {
        next_cfg = next_by (λ r v. has_bit (report_of us u (catching u) h r) v) us;
        next_clk = corrected_offset (m.skew +ℤ m.error) us (reading_by (frame_by u (catching u) h)) (start u).clk u +ℤ m.drift u;
      }

  -- and of each unit
  abbrev pub account_here : ℕ → Account
  account_here u = record {
    cfg = (start u).cfg;
    idle = not (has (start u).cfg u);
    clk = (start u).clk;
    ins = if has (start u).cfg u then inputs u else [];
    outs = if has (start u).cfg u then outputs u else [];
    bad = if has (start u).cfg u then catches u else nobody;
    next_cfg = if has (start u).cfg u then (busy_account u).next_cfg else (start u).cfg;
    next_clk = if has (start u).cfg u then (busy_account u).next_clk else (start u).clk;
  }

  -- the unit in the frame, with this account
  abbrev pub frame_here : ℕ → Account → UnitFrame
  frame_here u a = frame_by u a (heard_here u)

  -- what each unit says
  abbrev pub said_here : ℕ → Places
  said_here u k q =
      if has_turned m u f then None
      else said_of (frame_here u (account_here u)) k q

  -- how the next frame begins
  abbrev pub start_next : ℕ → Start
  start_next u = record { cfg = (account_here u).next_cfg; clk = (account_here u).next_clk; last = (account_here u).outs }

module _ (m : FlownMission) (stray : StrayHearing) where
  -- how each frame begins
  abbrev pub start_of : ℕ → ℕ → Start
  start_of zero u = record { cfg = m.units; clk = m.offset u; last = m.starts }
  start_of (suc f) u = start_next m stray f (start_of f) u

  -- the flight of all frames
  abbrev pub made_flight : Flight
  made_flight = record {
    said = λ u f. said_here m stray f (start_of f) u;
    heard = λ u f. heard_here m stray f (start_of f) u;
    account = λ u f. account_here m stray f (start_of f) u;
  }
