-- What a unit does in a frame in which it is in its configuration: equations between its account, what it heard, and the words voted in the
-- frame before.
use Rattle.std.specs.Prelude.{ℕ, List, Bool, Option, ℤ, ◌≡◌, ◌<◌, length, map, slice_index, false, not, ◌&&◌, nat_eq, if◌then◌else◌, None, Some, unwrap_or, ◌+ℤ◌}
use Rattle.std.specs.List.{list_any, range_with_len}
use Rattle.sift_base.specs.declared.slots.Slot.{Slot}
use Rattle.sift_base.specs.Units.{holds, has, has_bit, bits_of}
use Rattle.sift_exec.specs.Conviction.{everyone_in, next_by}
use Rattle.sift_exec.specs.declared.catches.Catches.{Catches}
use Rattle.sift_base.specs.Word.{word_of}
use Rattle.sift_base.specs.declared.slots.Slot.TheVariants.{Clock, Sense, RelaySense, Out, Report, RelayReport}
use Rattle.sift_vote.specs.Majority.{majority_of, agreed_of, differs}
use Rattle.sift_agree.specs.Agreement.{taken}
use Rattle.sift_config.specs.Config.{reader_of}
use Rattle.sift_clock.specs.Correction.{reading_of, is_too_far, corrected_offset}
use Rattle.sift_mission.specs.Data.{FlownMission}
use Rattle.sift_mission.specs.Slots.{executors, is_held, calls}
use Rattle.sift_conduct.specs.declared.account.Account.{Account as TheAccount}

-- ---- a unit's account of a frame, and the words in its places

-- one unit's account of one frame: its configuration, whether it is idle, its clock's offset, the agreed word of each sensor, the voted
-- word of each number, whom it caught, and the configuration and the offset that it found for the next frame
pub record Account : Type 0 where
  pub cfg : List ℕ
  pub idle : Bool
  pub clk : ℤ
  pub ins : List ℕ
  pub outs : List ℕ
  pub bad : Catches
  pub next_cfg : List ℕ
  pub next_clk : ℤ

-- the account that one of the code is
abbrev pub account_of : TheAccount → Account
account_of a = record {
  cfg = a.cfg;
  idle = a.idle;
  clk = a.clk;
  ins = a.ins.items;
  outs = a.outs.items;
  bad = a.bad;
  next_cfg = a.next_cfg;
  next_clk = a.next_clk;
}

-- the unit was caught in some way
abbrev pub caught : Account → ℕ → Bool
caught a v = holds (everyone_in a.bad) v

-- the words in a unit's places of one frame, by slot and other unit: what it said to it, or what it heard from it
abbrev pub Places : Type 0
Places = Slot → ℕ → Option ℕ

-- ---- a unit in one frame

-- a unit in one frame: the mission, its number and the frame; its account, what it heard, and the words voted in the frame before
pub record UnitFrame : Type 0 where
  pub mission : FlownMission
  pub unit : ℕ
  pub frame : ℕ
  pub account : Account
  pub heard : Places
  pub last : List ℕ

-- the same from its parts, with this configuration in its account
abbrev pub unit_frame : FlownMission → (config : List ℕ) → (unit frame : ℕ) → Account → (heard : Places) → (last : List ℕ) → UnitFrame
unit_frame m us u f a h last = record { mission = m; unit = u; frame = f; account = record a { cfg = us }; heard = h; last = last }

-- the report of an account: the byte of the units that were caught
abbrev pub report_in : Account → ℕ
report_in a = bits_of (everyone_in a.bad)

-- the report that u takes for r's: its own, or the agreed word of what r said and the others relayed
abbrev pub report_of : List ℕ → ℕ → Account → Places → ℕ → ℕ
report_of us u a h r =
    if nat_eq r u then report_in a else agreed_of (taken us r u (λ q. h Report r) (λ q p. h (RelayReport r) p))

module _ (x : UnitFrame) where
  open x use {mission as m, unit as u, frame as f, account as a, account.{cfg as us}, heard as h, last}

  -- ---- sensors

  -- the word that u has for sensor s: the mission's where u reads it, else the agreed word of what the reader said and the others relayed
  abbrev pub input_of : ℕ → ℕ
  input_of s =
      if nat_eq (reader_of us s) u then m.sensed s f
      else agreed_of (taken us (reader_of us s) u (λ q. h (Sense s) (reader_of us s)) (λ q p. h (RelaySense s) p))

  -- ---- tasks

  -- the word as u makes it: of its agreed words, this frame's words as it voted them, and those of the frame before
  abbrev pub made : ℕ → ℕ
  made w = m.word w a.ins a.outs last

  -- the word of executor v as u polls it: its own as it made it, each other as it was heard
  abbrev pub polled : ℕ → ℕ → Option ℕ
  polled w v = if nat_eq v u then Some (made w) else h (Out w) v

  -- the word of number w after the poll: the agreed word of the executors' words, and where it is held the word voted in the frame before
  abbrev pub voted : ℕ → ℕ
  voted w = if is_held m us w then slice_index last w else agreed_of (map (polled w) (executors m us w))

  -- ---- catches

  -- v is an executor of a word that is absent, or differs from a majority that is there
  abbrev pub poll_catches : ℕ → Bool
  poll_catches v =
      has us v
      && list_any (λ w. m.executes us w v && differs (polled w v) (majority_of (map (polled w) (executors m us w)))) (range_with_len 0 m.words)

  -- v relayed a sensor that u reads as absent, or as another word
  abbrev pub relay_catches : ℕ → Bool
  relay_catches v =
      has us v && (not (nat_eq v u)
      && list_any (λ s. nat_eq (reader_of us s) u && differs (h (RelaySense s) v) (Some (m.sensed s f))) (range_with_len 0 m.sensors))

  -- u's reading of p's clock
  abbrev pub reading_by : ℕ → Option ℤ
  reading_by p = reading_of (h Clock p) a.clk (m.errors u p)

  -- v's clock is absent, or too far away
  abbrev pub clock_catches : ℕ → Bool
  clock_catches v = has us v && (not (nat_eq v u) && is_too_far (m.skew +ℤ m.error) (reading_by v))

  -- ---- what is said

  -- the own word of a slot: the clock's low bits, a sensor's word, what was heard and is relayed, a word made, the report
  abbrev pub own_word : Slot → Option ℕ
  own_word Clock = Some (word_of a.clk)
  own_word (Sense s) = Some (m.sensed s f)
  own_word (RelaySense s) = h (Sense s) (reader_of us s)
  own_word (Out w) = Some (made w)
  own_word Report = Some (report_in a)
  own_word (RelayReport r) = h Report r

  -- what u says to q in a slot that it says to q: the own word, or what the script of faults puts in its place; else nothing
  abbrev pub said_of : Slot → ℕ → Option ℕ
  said_of k q = if calls m us k u q then unwrap_or (m.override u f k q) (own_word k) else None

  -- ---- all of it

  -- the conduct of u in its configuration
  pub record Conduct : Type 0 where
    pub busy : a.idle ≡ false
    -- the account has the agreed word of each sensor
    pub inputs_count : length a.ins ≡ m.sensors
    pub inputs : (s : ℕ) → s < m.sensors → slice_index a.ins s ≡ input_of s
    -- and the voted word of each number
    pub outputs_count : length a.outs ≡ m.words
    pub outputs : (w : ℕ) → w < m.words → slice_index a.outs w ≡ voted w
    -- it has just the units that are caught, by kind
    pub polls : (v : ℕ) → holds a.bad.poll v ≡ poll_catches v
    pub relays : (v : ℕ) → holds a.bad.relay v ≡ relay_catches v
    pub clocks : (v : ℕ) → holds a.bad.clock v ≡ clock_catches v
    -- the next configuration is the one without those whom two other units' reports name
    pub next_cfg : a.next_cfg ≡ next_by (λ r v. has_bit (report_of us u a h r) v) us
    -- the next offset is the corrected one, and the drift
    pub next_clk : a.next_clk ≡ corrected_offset (m.skew +ℤ m.error) us reading_by a.clk u +ℤ m.drift u
