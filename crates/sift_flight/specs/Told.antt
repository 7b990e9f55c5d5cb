-- What a flight of the code tells: words and accounts by unit, frame and slot; and when it is whole.
use Rattle.std.specs.Prelude.{◌≡◌, ℕ, ◌<◌, ◌≤◌, List, [], length, slice_index_or, map, true, false, None, if◌then◌else◌, pos, ℤ}
use Rattle.sift_base.specs.Units.{has}
use Rattle.sift_base.specs.declared.slots.Layout.{Layout}
use Rattle.sift_buffer.specs.Journals.{Pages, no_pages, said_in, heard_in, IsJournalOf}
use Rattle.sift_clock.specs.Distance.{IsWithin}
use Rattle.sift_exec.specs.Conviction.{nobody}
use Rattle.sift_mission.specs.Data.{FlownMission, IsConfigOf}
use Rattle.sift_mission.specs.Slots.{is_slot, has_turned}
use Rattle.sift_conduct.specs.Conduct.{Account, caught, account_of}
use Rattle.sift_conduct.specs.Frames.{frames_before}
use Rattle.sift_flight.specs.Flight.{Flight}
use Rattle.sift_flight.specs.declared.flight.Flight.{Flight as TheFlight}

-- ---- what it tells

-- an empty account, which stands for that of a frame that wasn't flown
abbrev pub no_account : Account
no_account = record { cfg = []; idle = true; clk = pos 0; ins = []; outs = []; bad = nobody; next_cfg = []; next_clk = pos 0 }

-- the journal of a unit
abbrev pub journal_of : TheFlight → ℕ → Pages
journal_of fl u = slice_index_or fl.journals.items u no_pages

-- the accounts of a unit, one for each frame that it has flown
abbrev pub accounts_of : TheFlight → ℕ → List Account
accounts_of fl u = slice_index_or (map (λ accounts. map account_of accounts.items) fl.accounts.items) u []

-- the flight that it tells
abbrev pub told : FlownMission → TheFlight → Flight
told m fl = record {
  said = λ u f k q. if is_slot m k then said_in (journal_of fl u) f (m.number k) q else None;
  heard = λ u f k p. if is_slot m k then heard_in (journal_of fl u) f (m.number k) p else None;
  account = λ u f. slice_index_or (accounts_of fl u) f no_account;
}

-- ---- when it is whole

-- there is a journal of the layout for each unit, and an account for each frame before the unit turned
pub record IsLogged (m : FlownMission) (layout : Layout) (fl : TheFlight) : Type 0 where
  pub journals : length fl.journals.items ≡ length m.units
  pub journal : (u : ℕ) → has m.units u ≡ true → IsJournalOf (journal_of fl u) layout u m.frames
  pub lists : length fl.accounts.items ≡ length m.units
  pub accounts : (u : ℕ) → has m.units u ≡ true → length (accounts_of fl u) ≡ frames_before (m.storm u) m.frames

-- the farthest offset from 0 in a flight, in ticks
abbrev pub offset_limit : ℤ
offset_limit = pos 100000000

-- an account of a unit: its configurations are the mission's and its offsets near; it is idle just where its unit is outside its
-- configuration, and else it has one word for each sensor and for each output; whom it caught is in its configuration
pub record IsAccountOf (m : FlownMission) (u : ℕ) (a : Account) : Type 0 where
  pub config : IsConfigOf m a.cfg
  pub next_config : IsConfigOf m a.next_cfg
  pub clock : IsWithin offset_limit a.clk (pos 0)
  pub next_clock : IsWithin offset_limit a.next_clk (pos 0)
  pub idle : (a.idle ≡ true → has a.cfg u ≡ false) × (has a.cfg u ≡ false → a.idle ≡ true)
  pub inputs : a.idle ≡ false → length a.ins ≡ m.sensors
  pub outputs : a.idle ≡ false → length a.outs ≡ m.words
  pub caught_inside : (v : ℕ) → caught a v ≡ true → has a.cfg v ≡ true

-- a unit that flies in a frame has such an account, and who is idle stays so
pub record AreAccountsOf (m : FlownMission) (fl : Flight) : Type 0 where
  pub each : (u f : ℕ) → has m.units u ≡ true → f < m.frames → has_turned m u f ≡ false → IsAccountOf m u (fl.account u f)
  pub idle : (u f later : ℕ) → has m.units u ≡ true → f ≤ later → later < m.frames → has_turned m u later ≡ false →
      (fl.account u f).idle ≡ true → (fl.account u later).idle ≡ true

-- the flight is whole for the mission: what a report wants of it
pub record IsWhole (m : FlownMission) (layout : Layout) (fl : TheFlight) : Type 0 where
  pub logged : IsLogged m layout fl
  pub accounts : AreAccountsOf m (told m fl)
