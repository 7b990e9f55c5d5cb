-- A machine whose units have all landed or turned, as a flight that has come home.
use Rattle.std.proofs.Common.{◌≡◌, ℕ, ◌<◌, List, [], length, map, slice_index_or, true, sym, ap, ◌∙◌, subst}
use Rattle.std.specs.List.{All}
use Rattle.std.proofs.lemmas.List.{get_or-map, length-map}
use Rattle.sift_base.specs.Units.{has}
use Rattle.sift_buffer.specs.Journals.{Pages, HasWordsOf, IsJournalOf, no_pages}
use Rattle.sift_buffer.specs.Ledgers.{Ledger, HasItsWords}
use Rattle.sift_mission.specs.Data.{FlownMission}
use Rattle.sift_conduct.specs.Conduct.{Account, account_of}
use Rattle.sift_conduct.specs.Acts.{BoardKeeps}
use Rattle.sift_conduct.specs.Frames.{frames_before}
use Rattle.sift_unit.specs.Boards.{desk_of}
use Rattle.sift_unit.specs.Down.{DownLaw, StrayLaw, HasFlownAll}
use Rattle.sift_unit.specs.declared.board.Board.{Board}
use Rattle.sift_flight.specs.Flight.{Strays, IsRound}
use Rattle.sift_flight.specs.Homing.{FlightsThatComeHomeAreRound}
use Rattle.sift_flight.specs.Told.{told, no_account, journal_of, accounts_of, IsLogged}
use Rattle.sift_flight.specs.declared.flight.Flight.{Flight as TheFlight}
use Rattle.sift_buffer.specs.Crews.{ledger_at, no_ledger}
use Rattle.sift_buffer.specs.Racks.{ranges_for, core_of}
use Rattle.sift_core.specs.Machines.{boards_of, Flies, IsFlying, board_at, layout_of}
use Rattle.sift_core.specs.Turns.{AreAllDown}
use Rattle.sift_core.specs.declared.machine.Machine.{Machine}
use Rattle.sift_core.proofs.EndedFrames.{has_places, view_beside, drives_beside}
use Rattle.sift_core.proofs.MachineSteps.{unit_below}
use Rattle.sift_core.proofs.Progress.{first, flyable}
use Rattle.sift_core.proofs.Turning.{unit_count}

-- what is known of the machine, and of what was made of it
pub record Lands (m : FlownMission) (x : Machine) (fl : TheFlight) : Type 0 where
  pub flying : IsFlying m x
  pub down : AreAllDown m x
  pub words : All HasItsWords x.rack.acts.items
  pub journals : fl.journals.items ≡ map (λ ledger. ledger.pages) x.rack.acts.items
  pub accounts : map (λ accounts. map account_of accounts.items) fl.accounts.items ≡ map (λ board. (desk_of board).accounts) (boards_of x)

module _ (m : FlownMission) (x : Machine) (fl : TheFlight) (lands : Lands m x fl) where
  -- the first board
  some_board : Board
  some_board = first m x lands.flying

  module _ (down : DownLaw) (stray : StrayLaw) (w : Strays) (flies : Flies m w x) (u : ℕ) (there : has m.units u ≡ true) where
    low : u < (layout_of x).units
    low = unit_below m x u lands.flying there

    -- the journal and the accounts of a unit
    journal_is : journal_of fl u ≡ (ledger_at x.rack.acts.items u).pages
    journal_is = ap (λ (js : List Pages). slice_index_or js u no_pages) lands.journals
        ∙ get_or-map (λ (l : Ledger). l.pages) x.rack.acts.items u no_ledger no_pages (rw x.rack.crew low)

    accounts_are : accounts_of fl u ≡ (desk_of (board_at x some_board u)).accounts
    accounts_are = ap (λ (lists : List (List Account)). slice_index_or lists u []) lands.accounts
        ∙ get_or-map (λ (b : Board). (desk_of b).accounts) (boards_of x) u some_board [] (rw lands.flying.1.count low)

    -- its journal has the words of its conduct, strays or not
    words_are : HasWordsOf ((core_of x.rack w).of u) (journal_of fl u)
    words_are = let has_words = lands.words u no_ledger (rw x.rack.crew low) in
        subst (λ (j : Pages). HasWordsOf ((core_of x.rack w).of u) j) (sym journal_is) (record { said = has_words.said; heard = has_words.heard })

    -- its board has flown all that it flies
    all : HasFlownAll m (board_at x some_board u) (view_beside x.rack w u)
    all = down m (board_at x some_board u) (view_beside x.rack w u) (drives_beside stray m w x some_board u flies there) (lands.down u there)

    unit_is : u ≡ (board_at x some_board u).unit
    unit_is = (drives_beside stray m w x some_board u flies there).unit

    boards_kept : BoardKeeps m u ((core_of x.rack w).of u) ((told m fl).account u) m.frames
    boards_kept = subst (λ (v : ℕ). BoardKeeps m v ((core_of x.rack w).of u) ((told m fl).account u) m.frames) (sym unit_is)
        (subst (λ (list : List Account). BoardKeeps m (board_at x some_board u).unit ((core_of x.rack w).of u) (λ f. slice_index_or list f no_account) m.frames)
        (sym accounts_are) (all.kept no_account))

    count_is : length (accounts_of fl u) ≡ frames_before (m.storm u) m.frames
    count_is = ap length accounts_are ∙ (all.count ∙ ap (λ (v : ℕ). frames_before (m.storm v) m.frames) (sym unit_is))

  -- what the flight made of the machine tells is round over the strays with which the machine flies
  pub landed_round : DownLaw → StrayLaw → FlightsThatComeHomeAreRound → (w : Strays) → Flies m w x → IsRound m w (told m fl)
  landed_round down stray round w flies = round m (ranges_for x.rack) (core_of x.rack w) fl (flyable m x lands.flying).fits (record {
    lawful = flies.lawful;
    places = has_places m x lands.flying;
    journals = words_are down stray w flies;
    boards = boards_kept down stray w flies;
  })

  -- that flight has a journal of the layout for each unit, and an account for each frame before the unit turned
  pub landed_logged : DownLaw → StrayLaw → IsLogged m (layout_of x) fl
  landed_logged down stray = record {
    journals = ap length lands.journals ∙ (length-map x.rack.acts.items (λ (l : Ledger). l.pages) ∙ (x.rack.crew ∙ sym (unit_count m x lands.flying)));
    journal = λ u there. subst (λ (j : Pages). IsJournalOf j (layout_of x) u m.frames) (sym (journal_is down stray lands.flying.0 lands.flying.1 u there))
        (subst (λ (n : ℕ). IsJournalOf (ledger_at x.rack.acts.items u).pages (layout_of x) u n) lands.flying.1.frames
        (x.rack.owned u (unit_below m x u lands.flying there)));
    lists = sym (length-map fl.accounts.items _) ∙ (ap length lands.accounts ∙ (length-map (boards_of x) _ ∙ (lands.flying.1.count ∙ sym
        (unit_count m x lands.flying))));
    accounts = count_is down stray lands.flying.0 lands.flying.1;
  }
