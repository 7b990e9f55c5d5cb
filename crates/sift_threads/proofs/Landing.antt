-- Units that have flown over an ether, and what is landed of it, as a flight that has come home.
use Rattle.std.proofs.Common.{◌≡◌, ℕ, ◌<◌, List, [], ◌∷◌, Vec, length, map, slice_index_or, true, sym, ap, ◌∙◌, subst, arith}
use Rattle.std.specs.declared.alloc.Global.{Global}
use Rattle.std.proofs.lemmas.List.{get_or-map, length-map}
use Rattle.std.proofs.lemmas.List.FromFn.{length-range_with_len}
use Rattle.sift_base.specs.Units.{has, unit_limit}
use Rattle.sift_base.specs.declared.slots.Layout.{Layout}
use Rattle.sift_buffer.specs.Core.{Core}
use Rattle.sift_buffer.specs.Journals.{Pages, no_pages}
use Rattle.sift_buffer.specs.Tables.{ranges_of}
use Rattle.sift_config.specs.laws.FirstUnits.{unit_low}
use Rattle.sift_rogue.specs.Storms.{Call}
use Rattle.sift_ether.specs.Landed.{HaveLanded}
use Rattle.sift_ether.specs.Tokens.{IsMade, conduct_at}
use Rattle.sift_ether.specs.declared.ether.Ether.{Ether}
use Rattle.sift_ether.specs.declared.seat.Token.{Token}
use Rattle.sift_mission.specs.Data.{MissionData, FlownMission}
use Rattle.sift_mission.specs.Fits.{Fits}
use Rattle.sift_mission.specs.Flown.{flown}
use Rattle.sift_mission.specs.PartsFit.{PartsFit}
use Rattle.sift_conduct.specs.Conduct.{Account, account_of}
use Rattle.sift_conduct.specs.Acts.{BoardKeeps}
use Rattle.sift_conduct.specs.Frames.{frames_before}
use Rattle.sift_conduct.specs.declared.account.Account.{Account as TheAccount}
use Rattle.sift_flight.specs.Homing.{HasComeHome, FlightsThatComeHomeAreRound}
use Rattle.sift_flight.specs.Told.{told, no_account, accounts_of, IsLogged}
use Rattle.sift_flight.specs.declared.flight.Flight.{Flight as TheFlight}
use Rattle.sift_core.specs.Storms.{IsRoundByRogues}
use Rattle.sift_threads.specs.Flown.{HaveFlown, HasFlown}
use Rattle.sift_threads.specs.declared.flight.Flown.{Flown}

-- an item of a list that has one
pub some_item : {A : Type 0} (xs : List A) (n : ℕ) → n < length xs → A
some_item [] n low = absurd (omega arith)
some_item (x ∷ xs) n low = x

module _ {R : Type 0} (allows : R → Call → R → Type 0) (d : MissionData) (fit : PartsFit d) (e : Ether) (xs : List R) (eight : length xs ≡ unit_limit)
    (fl : Flown R) (flew : HaveFlown allows d e xs fl) (flight : TheFlight) (accounts : flight.accounts ≡ fl.accounts)
    (landed : HaveLanded d.layout d.frames fl.tokens.items flight.journals.items) where
  abbrev m : FlownMission
  m = flown d

  -- the core in which the flight has landed
  abbrev core : Core
  core = record { words = landed.words; of = conduct_at fl.tokens.items }

  module _ (u : ℕ) (there : has m.units u ≡ true) where
    low : u < d.units
    low = unit_low d.units u there

    inside : u < d.layout.units
    inside = rw fit.layout.units low

    -- its list of accounts
    abbrev list : Vec TheAccount Global
    list = slice_index_or fl.accounts.items u (some_item fl.accounts.items u (rw flew.lists low))

    flew_unit : HasFlown allows d u (slice_index_or xs u (some_item xs 0 (omega arith))) (conduct_at fl.tokens.items u) list.items
        (slice_index_or fl.rogues.items u (some_item xs 0 (omega arith)))
    flew_unit = flew.each u (some_item fl.accounts.items u (rw flew.lists low)) (some_item xs 0 (omega arith)) low

    accounts_are : accounts_of flight u ≡ map account_of list.items
    accounts_are = ap (λ (lists : Vec (Vec TheAccount Global) Global). slice_index_or (map (λ (a : Vec TheAccount Global). map account_of a.items) lists.items) u []) accounts
        ∙ get_or-map (λ (a : Vec TheAccount Global). map account_of a.items) fl.accounts.items u (some_item fl.accounts.items u (rw flew.lists low)) []
        (rw flew.lists low)

    kept : BoardKeeps m u (conduct_at fl.tokens.items u) ((told m flight).account u) m.frames
    kept = subst (λ (list : List Account). BoardKeeps m u (conduct_at fl.tokens.items u) (λ f. slice_index_or list f no_account) m.frames)
        (sym accounts_are) (flew_unit.kept no_account)

    count : length (accounts_of flight u) ≡ frames_before (m.storm u) m.frames
    count = ap length accounts_are ∙ (length-map list.items account_of ∙ flew_unit.count)

  home : HasComeHome m (ranges_of d.layout d.frames) core flight
  home = record {
    lawful = landed.lawful;
    places = record { units = inside; slots = omega arith };
    journals = λ u there. (landed.each u no_pages (inside u there)).words;
    boards = kept;
  }

  -- a flight of units that have flown and landed is round over the strays that their rogues gave
  pub landed_round : FlightsThatComeHomeAreRound → Fits m → IsRoundByRogues allows d xs flight fl.rogues.items
  landed_round law fits = record {
    strays = λ u. (conduct_at fl.tokens.items u).strays;
    round = law m (ranges_of d.layout d.frames) core flight fits home;
    long = flew.long;
    storms = λ u r storm low is. ((flew.each u (some_item fl.accounts.items u (rw flew.lists low)) r low).storm storm is).rogue;
    calm = λ u r low none. ((flew.each u (some_item fl.accounts.items u (rw flew.lists low)) r low).calm none).rogue;
    beyond = flew.beyond;
  }

  units_long : length m.units ≡ d.units
  units_long = length-range_with_len 0 d.units

  -- a flight that has landed has a journal for each unit, and an account for each frame before the unit turned
  pub landed_logged : IsLogged m d.layout flight
  landed_logged = record {
    journals = landed.count ∙ (fit.layout.units ∙ sym units_long);
    journal = λ u there. (landed.each u no_pages (inside u there)).owner;
    lists = ap (λ (lists : Vec (Vec TheAccount Global) Global). length lists.items) accounts ∙ (flew.lists ∙ sym units_long);
    accounts = count;
  }

-- what was landed of an ether that was made for a layout and a number of frames is of these
pub landed_as_made : (e : Ether) (tokens : List Token) (layout : Layout) (frames : ℕ) (back : List Token) (journals : List Pages) →
    IsMade e tokens layout frames → HaveLanded e.grid.layout e.grid.frames back journals → HaveLanded layout frames back journals
landed_as_made e tokens layout frames back journals made landed =
    subst (λ (x : Layout × ℕ). HaveLanded x.0 x.1 back journals) (λ i. (made.layout_is i, made.frames_are i)) landed
