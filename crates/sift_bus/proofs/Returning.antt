-- Units that have come home over three buses.
use Rattle.std.proofs.Common.{◌≡◌, ℕ, zero, suc, ◌*◌, ◌<◌, ◌≤◌, List, [], ◌∷◌, length, map, slice_index_or, Bool, true, false, Option, Some, None, option_map, if◌then◌else◌, All, Vec, Global, refl, sym, ap, ◌∙◌, subst, arith}
use Rattle.std.specs.List.{AllZip}
use Rattle.std.specs.Prelude.{option_and_then}
use Rattle.std.proofs.lemmas.List.{get_or-map, length-map}
use Rattle.std.proofs.lemmas.List.FromFn.{length-range_with_len}
use Rattle.sift_base.specs.Units.{has}
use Rattle.sift_base.specs.declared.slots.Layout.{Layout}
use Rattle.sift_config.specs.Config.{first_units}
use Rattle.sift_buffer.specs.Conduct.{Conduct, Hearing, fresh}
use Rattle.sift_buffer.specs.Journals.{Pages, HasWordsOf, no_pages}
use Rattle.sift_buffer.specs.Tables.{ranges_of}
use Rattle.sift_buffer.specs.Views.{View}
use Rattle.sift_config.specs.laws.FirstUnits.{low_unit, unit_low}
use Rattle.sift_ether.specs.Landed.{HaveLanded}
use Rattle.sift_ether.specs.Seating.{IsTokenBack, TokensComeBack, ComesBack}
use Rattle.sift_ether.specs.Seats.{view_of, Follows}
use Rattle.sift_ether.specs.Tokens.{AreTokensOf, IsMade, IsTokenOf, conduct_at, conduct_of}
use Rattle.sift_ether.specs.declared.ether.Ether.{Ether}
use Rattle.sift_ether.specs.declared.seat.Token.{Token}
use Rattle.sift_mission.specs.Data.{MissionData, FlownMission}
use Rattle.sift_mission.specs.Fits.{Fits}
use Rattle.sift_mission.specs.Flown.{flown}
use Rattle.sift_mission.specs.PartsFit.{PartsFit}
use Rattle.sift_mission.specs.Slots.{calls, heard_at, stamp_of, turned_by}
use Rattle.sift_mission.specs.laws.Configs.{units_fit}
use Rattle.sift_conduct.specs.Conduct.{Account, account_of}
use Rattle.sift_conduct.specs.declared.account.Account.{Account as TheAccount}
use Rattle.sift_conduct.specs.Acts.{BoardKeeps, stamp_and_moment}
use Rattle.sift_conduct.specs.Frames.{frames_before}
use Rattle.sift_flight.specs.Flight.{config_of, Strays, HasNoStorms, IsRound}
use Rattle.sift_flight.specs.Homing.{HasComeHome, FlightsThatComeHomeAreRound}
use Rattle.sift_flight.specs.Landing.{HasPlacesFor, strays_in}
use Rattle.sift_flight.specs.Told.{told, journal_of, accounts_of, no_account, IsLogged}
use Rattle.sift_flight.specs.declared.flight.Flight.{Flight as TheFlight}
use Rattle.sift_unit.specs.Boards.{desk_of, Drives}
use Rattle.sift_unit.specs.Down.{DownLaw, HasFlownAll}
use Rattle.sift_bus_port.specs.Buses.{Carriage}
use Rattle.sift_bus_port.specs.Flown.{IsLogOf, AreLogsOf}
use Rattle.sift_bus_port.specs.Links.{GoesOn, Link, first_link, link_of}
use Rattle.sift_bus_port.specs.Logs.{blank_log, log_of}
use Rattle.sift_bus_port.specs.Telling.{LogsTellWhatWasHeard}
use Rattle.sift_bus_port.specs.declared.log.BusLog.{BusLog}
use Rattle.sift_bus_port.proofs.lemmas.Ranges.{same_ranges}
use Rattle.sift_bus.specs.Boarding.{AreBoarded, Boarded, IsBoarded, seat_view}
use Rattle.sift_bus.proofs.Seating.{places_for}
use Rattle.sift_bus.proofs.SeatsTaken.{boarded_long, boarded_at}
use Rattle.sift_bus.proofs.Sides.{side_at, side_long}

-- what stands at a place of a list, whatever stands for places past its end
there_is : {X : Type 0} (xs : List X) (i : ℕ) → i < length xs → (x : X) × ((d : X) → slice_index_or xs i d ≡ x)
there_is [] i low = absurd (omega arith)
there_is (x ∷ xs) zero low = (x, λ d. refl)
there_is (x ∷ xs) (suc i) low = there_is xs i (omega arith)

-- a word that was heard where it was called
word_heard : (o : Option Hearing) (b : Bool) (s : ℕ × ℕ) (w : Option ℕ) → option_map stamp_and_moment o ≡ (if b then Some s else None) →
    w ≡ option_and_then (λ act. act.word) o → option_map (λ act. act.word) o ≡ (if b then Some w else None)
word_heard None true s w called is = absurd (cc)
word_heard None false s w called is = refl
word_heard (Some act) true s w called is = ap (λ (v : Option ℕ). Some v) (sym is)
word_heard (Some act) false s w called is = absurd (cc)

module _ {B : Type 0} (allows : B → Carriage → B → Type 0) where
  -- a unit's seat follows the one that it took, and words came over its buses
  abbrev pub Flew : Boarded B → Boarded B → Type 0
  Flew x y = Follows x.port.port [] y.port.port × GoesOn allows (link_of view_of x.port) (link_of view_of y.port)

  -- all units have taken their seats, flown, and left them
  pub record HaveFlown (m : FlownMission) (e : Ether) (layout : Layout) (faulty : ℕ) (tokens : List Token) (buses : List B) (xs ys : List (Boarded B))
      (back : List Token) : Type 0 where
    pub made : IsMade e tokens layout m.frames
    pub count : length buses ≡ layout.units
    pub boarded : AreBoarded m e faulty tokens buses xs
    pub flew : AllZip Flew xs ys
    pub drives : All (λ y. Drives m y.seat.board (seat_view y)) ys
    pub down : All (λ y. m.frames * m.period ≤ (seat_view y).conduct.progress) ys
    pub left : AllZip (λ y t. IsTokenBack y.port.port t) ys back

  module _ (m : FlownMission) (e : Ether) (layout : Layout) (faulty : ℕ) (tokens : List Token) (buses : List B) (xs ys : List (Boarded B))
      (back : List Token) (have : HaveFlown m e layout faulty tokens buses xs ys back) where
    long_xs : length xs ≡ layout.units
    long_xs = (boarded_long m e faulty tokens buses xs have.boarded).1 ∙ have.count

    pub long_ys : length ys ≡ layout.units
    long_ys = side_long Flew xs ys have.flew ∙ long_xs

    pub long_back : length back ≡ layout.units
    long_back = side_long (λ y t. IsTokenBack y.port.port t) ys back have.left ∙ long_ys

    units_are : e.grid.layout.units ≡ layout.units
    units_are = ap (λ (l : Layout). l.units) have.made.layout_is

    module _ (comes : TokensComeBack) (u : ℕ) (low : u < layout.units) where
      -- the unit: its token, its bus, as it took its seat, as it left it, and the token that came back
      pub t : Token
      t = (there_is tokens u (let c = have.made.all.count in omega (arith, c, units_are, low))).0

      t_is : slice_index_or tokens u t ≡ t
      unfolding t there_is
      t_is = (there_is tokens u (let c = have.made.all.count in omega (arith, c, units_are, low))).1 t

      pub bus : B
      bus = (there_is buses u (omega (arith, have.count, low))).0

      pub bus_is : (d : B) → slice_index_or buses u d ≡ bus
      unfolding bus there_is
      bus_is = (there_is buses u (omega (arith, have.count, low))).1

      -- the unit as it took its seat
      pub x : Boarded B
      x = (there_is xs u (omega (arith, long_xs, low))).0

      x_is : slice_index_or xs u x ≡ x
      unfolding x there_is
      x_is = (there_is xs u (omega (arith, long_xs, low))).1 x

      -- the unit as it left its seat
      pub y : Boarded B
      y = (there_is ys u (omega (arith, long_ys, low))).0

      pub y_is : slice_index_or ys u y ≡ y
      unfolding y there_is
      y_is = (there_is ys u (omega (arith, long_ys, low))).1 y

      pub r : Token
      r = (there_is back u (omega (arith, long_back, low))).0

      r_is : (d : Token) → slice_index_or back u d ≡ r
      unfolding r there_is
      r_is = (there_is back u (omega (arith, long_back, low))).1

      sat : IsBoarded m e faulty t bus x
      sat = subst (λ (z : Token). IsBoarded m e faulty z bus x) t_is (subst (λ (z : B). IsBoarded m e faulty (slice_index_or tokens u t) z x) (bus_is bus)
          (subst (λ (z : Boarded B). IsBoarded m e faulty (slice_index_or tokens u t) (slice_index_or buses u bus) z) x_is
          (boarded_at m e faulty tokens buses xs u t bus x have.boarded (omega (arith, have.count, low)))))

      -- the seat that the unit left follows the one that it took, and words came over its buses
      pub flew : Flew x y
      flew = subst (λ (z : Boarded B). Flew z y) x_is (subst (λ (z : Boarded B). Flew (slice_index_or xs u x) z) y_is
          (side_at Flew xs ys u x y have.flew (omega (arith, long_xs, low))))

      -- the board that the unit left drives on its port
      pub drives : Drives m y.seat.board (seat_view y)
      drives = subst (λ (z : Boarded B). Drives m z.seat.board (seat_view z)) y_is (have.drives u y (omega (arith, long_ys, low)))

      -- the unit has come to the end of the last frame
      pub down : m.frames * m.period ≤ (seat_view y).conduct.progress
      down = subst (λ (z : Boarded B). m.frames * m.period ≤ (seat_view z).conduct.progress) y_is (have.down u y (omega (arith, long_ys, low)))

      -- its token comes back
      home : ComesBack e t y.port.port r
      home = comes e t r x.port.port y.port.port [] sat.seat flew.0
          (subst (λ (s : Token). IsTokenBack y.port.port s) (r_is r) (subst (λ (z : Boarded B). IsTokenBack z.port.port (slice_index_or back u r)) y_is
          (side_at (λ z s. IsTokenBack z.port.port s) ys back u y r have.left (omega (arith, long_ys, low)))))

      unit_of : t.unit ≡ u
      unit_of = sym (ap (λ (s : Token). s.unit) t_is) ∙ have.made.all.unit u t (omega (arith, units_are, low))

      pub token_of : (d : Token) → IsTokenOf e (slice_index_or back u d)
      token_of d = subst (λ (s : Token). IsTokenOf e s) (sym (r_is d)) home.of

      pub token_unit : (d : Token) → (slice_index_or back u d).unit ≡ u
      token_unit d = ap (λ (s : Token). s.unit) (r_is d) ∙ (home.unit ∙ unit_of)

      -- how it conducted itself
      pub conduct_is : conduct_at back u ≡ (seat_view y).conduct
      conduct_is = get_or-map conduct_of back u r fresh (omega (arith, long_back, low))
          ∙ (ap conduct_of (r_is r) ∙ ap (λ (v : View). v.conduct) home.view)

      pub board_unit : y.seat.board.unit ≡ u
      board_unit = sym drives.unit ∙ (ap (λ (v : View). v.unit) (sym home.view) ∙ (r.unit_is ∙ (home.unit ∙ unit_of)))

      -- what came over its buses
      pub went : GoesOn allows (first_link u faulty bus (blank_log layout m.frames)) (link_of view_of y.port)
      went = subst (λ (z : Link B). GoesOn allows z (link_of view_of y.port)) (sat.link
          ∙ (λ i. first_link (unit_of i) faulty bus (blank_log (have.made.layout_is i) (have.made.frames_are i)))) flew.1

    -- all tokens came back
    pub all_back : TokensComeBack → AreTokensOf e back
    all_back comes = record {
      count = long_back ∙ sym units_are;
      of = λ u d low. token_of comes u (omega (arith, units_are, low)) d;
      unit = λ u d low. token_unit comes u (omega (arith, units_are, low)) d;
    }

    module _ (fl : TheFlight) (comes : TokensComeBack) (law : DownLaw) (landed : HaveLanded layout m.frames back fl.journals.items)
        (accounts : fl.accounts.items ≡ map (λ z. z.seat.board.accounts) ys) (units : m.units ≡ first_units layout.units) where
      below : (u : ℕ) → has m.units u ≡ true → u < layout.units
      below u there = unit_low layout.units u (rw (← units) there)

      above : (u : ℕ) → u < layout.units → has m.units u ≡ true
      above u low = rw units (low_unit layout.units u low)

      module _ (u : ℕ) (low : u < layout.units) where
        abbrev z : Boarded B
        z = y comes u low

        -- the accounts of the unit
        accounts_are : accounts_of fl u ≡ (desk_of z.seat.board).accounts
        accounts_are =
            ap (λ lists. slice_index_or (map (λ (list : Vec TheAccount Global). map account_of list.items) lists) u []) accounts
            ∙ (get_or-map (λ (list : Vec TheAccount Global). map account_of list.items) (map (λ (w : Boarded B). w.seat.board.accounts) ys) u z.seat.board.accounts []
            (omega (arith, length-map ys (λ (w : Boarded B). w.seat.board.accounts), long_ys, low))
            ∙ ap (λ (list : Vec TheAccount Global). map account_of list.items)
            (get_or-map (λ (w : Boarded B). w.seat.board.accounts) ys u z z.seat.board.accounts (omega (arith, long_ys, low))
            ∙ ap (λ (w : Boarded B). w.seat.board.accounts) (y_is comes u low)))

        flown_all : HasFlownAll m z.seat.board (seat_view z)
        flown_all = law m z.seat.board (seat_view z) (drives comes u low) (down comes u low)

        -- its board has kept to its conduct
        kept_at_seat : BoardKeeps m u (seat_view z).conduct ((told m fl).account u) m.frames
        kept_at_seat = subst (λ (v : ℕ). BoardKeeps m v (seat_view z).conduct ((told m fl).account u) m.frames) (board_unit comes u low)
            (subst (λ (list : List Account). BoardKeeps m z.seat.board.unit (seat_view z).conduct (λ f. slice_index_or list f no_account) m.frames)
            (sym accounts_are) (flown_all.kept no_account))

        words_at_seat : HasWordsOf (seat_view z).conduct (journal_of fl u)
        words_at_seat = subst (λ (d : Conduct). HasWordsOf d (journal_of fl u)) (conduct_is comes u low) (landed.each u no_pages low).words

        -- its log
        log_is_of : HasNoStorms m → LogsTellWhatWasHeard allows →
            IsLogOf allows m (told m fl) layout faulty u (bus comes u low) (log_of z.port.log)
        log_is_of calm tell = record {
          last = link_of view_of z.port;
          carried = went comes u low;
          log_is = refl;
          ranges = same_ranges allows (first_link u faulty (bus comes u low) (blank_log layout m.frames)) (link_of view_of z.port) (went comes u low).words
              (went comes u low).carried;
          heard = λ f k p inside slot. word_heard ((seat_view z).conduct.heard f (m.number k) p) (calls m (config_of (told m fl) u f) k p u)
              (stamp_of m (config_of (told m fl) u f) f k, heard_at m (config_of (told m fl) u f) f k) ((told m fl).heard u f k p)
              ((kept_at_seat.acts f inside (record { unit = above u low; whole = ap (λ (o : Option ℕ). turned_by o f) (calm u (above u low)) })).heard k p slot)
              (rw slot (words_at_seat.heard f (m.number k) p));
          tells = (tell (first_link u faulty (bus comes u low) (blank_log layout m.frames)) (link_of view_of z.port) (went comes u low).words refl refl
              (went comes u low).carried).0;
        }

      -- the flight has come home
      pub come_home : HasPlacesFor m (ranges_of layout m.frames) →
          HasComeHome m (ranges_of layout m.frames) (record { words = landed.words; of = conduct_at back }) fl
      come_home places = record {
        lawful = landed.lawful;
        places = places;
        journals = λ u there. (landed.each u no_pages (below u there)).words;
        boards = λ u there. subst (λ (d : Conduct). BoardKeeps m u d ((told m fl).account u) m.frames) (sym (conduct_is comes u (below u there)))
            (kept_at_seat u (below u there));
      }

      -- it is logged
      pub logged : IsLogged m layout fl
      logged = record {
        journals = landed.count ∙ sym (ap length units ∙ length-range_with_len 0 layout.units);
        journal = λ u there. (landed.each u no_pages (below u there)).owner;
        lists = ap length accounts ∙ (length-map ys _ ∙ (long_ys ∙ sym (ap length units ∙ length-range_with_len 0 layout.units)));
        accounts = λ u there. ap length (accounts_are u (below u there))
            ∙ ((flown_all u (below u there)).count ∙ ap (λ (v : ℕ). frames_before (m.storm v) m.frames) (board_unit comes u (below u there)));
      }

      -- and there is a log for each unit
      pub logs_are : (logs : List BusLog) → logs ≡ map (λ w. w.port.log) ys → HasNoStorms m → LogsTellWhatWasHeard allows →
          AreLogsOf allows m (told m fl) layout faulty buses logs
      logs_are logs is calm tell = record {
        count = ap length is ∙ (length-map ys _ ∙ (long_ys ∙ sym have.count));
        each = λ u b l inside. let low : u < layout.units = omega (arith, have.count, inside) in
            subst (λ (c : B). IsLogOf allows m (told m fl) layout faulty u c (log_of (slice_index_or logs u l))) (sym (bus_is comes u low b))
            (subst (λ (k : BusLog). IsLogOf allows m (told m fl) layout faulty u (bus comes u low) (log_of k))
            (sym (ap (λ (ls : List BusLog). slice_index_or ls u l) is
            ∙ (get_or-map (λ (w : Boarded B). w.port.log) ys u (y comes u low) l (omega (arith, long_ys, low)) ∙ ap (λ (w : Boarded B). w.port.log) (y_is comes u low))))
            (log_is_of u low calm tell));
      }

  -- the landing is that of the mission's layout and frames
  pub landed_as : (e : Ether) (layout : Layout) (frames : ℕ) (back : List Token) (journals : List Pages) → e.grid.layout ≡ layout → e.grid.frames ≡ frames →
      HaveLanded e.grid.layout e.grid.frames back journals → HaveLanded layout frames back journals
  landed_as e layout frames back journals layout_is frames_are landed = subst (λ (n : ℕ). HaveLanded layout n back journals) frames_are
      (subst (λ (l : Layout). HaveLanded l e.grid.frames back journals) layout_is landed)

  -- the whole flight is round and logged, and these are its logs
  pub record IsToldWhole (d : MissionData) (faulty : ℕ) (buses : List B) (fl : TheFlight) (told_logs : List BusLog) : Type 0 where
    pub round : (strays : Strays) × IsRound (flown d) strays (told (flown d) fl)
    pub logged : IsLogged (flown d) d.layout fl
    pub logs : AreLogsOf allows (flown d) (told (flown d) fl) d.layout faulty buses told_logs

  -- what is told of the whole flight
  pub all_told : (d : MissionData) (e : Ether) (faulty : ℕ) (tokens : List Token) (buses : List B) (xs ys : List (Boarded B)) (back : List Token)
      (fl : TheFlight) (logs : List BusLog) → PartsFit d → Fits (flown d) → HasNoStorms (flown d) →
      HaveFlown (flown d) e d.layout faulty tokens buses xs ys back → HaveLanded d.layout d.frames back fl.journals.items →
      fl.accounts.items ≡ map (λ z. z.seat.board.accounts) ys → logs ≡ map (λ z. z.port.log) ys →
      TokensComeBack → DownLaw → FlightsThatComeHomeAreRound → LogsTellWhatWasHeard allows →
      IsToldWhole d faulty buses fl logs
  all_told d e faulty tokens buses xs ys back fl logs fit fits calm have landed accounts are comes law round tell = record {
    round = (
      strays_in (record { words = landed.words; of = conduct_at back }),
      round (flown d) (ranges_of d.layout d.frames) (record { words = landed.words; of = conduct_at back }) fl fits
          (come_home (flown d) e d.layout faulty tokens buses xs ys back have fl comes law landed accounts (units_fit d fit) (places_for d fit)),
    );
    logged = logged (flown d) e d.layout faulty tokens buses xs ys back have fl comes law landed accounts (units_fit d fit);
    logs = logs_are (flown d) e d.layout faulty tokens buses xs ys back have fl comes law landed accounts (units_fit d fit) logs are calm tell;
  }
