-- All units of an ether that have come home have flown.
use Rattle.std.proofs.Common.{◌≡◌, ℕ, ◌+◌, ◌-◌, ◌<◌, ◌≤◌, List, ◌++◌, Vec, length, length-append, drop, length-drop, slice_index_or, sym, ap, ◌∙◌, refl, subst, arith}
use Rattle.std.specs.List.{AllZip}
use Rattle.std.specs.declared.alloc.Global.{Global}
use Rattle.std.proofs.lemmas.List.{append-nil, get_or-append_right, get_or-drop, get_or-map, get_or_append_left, length-map}
use Rattle.std.proofs.lemmas.List.Elements.{AllZip-get_or, length_all_zip}
use Rattle.sift_buffer.specs.Conduct.{fresh as fresh_conduct}
use Rattle.sift_buffer.specs.Tables.{ranges_of}
use Rattle.sift_buffer.specs.Views.{View, fresh_view}
use Rattle.sift_mission.specs.Parts.{data_of, flown_of}
use Rattle.sift_mission.specs.PartsFit.{PartsFit}
use Rattle.sift_mission.specs.declared.mission.MissionParts.{MissionParts}
use Rattle.sift_conduct.specs.declared.account.Account.{Account as TheAccount}
use Rattle.sift_rogue.specs.Storms.{Call}
use Rattle.sift_unit.specs.Down.{DownLaw}
use Rattle.sift_unit.specs.Desk.{Desk}
use Rattle.sift_seat.specs.Seats.{AreNewSeats, IsNewSeat, IsManned, IsDone, Came as CameAt}
use Rattle.sift_seat.specs.declared.seat.Seat.{Seat}
use Rattle.sift_ether.specs.Following.{itself}
use Rattle.sift_ether.specs.Seating.{ComesBack, TokensComeBack}
use Rattle.sift_ether.specs.Seats.{Follows, view_of}
use Rattle.sift_ether.specs.Tokens.{IsMade, conduct_at, conduct_of}
use Rattle.sift_ether.specs.declared.ether.Ether.{Ether}
use Rattle.sift_ether.specs.declared.seat.EtherSeat.{EtherSeat}
use Rattle.sift_ether.specs.declared.seat.Token.{Token}
use Rattle.sift_threads.specs.Crews.{IsSeated, AreSeated, AreLeft, ComeHome}
use Rattle.sift_threads.specs.Flown.{HasFlown, HaveFlown}
use Rattle.sift_threads.specs.Manned.{place_of, IsHomeAt, Came, Comes}
use Rattle.sift_threads.specs.declared.flight.Flown.{Flown}
use Rattle.sift_threads.specs.declared.seating.Manned.{Manned}
use Rattle.sift_threads.proofs.Homing.{came_first, flown_as}
use Rattle.sift_threads.proofs.Landing.{some_item}

module _ {R : Type 0} (allows : R → Call → R → Type 0) (down : DownLaw) (back : TokensComeBack) (parts : MissionParts) (fit : PartsFit (data_of parts))
    (e : Ether) (home : List (Manned EtherSeat R)) (beyond : List R) (fl : Flown R) (left : AreLeft home beyond fl)
    (tokens : List Token) (seats : List Seat) (rogues : List R) (places : List (Manned EtherSeat R)) (made : IsMade e tokens parts.layout parts.frames)
    (new : AreNewSeats (flown_of parts) parts.units seats) (seated : AreSeated parts e tokens seats rogues parts.units places)
    (enough : parts.units ≤ length rogues) (rest : beyond ≡ drop parts.units rogues)
    (came : AllZip (λ x y. Comes Follows allows x y × IsHomeAt view_of y) places home) where
  -- what holds of a unit before and after
  abbrev Pair : Manned EtherSeat R → Manned EtherSeat R → Type 0
  Pair x y = Comes Follows allows x y × IsHomeAt view_of y

  long : length home ≡ parts.units
  long = sym (length_all_zip Pair places home came) ∙ seated.count

  units : e.grid.layout.units ≡ parts.units
  units = ap (λ l. l.units) made.layout_is ∙ fit.layout.units

  tokens_long : length fl.tokens.items ≡ parts.units
  tokens_long = left.left.count ∙ long

  module _ (u : ℕ) (low : u < parts.units) (d : Token) where
    abbrev x : Manned EtherSeat R
    x = slice_index_or places u (some_item places u (rw seated.count low))

    abbrev y : Manned EtherSeat R
    y = slice_index_or home u (some_item home u (rw long low))

    abbrev t : Token
    t = slice_index_or tokens u d

    abbrev t' : Token
    t' = slice_index_or fl.tokens.items u d

    sits : (r : R) → IsSeated parts e t (slice_index_or seats u x.seat) (slice_index_or rogues u r) x
    sits r = seated.each u d x.seat r (some_item places u (rw seated.count low)) low

    seat_new : IsNewSeat (flown_of parts) u x.seat
    seat_new = subst (λ (s : Seat). IsNewSeat (flown_of parts) u s) (sym (sits x.rogue).seat) (new.new u x.seat low)

    unit_is : x.seat.board.unit ≡ u
    unit_is = ap (λ (k : Desk). k.unit) seat_new.board.desk

    pair : Pair x y
    pair = AllZip-get_or Pair places home u (some_item places u (rw seated.count low)) (some_item home u (rw long low)) came (rw seated.count low)

    came_y : Came Follows allows x y
    came_y = pair.0 x (record { mission = refl; seat = came_first Follows allows (data_of x.mission.now) itself (place_of x) seat_new.left })

    mission_is : y.mission.now ≡ parts
    mission_is = came_y.mission ∙ (sits x.rogue).mission

    -- the same by the parts of which the ether was made
    came_by : CameAt Follows allows (data_of parts) (place_of x) (place_of y)
    came_by = subst (λ (p : MissionParts). CameAt Follows allows (data_of p) (place_of x) (place_of y)) (sits x.rogue).mission came_y.seat

    manned_by : IsManned (data_of parts) (view_of y.port) y.seat
    manned_by = subst (λ (p : MissionParts). IsManned (data_of p) (view_of y.port) y.seat) mission_is pair.1.0

    done_by : IsDone (data_of parts) (view_of y.port) y.seat
    done_by = subst (λ (p : MissionParts). IsDone (data_of p) (view_of y.port) y.seat) mission_is pair.1.1

    comes_back : ComesBack e t y.port t'
    comes_back = back e t t' x.port y.port came_by.strays (sits x.rogue).port came_by.port (left.left.back u (some_item home u (rw long low)) d (rw long low))

    fresh : view_of x.port ≡ fresh_view (ranges_of parts.layout parts.frames) u
    fresh = (sits x.rogue).port.view ∙ made.new u d (rw fit.layout.units low)

    strays_are : (view_of y.port).conduct.strays ≡ came_by.strays
    strays_are = came_by.port.strays_are
        ∙ (ap (λ (v : View). came_by.strays ++ v.conduct.strays) fresh ∙ append-nil came_by.strays)

    conduct_back : (view_of y.port).conduct ≡ conduct_at fl.tokens.items u
    conduct_back = sym (ap (λ (v : View). v.conduct) comes_back.view) ∙ sym (get_or-map conduct_of fl.tokens.items u d fresh_conduct (rw tokens_long low))

    accounts_back : (list : Vec TheAccount Global) → y.seat.board.accounts ≡ slice_index_or fl.accounts.items u list
    accounts_back list = sym (ap (λ (lists : List (Vec TheAccount Global)). slice_index_or lists u list) left.left.accounts_are
        ∙ get_or-map (λ (s : Manned EtherSeat R). s.seat.board.accounts) home u (some_item home u (rw long low)) list (rw long low))

    own_long : length left.own ≡ parts.units
    own_long = ap length left.left.rogues_are ∙ (length-map home (λ (s : Manned EtherSeat R). s.rogue) ∙ long)

    rogue_back : (r : R) → y.rogue ≡ slice_index_or fl.rogues.items u r
    rogue_back r = sym (ap (λ (rs : List R). slice_index_or rs u r) left.rogues ∙ (get_or_append_left left.own beyond r u (rw own_long low)
        ∙ (ap (λ (rs : List R). slice_index_or rs u r) left.left.rogues_are
        ∙ get_or-map (λ (s : Manned EtherSeat R). s.rogue) home u (some_item home u (rw long low)) r (rw long low))))

    flown_unit : (list : Vec TheAccount Global) (r : R) → HasFlown allows (data_of parts) u (slice_index_or rogues u r) (conduct_at fl.tokens.items u)
        (slice_index_or fl.accounts.items u list).items (slice_index_or fl.rogues.items u r)
    flown_unit list r =
        subst (λ (z : R). HasFlown allows (data_of parts) u (slice_index_or rogues u r) (conduct_at fl.tokens.items u) (slice_index_or fl.accounts.items u list).items z)
        (rogue_back r)
        (subst (λ (a : Vec TheAccount Global). HasFlown allows (data_of parts) u (slice_index_or rogues u r) (conduct_at fl.tokens.items u) a.items y.rogue)
        (accounts_back list)
        (flown_as view_of Follows allows down (data_of parts) (place_of x) (place_of y) came_by manned_by done_by strays_are u (slice_index_or rogues u r)
        (conduct_at fl.tokens.items u) unit_is (sits r).rogue conduct_back))

  own_count : length left.own ≡ parts.units
  own_count = ap length left.left.rogues_are ∙ (length-map home (λ (s : Manned EtherSeat R). s.rogue) ∙ long)

  beyond_are : (u : ℕ) (r : R) → parts.units ≤ u → slice_index_or fl.rogues.items u r ≡ slice_index_or rogues u r
  beyond_are u r high =
      let at : parts.units + (u - parts.units) ≡ u = omega arith in
      ap (λ (rs : List R). slice_index_or rs u r) left.rogues
      ∙ (get_or-append_right left.own beyond parts.units u r own_count high
      ∙ (ap (λ (rs : List R). slice_index_or rs (u - parts.units) r) rest
      ∙ (get_or-drop parts.units rogues (u - parts.units) r ∙ ap (λ (i : ℕ). slice_index_or rogues i r) at)))

  pub have_flown : HaveFlown allows (data_of parts) e rogues fl
  have_flown = record {
    tokens = record {
      count = tokens_long ∙ sym units;
      of = λ u d low. (comes_back u (rw (sym units) low) d).of;
      unit = λ u d low. (comes_back u (rw (sym units) low) d).unit ∙ made.all.unit u d low;
    };
    lists = ap length left.left.accounts_are ∙ (length-map home (λ (s : Manned EtherSeat R). s.seat.board.accounts) ∙ long);
    long = ap length left.rogues ∙ (length-append left.own beyond ∙ (let c = own_count in let k : length beyond ≡ length rogues - parts.units =
        ap length rest ∙ length-drop parts.units rogues in omega arith));
    each = λ u list r low. flown_unit u low (some_item fl.tokens.items u (rw tokens_long low)) list r;
    beyond = beyond_are;
  }

-- where all units of a new ether came home by their own steps, they have flown, by what is left of their seats
pub come_home : {R : Type 0} (allows : R → Call → R → Type 0) → DownLaw → TokensComeBack → (parts : MissionParts) → PartsFit (data_of parts) →
    (e : Ether) (home : List (Manned EtherSeat R)) (beyond : List R) (fl : Flown R) → AreLeft home beyond fl → ComeHome allows parts e home beyond fl
come_home allows down back parts fit e home beyond fl left tokens seats rogues places made new seated enough rest came =
    have_flown allows down back parts fit e home beyond fl left tokens seats rogues places made new seated enough rest came

-- as many come home as took a seat
pub home_long : {X : Type 0} (P : X → X → Type 0) (xs ys : List X) (n : ℕ) → AllZip P xs ys → length xs ≡ n → length ys ≡ n
home_long P xs ys n zip long = sym (length_all_zip P xs ys zip) ∙ long
