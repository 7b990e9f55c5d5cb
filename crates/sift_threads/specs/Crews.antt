-- The seats of all units of an ether, before and after their flight.
use Rattle.std.specs.Prelude.{◌≡◌, ℕ, ◌<◌, ◌≤◌, List, ◌++◌, Vec, length, map, drop, slice_index_or}
use Rattle.std.specs.List.{AllZip}
use Rattle.std.specs.declared.alloc.Global.{Global}
use Rattle.sift_mission.specs.Parts.{data_of, flown_of}
use Rattle.sift_mission.specs.declared.mission.MissionParts.{MissionParts}
use Rattle.sift_conduct.specs.declared.account.Account.{Account}
use Rattle.sift_rogue.specs.Storms.{Call}
use Rattle.sift_ether.specs.Seating.{IsSeatOf, IsTokenBack}
use Rattle.sift_ether.specs.Seats.{Follows, view_of}
use Rattle.sift_ether.specs.Tokens.{IsMade}
use Rattle.sift_ether.specs.declared.ether.Ether.{Ether}
use Rattle.sift_ether.specs.declared.seat.EtherSeat.{EtherSeat}
use Rattle.sift_ether.specs.declared.seat.Token.{Token}
use Rattle.sift_seat.specs.Seats.{AreNewSeats}
use Rattle.sift_seat.specs.declared.seat.Seat.{Seat}
use Rattle.sift_threads.specs.Flown.{HaveFlown}
use Rattle.sift_threads.specs.Manned.{IsHomeAt, Comes}
use Rattle.sift_threads.specs.declared.flight.Flown.{Flown}
use Rattle.sift_threads.specs.declared.seating.Manned.{Manned}

-- a unit of a mission is at the ether's seat of a token, with a seat and a rogue
pub record IsSeated {R : Type 0} (parts : MissionParts) (e : Ether) (t : Token) (s : Seat) (r : R) (x : Manned EtherSeat R) : Type 0 where
  pub mission : x.mission.now ≡ parts
  pub seat : x.seat ≡ s
  pub port : IsSeatOf e t x.port
  pub rogue : x.rogue ≡ r

-- so are so many units, from 0 on, each with what stands at its place of these lists
pub record AreSeated {R : Type 0} (parts : MissionParts) (e : Ether) (tokens : List Token) (seats : List Seat) (rogues : List R) (n : ℕ)
    (places : List (Manned EtherSeat R)) : Type 0 where
  pub count : length places ≡ n
  pub each : (u : ℕ) (t : Token) (s : Seat) (r : R) (x : Manned EtherSeat R) → u < n →
      IsSeated parts e (slice_index_or tokens u t) (slice_index_or seats u s) (slice_index_or rogues u r) (slice_index_or places u x)

-- what is left of seats: a token of each, in their order, their boards' accounts, and their rogues
pub record AreLeftOf {R : Type 0} (places : List (Manned EtherSeat R)) (tokens : List Token) (accounts : List (Vec Account Global)) (rogues : List R) : Type 0 where
  pub count : length tokens ≡ length places
  pub back : (u : ℕ) (x : Manned EtherSeat R) (t : Token) → u < length places → IsTokenBack (slice_index_or places u x).port (slice_index_or tokens u t)
  pub accounts_are : accounts ≡ map (λ x. x.seat.board.accounts) places
  pub rogues_are : rogues ≡ map (λ x. x.rogue) places

-- that, and behind their rogues those beyond
pub record AreLeft {R : Type 0} (places : List (Manned EtherSeat R)) (beyond : List R) (fl : Flown R) : Type 0 where
  pub own : List R
  pub left : AreLeftOf places fl.tokens.items fl.accounts.items own
  pub rogues : fl.rogues.items ≡ own ++ beyond

-- whatever they came of by their own steps, if these were all units at new seats of an ether on which nothing was done, they have flown
abbrev pub ComeHome : {R : Type 0} → (R → Call → R → Type 0) → MissionParts → Ether → List (Manned EtherSeat R) → List R → Flown R → Type 0
ComeHome {R} allows parts e home beyond fl = (tokens : List Token) (seats : List Seat) (rogues : List R) (places : List (Manned EtherSeat R)) →
    IsMade e tokens parts.layout parts.frames → AreNewSeats (flown_of parts) parts.units seats → AreSeated parts e tokens seats rogues parts.units places →
    parts.units ≤ length rogues → beyond ≡ drop parts.units rogues →
    AllZip (λ x y. Comes Follows allows x y × IsHomeAt view_of y) places home → HaveFlown allows (data_of parts) e rogues fl
