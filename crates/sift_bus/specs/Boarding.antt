-- Units at their seats, each with three buses before its port.
use Rattle.std.specs.Prelude.{◌≡◌, ℕ, List, [], ◌∷◌, ⊤}
use Rattle.sift_base.specs.declared.slots.Layout.{Layout}
use Rattle.sift_buffer.specs.Tables.{ranges_of}
use Rattle.sift_buffer.specs.Views.{View, fresh_view}
use Rattle.sift_mission.specs.Data.{FlownMission}
use Rattle.sift_unit.specs.Boards.{Drives}
use Rattle.sift_ether.specs.Seating.{IsSeatOf}
use Rattle.sift_ether.specs.Seats.{view_of}
use Rattle.sift_ether.specs.Tokens.{IsTokenOf, token_view}
use Rattle.sift_ether.specs.declared.ether.Ether.{Ether}
use Rattle.sift_ether.specs.declared.seat.EtherSeat.{EtherSeat}
use Rattle.sift_ether.specs.declared.seat.Token.{Token}
use Rattle.sift_bus_port.specs.Links.{first_link, link_of}
use Rattle.sift_bus_port.specs.Logs.{blank_log}
use Rattle.sift_bus.specs.declared.flying.Flyer.{Flyer}
use Rattle.sift_bus_port.specs.declared.port.BusPort.{BusPort}

-- a unit at its seat, with three buses before its port
abbrev pub Boarded : Type 0 → Type 0
Boarded B = Flyer (BusPort EtherSeat B)

-- the unit as a port
abbrev pub seat_view : {B : Type 0} → Boarded B → View
seat_view x = view_of x.port.port

-- the ether has the layout and the frames
pub record IsEtherFor (e : Ether) (layout : Layout) (frames : ℕ) : Type 0 where
  pub layout_is : e.grid.layout ≡ layout
  pub frames_are : e.grid.frames ≡ frames

-- the token is the ether's, of this unit, which has done nothing
pub record IsNewToken (e : Ether) (u : ℕ) (t : Token) : Type 0 where
  pub of : IsTokenOf e t
  pub unit : t.unit ≡ u
  pub view : token_view e t ≡ fresh_view (ranges_of e.grid.layout e.grid.frames) u

-- the token's unit sits at the ether with a board that may step, and nothing came over its buses yet, of which the faulty one is this
pub record IsBoarded {B : Type 0} (m : FlownMission) (e : Ether) (faulty : ℕ) (t : Token) (bus : B) (x : Boarded B) : Type 0 where
  pub drives : Drives m x.seat.board (seat_view x)
  pub seat : IsSeatOf e t x.port.port
  pub link : link_of view_of x.port ≡ first_link t.unit faulty bus (blank_log e.grid.layout e.grid.frames)

-- so do the tokens' units one by one, each with its own bus
abbrev pub AreBoarded : {B : Type 0} → FlownMission → Ether → ℕ → List Token → List B → List (Boarded B) → Type 0
AreBoarded m e faulty [] [] [] = ⊤
AreBoarded m e faulty [] [] (x ∷ xs) = ⊥
AreBoarded m e faulty [] (b ∷ bs) xs = ⊥
AreBoarded m e faulty (t ∷ ts) [] xs = ⊥
AreBoarded m e faulty (t ∷ ts) (b ∷ bs) [] = ⊥
AreBoarded m e faulty (t ∷ ts) (b ∷ bs) (x ∷ xs) = IsBoarded m e faulty t b x × AreBoarded m e faulty ts bs xs
