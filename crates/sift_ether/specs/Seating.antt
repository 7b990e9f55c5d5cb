-- A token at its seat, and the token that a seat gives back.
use Rattle.std.specs.Prelude.{◌≡◌, List}
use Rattle.sift_buffer.specs.Conduct.{Stray}
use Rattle.sift_ether.specs.declared.ether.Ether.{Ether}
use Rattle.sift_ether.specs.declared.seat.EtherSeat.{EtherSeat}
use Rattle.sift_ether.specs.declared.seat.Token.{Token}
use Rattle.sift_ether.specs.Seats.{view_of, Follows}
use Rattle.sift_ether.specs.Tokens.{IsAt, IsTokenOf, token_view, view_under}

-- the seat of a token at this ether
pub record IsSeatOf (e : Ether) (t : Token) (s : EtherSeat) : Type 0 where
  pub words : s.reach.words.now ≡ e.table.shared
  pub grid : s.grid ≡ e.grid
  pub seat : s.reach.seat ≡ t.seat
  pub unit : s.unit ≡ t.unit
  pub acts : s.acts ≡ t.acts
  pub view : view_of s ≡ token_view e t

-- the token that a seat gives back
pub record IsTokenBack (s : EtherSeat) (t : Token) : Type 0 where
  pub seat : t.seat ≡ s.reach.seat
  pub unit : t.unit ≡ s.unit
  pub acts : t.acts ≡ s.acts
  pub at : IsAt s.reach.words.now.table_id s.grid.layout s.grid.frames t
  pub view : view_under s.grid.layout s.grid.frames t ≡ view_of s

-- it is the ether's, and of the unit of t; it has what the seat had
pub record ComesBack (e : Ether) (t : Token) (s : EtherSeat) (t' : Token) : Type 0 where
  pub of : IsTokenOf e t'
  pub unit : t'.unit ≡ t.unit
  pub view : token_view e t' ≡ view_of s

-- whatever was done at a seat, the token that it gives back is of its ether and unit, and has what the seat had
abbrev pub TokensComeBack : Type 0
TokensComeBack = (e : Ether) (t t' : Token) (s s' : EtherSeat) (strays : List Stray) → IsSeatOf e t s → Follows s strays s' → IsTokenBack s' t' → ComesBack e t s' t'
