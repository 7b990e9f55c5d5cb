-- The tokens of an ether.
use Rattle.std.specs.Prelude.{◌≡◌, ◌<◌, ℕ, List, map, length, slice_index_or}
use Rattle.atomic_table.specs.Seated.{TableId}
use Rattle.sift_base.specs.declared.slots.Layout.{Layout}
use Rattle.sift_buffer.specs.Conduct.{Conduct, fresh}
use Rattle.sift_buffer.specs.Tables.{ranges_of}
use Rattle.sift_buffer.specs.Views.{View, fresh_view}
use Rattle.sift_ether.specs.declared.rule.Chronicle.{Chronicle}
use Rattle.sift_ether.specs.declared.ether.Ether.{Ether}
use Rattle.sift_ether.specs.declared.seat.Token.{Token}
use Rattle.sift_ether.specs.Deeds.{conduct_by, view_by}
use Rattle.sift_ether.specs.TableSeats.{chronicle_of}

-- what the table knows of the token's unit
abbrev pub chronicle_in : Token → Chronicle
chronicle_in t = chronicle_of t.seat.me

-- how the token's unit conducted itself
abbrev pub conduct_of : Token → Conduct
conduct_of t = conduct_by (chronicle_in t)

-- the token's unit as a port, under a layout and a number of frames
abbrev pub view_under : Layout → ℕ → Token → View
view_under layout frames t = view_by (ranges_of layout frames) (chronicle_in t)

-- and as a port of this ether
abbrev pub token_view : Ether → Token → View
token_view e t = view_under e.grid.layout e.grid.frames t

-- a token of the table with this name, which is of this layout and number of frames
pub record IsAt (table : TableId) (layout : Layout) (frames : ℕ) (t : Token) : Type 0 where
  pub table_is : t.seat.table_id ≡ table
  pub layout_is : t.acts.pages.layout ≡ layout
  pub frames_are : t.acts.pages.frames ≡ frames
  pub here : t.unit < layout.units

-- the token is this ether's
abbrev pub IsTokenOf : Ether → Token → Type 0
IsTokenOf e t = IsAt e.table.shared.table_id e.grid.layout e.grid.frames t

-- such a token, of the unit u, which has done nothing
pub record IsNewAt (table : TableId) (layout : Layout) (frames u : ℕ) (t : Token) : Type 0 where
  pub at : IsAt table layout frames t
  pub unit : t.unit ≡ u
  pub view : view_under layout frames t ≡ fresh_view (ranges_of layout frames) u

-- n such tokens, of the units from 0 on, in their order
pub record AreNewAt (table : TableId) (layout : Layout) (frames n : ℕ) (tokens : List Token) : Type 0 where
  pub count : length tokens ≡ n
  pub each : (u : ℕ) (d : Token) → u < n → IsNewAt table layout frames u (slice_index_or tokens u d)

-- all tokens of the ether, in the order of their units
pub record AreTokensOf (e : Ether) (tokens : List Token) : Type 0 where
  pub count : length tokens ≡ e.grid.layout.units
  pub of : (u : ℕ) (d : Token) → u < e.grid.layout.units → IsTokenOf e (slice_index_or tokens u d)
  pub unit : (u : ℕ) (d : Token) → u < e.grid.layout.units → (slice_index_or tokens u d).unit ≡ u

-- an ether of this layout and number of frames, and all its tokens, of which no unit has done anything
pub record IsMade (e : Ether) (tokens : List Token) (layout : Layout) (frames : ℕ) : Type 0 where
  pub layout_is : e.grid.layout ≡ layout
  pub frames_are : e.grid.frames ≡ frames
  pub all : AreTokensOf e tokens
  pub new : (u : ℕ) (d : Token) → u < layout.units → token_view e (slice_index_or tokens u d) ≡ fresh_view (ranges_of layout frames) u

-- how each unit conducted itself, by the tokens in the order of the units; nothing was done elsewhere
abbrev pub conduct_at : List Token → ℕ → Conduct
conduct_at tokens u = slice_index_or (map conduct_of tokens) u fresh

-- each token is of the table with this name
abbrev pub AreAtTable : TableId → List Token → Type 0
AreAtTable table tokens = (u : ℕ) (d : Token) → u < length tokens → (slice_index_or tokens u d).seat.table_id ≡ table
