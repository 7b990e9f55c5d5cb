-- The steps that the rogues of this crate allow.
use Rattle.std.specs.Prelude.{◌≡◌, ℕ, ◌+◌, ◌*◌, nat_lt, if◌then◌else◌, length, slice_index_or, ⊤}
use Rattle.sift_base.specs.Draw.{after, draw_at}
use Rattle.sift_buffer.specs.Cell.{stamp_weight, presence_weight}
use Rattle.sift_rogue.specs.declared.rogue.Act.{Act}
use Rattle.sift_rogue.specs.declared.rogue.Act.TheVariants.{Stray, Rest}
use Rattle.sift_rogue.specs.declared.storm.Fixed.{Fixed}
use Rattle.sift_rogue.specs.declared.storm.Storm.{Storm}
use Rattle.sift_rogue.specs.Storms.{Call, Started, Answered}

-- ---- draws

-- the act that is drawn from x: receiver, slot, and a cell of any stamp, presence and word, in this order
abbrev pub drawn_act : ℕ → Act
drawn_act x = Stray (draw_at x 0 8) (draw_at x 1 90) (draw_at x 2 65536 * stamp_weight + draw_at x 3 2 * presence_weight + draw_at x 4 65536)

-- `start` gives the drawer its number, and `next` answers what is drawn
abbrev pub AllowsDrawn : Storm → Call → Storm → Type 0
AllowsDrawn x (Started number) y = y.drawer ≡ number
AllowsDrawn x (Answered act) y = (act ≡ drawn_act x.drawer) × (y.drawer ≡ after x.drawer 5)

-- ---- rest, and fixed acts

-- `next` answers rest
abbrev pub AllowsRest : Call → Type 0
AllowsRest (Started number) = ⊤
AllowsRest (Answered act) = act ≡ Rest

-- the place of the next act: one further, but not beyond the last one
abbrev pub place_after : Fixed → ℕ
place_after x = if nat_lt x.at (length x.acts.items) then x.at + 1 else x.at

-- `start` changes nothing, and `next` answers the act at the place, or rest where none is left, and goes on by one
abbrev pub AllowsFixed : Fixed → Call → Fixed → Type 0
AllowsFixed x (Started number) y = y ≡ x
AllowsFixed x (Answered act) y = (act ≡ slice_index_or x.acts.items x.at Rest) × (y ≡ record x { at = place_after x })
