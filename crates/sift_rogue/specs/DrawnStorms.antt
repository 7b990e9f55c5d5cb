-- Storms that are drawn.
use Rattle.std.specs.Prelude.{◌≡◌, ℕ, zero, suc, ◌*◌, List, [], ◌∷◌, Option, option_to_list}
use Rattle.std.specs.List.{flat_map}
use Rattle.sift_base.specs.Draw.{after}
use Rattle.sift_buffer.specs.Conduct.{Stray, stray_to}
use Rattle.sift_rogue.specs.declared.rogue.Act.{Act}
use Rattle.sift_rogue.specs.declared.storm.Storm.{Storm}
use Rattle.sift_rogue.specs.Rogues.{AllowsDrawn, drawn_act}
use Rattle.sift_rogue.specs.Storms.{Calls, Storms, sifted}

-- so many acts that are drawn from a number, each of them by five draws, the newest first
abbrev pub drawn_acts : ℕ → ℕ → List Act
drawn_acts number zero = []
drawn_acts number (suc count) = drawn_act (after number (5 * count)) ∷ drawn_acts number count

-- what storms that are drawn come to
pub record DrawnStormsAreTheDraws : Type 0 where
  -- such a storm has one list of strays, those of the acts that are drawn, and leaves the drawer behind these draws
  pub strays : (sift : Act → Option Stray) (calls : Calls) (x y : Storm) → Storms AllowsDrawn sift calls x y →
      (calls.strays ≡ flat_map (λ act. option_to_list (sift act)) (drawn_acts calls.number calls.count))
      × (y.drawer ≡ after calls.number (5 * calls.count))
  -- there is one, whatever its number and however many calls it has
  pub some : (sift : Act → Option Stray) (number : ℕ) (x : Storm) (count : ℕ) →
      Storms AllowsDrawn sift
      (record { number = number; count = count; strays = flat_map (λ act. option_to_list (sift act)) (drawn_acts number count) })
      x (record { drawer = after number (5 * count) })
  -- and it may have a stray: that of one call with number 1, for unit 0 of eight among ten slots
  pub stray : flat_map (λ act. option_to_list (sifted (record { units = 8; sensors = 0; words = 0 }) 0 act)) (drawn_acts 1 1)
      ≡ stray_to 6 3 3784850266 ∷ []
