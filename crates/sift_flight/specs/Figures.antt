-- The configuration at a frame, its margin, and the skew and the slack of its clocks.
use Rattle.std.specs.Prelude.{◌≡◌, ℕ, ◌-◌, ◌≤◌, List, count_by, map, true, nat_lt, unwrap_or, if◌then◌else◌, ℤ, ◌↔◌, zero, suc, [], ◌∷◌, ◌++◌, fold, Bool, ◌&&◌, nat_le, Option, None, Some, ◌-ℤ◌}
use Rattle.std.specs.List.{filter, find}
use Rattle.std.specs.Int.{int_max, int_min}
use Rattle.sift_base.specs.Units.{has, HasMargin, faulty_count}
use Rattle.sift_skew.specs.Figures.{IsSkew, IsSlack}
use Rattle.sift_mission.specs.Data.{FlownMission}
use Rattle.sift_flight.specs.Flight.{Flight, config_of}

-- ---- the configuration at a frame, and when it has what is told of it

-- a unit of the mission that works in a frame
pub record Works (m : FlownMission) (u f : ℕ) : Type 0 where
  pub unit : has m.units u ≡ true
  pub works : m.works u f ≡ true

-- the lead unit of a frame: the lowest-numbered one that works in it
abbrev pub lead_of : FlownMission → ℕ → ℕ
lead_of m f = unwrap_or (find (λ u. m.works u f) m.units) 0

-- the configuration at a frame: the lead unit's; after the last frame, the one that the last frame's lead unit found for the next
abbrev pub config_at : FlownMission → Flight → ℕ → List ℕ
config_at m fl f = if nat_lt f m.frames then config_of fl (lead_of m f) f else (fl.account (lead_of m (f - 1)) (f - 1)).next_cfg

-- a frame has margin: in it and in each frame before, at most one unit of the configuration is faulty, and at least four work
abbrev pub HasMarginAt : FlownMission → Flight → ℕ → Type 0
HasMarginAt m fl f = (g : ℕ) → g ≤ f → HasMargin (λ u. m.works u g) (config_at m fl g)

-- ---- figures

-- the working units of the configuration at a frame
abbrev pub working_at : FlownMission → Flight → ℕ → List ℕ
working_at m fl f = filter (λ u. m.works u f) (config_at m fl f)

-- their offsets in the frame
abbrev pub offsets_at : FlownMission → Flight → ℕ → List ℤ
offsets_at m fl f = map (λ u. (fl.account u f).clk) (working_at m fl f)

-- and those in force after it
abbrev pub next_offsets_at : FlownMission → Flight → ℕ → List ℤ
next_offsets_at m fl f = map (λ u. (fl.account u f).next_clk) (working_at m fl f)

-- the skew of a frame: the largest difference of two working clocks
abbrev pub IsSkewAt : FlownMission → Flight → ℕ → ℤ → Type 0
IsSkewAt m fl f skew = IsSkew (offsets_at m fl f) skew

-- the slack of a frame: the least that is left of a subframe between two working clocks
abbrev pub IsSlackAt : FlownMission → Flight → ℕ → ℤ → Type 0
IsSlackAt m fl f slack = IsSlack m.length (offsets_at m fl f) (next_offsets_at m fl f) slack

-- ---- the margin as a value

-- at most one unit of the configuration at a frame is faulty, and at least four work
abbrev pub is_sound_at : FlownMission → Flight → ℕ → Bool
is_sound_at m fl f =
    nat_le (faulty_count (λ u. m.works u f) (config_at m fl f)) 1 && nat_le 4 (count_by (λ u. m.works u f) (config_at m fl f))

-- the configuration of each frame before this one is sound
abbrev pub margin_before : FlownMission → Flight → ℕ → Bool
margin_before m fl zero = true
margin_before m fl (suc f) = margin_before m fl f && is_sound_at m fl f

-- a frame has margin: its configuration is sound, and that of each frame before
abbrev pub margin_at : FlownMission → Flight → ℕ → Bool
margin_at m fl f = margin_before m fl (suc f)

-- ---- skew and slack

-- the largest difference of two of the offsets, where there are some
abbrev pub skew_of : List ℤ → Option ℤ
skew_of [] = None
skew_of (p ∷ ps) = Some (fold int_max p ps -ℤ fold int_min p ps)

-- what is left of a subframe between the lowest of the offsets and the highest of them and of those in force after the frame
abbrev pub slack_of : ℤ → List ℤ → List ℤ → Option ℤ
slack_of length [] next = None
slack_of length (p ∷ ps) next = Some (length -ℤ (fold int_max p (ps ++ next) -ℤ fold int_min p ps))

-- ---- laws

-- the margin of a frame is told just where it has margin
abbrev pub MarginIsTold : Type 0
MarginIsTold = (m : FlownMission) (fl : Flight) (f : ℕ) → (margin_at m fl f ≡ true) ↔ HasMarginAt m fl f

-- the skew of offsets is told as it is, and none is told just where there is no offset
abbrev pub SkewIsTold : Type 0
SkewIsTold = (offsets : List ℤ) →
    ((skew : ℤ) → (skew_of offsets ≡ Some skew) ↔ IsSkew offsets skew) × ((skew_of offsets ≡ None) ↔ (offsets ≡ []))

-- the slack of a frame's offsets is told as it is, and none is told just where there is no offset
abbrev pub SlackIsTold : Type 0
SlackIsTold = (length : ℤ) (now next : List ℤ) →
    ((slack : ℤ) → (slack_of length now next ≡ Some slack) ↔ IsSlack length now next slack) × ((slack_of length now next ≡ None) ↔ (now ≡ []))
