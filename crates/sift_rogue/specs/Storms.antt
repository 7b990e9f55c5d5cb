-- What a storm comes to: the calls of a rogue, and the strays that are stored of its acts.
use Rattle.std.specs.Prelude.{ℕ, ◌≡◌, ◌+◌, ◌&&◌, not, nat_eq, nat_lt, if◌then◌else◌, List, [], ◌∷◌, ◌++◌, length, Option, Some, None, option_to_list, option_map}
use Rattle.std.specs.List.{flat_map}
use Rattle.sift_base.specs.declared.slots.Layout.{Layout}
use Rattle.sift_base.specs.Layout.{slot_count}
use Rattle.sift_buffer.specs.Conduct.{Stray, stray_to}
use Rattle.sift_rogue.specs.declared.rogue.Act.{Act}
use Rattle.sift_rogue.specs.declared.rogue.Act.TheVariants.{Stray as Strays, Rest}
use Rattle.sift_rogue.specs.declared.rogue.Shot.{Shot}

-- ---- the calls of a rogue

-- a call, with what goes in or comes out
pub data Call : Type 0 where
  -- `start` with this number
  Started : ℕ → Call
  -- `next`, which answered this act
  Answered : Act → Call

-- calls of a rogue: the number that it is started with, how often it is called then, and the strays that its acts come to, the newest first
pub record Calls : Type 0 where
  pub number : ℕ
  pub count : ℕ
  pub strays : List Stray

-- ---- acts, and what is stored of them

-- the stray that a unit's act comes to under a layout: none where it rests, or where the receiver is no other unit or the slot isn't there
abbrev pub sifted : Layout → (own : ℕ) → Act → Option Stray
sifted layout own (Strays q k x) = if nat_lt q layout.units && not (nat_eq q own) && nat_lt k (slot_count layout) then Some (stray_to q k x) else None
sifted layout own Rest = None

-- the stray of a shot
abbrev pub stray_of : Shot → Stray
stray_of s = stray_to s.to s.slot s.cell

-- ---- calls

module _ {R : Type 0} (allows : R → Call → R → Type 0) where
  -- x answered these acts one after the other, the newest first, and became y
  abbrev pub Answers : R → List Act → R → Type 0
  Answers x [] y = y ≡ x
  Answers x (a ∷ acts) z = (y : R) × Answers x acts y × allows y (Answered a) z

  -- x was called so and became y
  pub record Storms (sift : Act → Option Stray) (calls : Calls) (x y : R) : Type 0 where
    pub begun : R
    pub start : allows x (Started calls.number) begun
    pub acts : List Act
    pub count_is : length acts ≡ calls.count
    pub answers : Answers begun acts y
    pub strays_are : calls.strays ≡ flat_map (λ act. option_to_list (sift act)) acts

  -- the same by its figures: x was started with this number and then called so many times, and became y, with these strays
  abbrev pub StormsBy : (Act → Option Stray) → ℕ → R → ℕ → List Stray → R → Type 0
  StormsBy sift number x count strays y = Storms sift (record { number = number; count = count; strays = strays }) x y

  -- x was called once and became y; its act comes to this shot, or to none
  pub record Shoots (sift : Act → Option Stray) (x : R) (shot : Option Shot) (y : R) : Type 0 where
    pub act : Act
    pub allowed : allows x (Answered act) y
    pub is : option_map stray_of shot ≡ sift act

  -- a storm begins with `start`, and with one call more it is a storm still
  pub record StormsAddUp : Type 0 where
    pub begins : (sift : Act → Option Stray) (number : ℕ) (x y : R) → allows x (Started number) y →
        Storms sift (record { number = number; count = 0; strays = [] }) x y
    pub goes_on : (sift : Act → Option Stray) (calls : Calls) (x y z : R) (shot : Option Shot) →
        Storms sift calls x y → Shoots sift y shot z →
        Storms sift (record { number = calls.number; count = calls.count + 1; strays = option_to_list (option_map stray_of shot) ++ calls.strays }) x z
