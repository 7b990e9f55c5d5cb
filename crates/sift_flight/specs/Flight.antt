-- Flights: what units said, heard and accounted for, what each hears of another, and the flights in which each does what its conduct says.
use Rattle.std.specs.Prelude.{ℕ, List, ◌≡◌, [], true, false, Option, None, ◌<◌, nat_eq, if◌then◌else◌}
use Rattle.std.specs.List.{Contains}
use Rattle.sift_buffer.specs.Core.{Core}
use Rattle.sift_mission.specs.Data.{FlownMission}
use Rattle.sift_conduct.specs.Conduct.{Account, Places}
use Rattle.sift_conduct.specs.Acts.{said_places, heard_places}
use Rattle.sift_base.specs.declared.slots.Slot.{Slot}
use Rattle.sift_buffer.specs.Cell.{taken}
use Rattle.sift_buffer.specs.Conduct.{Stray, stray_to}
use Rattle.sift_mission.specs.Slots.{calls, stamp_of, has_turned}
use Rattle.sift_base.specs.Units.{has}
use Rattle.sift_conduct.specs.Frames.{UnitFlight, FrameConduct, Flies}
use Rattle.sift_mission.specs.Fits.{Fits}

-- ---- a flight

-- the words said and heard, and the accounts, by unit and frame
pub record Flight : Type 0 where
  pub said : ℕ → ℕ → Places
  pub heard : ℕ → ℕ → Places
  pub account : ℕ → ℕ → Account

-- what one unit does in it
abbrev pub unit_of : Flight → ℕ → UnitFlight
unit_of fl u = record { said = fl.said u; heard = fl.heard u; account = fl.account u }

-- the configuration of a unit in a frame
abbrev pub config_of : Flight → ℕ → ℕ → List ℕ
config_of fl u f = (fl.account u f).cfg

-- the flight of a core and its units' accounts: the words of the acts, absent where there is none
abbrev pub flight_of : FlownMission → Core → (ℕ → ℕ → Account) → Flight
flight_of m c accounts = record { said = λ u. said_places m (c.of u); heard = λ u. heard_places m (c.of u); account = accounts }

-- ---- the hearing equations: what a unit hears of another in a frame

-- the strays of each unit that has turned
abbrev pub Strays : Type 0
Strays = ℕ → List Stray

-- no unit strays
abbrev pub no_strays : Strays
no_strays p = []

-- absence, or what is taken of a stray to q in slot number k by the stamp s
pub data IsOfStray (strays : List Stray) (q k s : ℕ) (w : Option ℕ) : Type 0 where
  absent : w ≡ None → IsOfStray strays q k s w
  stray : (x : ℕ) → Contains strays (stray_to q k x) → w ≡ taken x s → IsOfStray strays q k s w

module _ (m : FlownMission) (strays : Strays) (fl : Flight) (f : ℕ) where
  -- the hearing equations of q for slot k and unit p in frame f. Where p says the slot to q under q's configuration, q hears what p said, if
  -- both say the slot in one subframe, else nothing; and nothing or one of p's strays, if p has turned. Elsewhere it hears nothing
  pub record Hears (q : ℕ) (k : Slot) (p : ℕ) : Type 0 where
    pub heard : calls m (config_of fl q f) k p q ≡ true → has_turned m p f ≡ false →
        fl.heard q f k p ≡ (if nat_eq (m.due (config_of fl p f) k) (m.due (config_of fl q f) k) then fl.said p f k q else None)
    pub strayed : calls m (config_of fl q f) k p q ≡ true → has_turned m p f ≡ true →
        IsOfStray (strays p) q (m.number k) (stamp_of m (config_of fl q f) f k) (fl.heard q f k p)
    pub silent : calls m (config_of fl q f) k p q ≡ false → fl.heard q f k p ≡ None

-- ---- round flights

-- one frame of a round flight: each unit that has not turned hears and conducts itself as it ought to, and each other says and hears nothing
pub record RoundAt (m : FlownMission) (strays : Strays) (fl : Flight) (f : ℕ) : Type 0 where
  pub hearing : (q : ℕ) (k : Slot) (p : ℕ) → Flies m q f → Hears m strays fl f q k p
  pub conduct : (u : ℕ) → Flies m u f → FrameConduct m u (unit_of fl u) f
  pub says_nothing : (u : ℕ) (k : Slot) (q : ℕ) → has m.units u ≡ true → has_turned m u f ≡ true → fl.said u f k q ≡ None
  pub hears_nothing : (u : ℕ) (k : Slot) (p : ℕ) → has m.units u ≡ true → has_turned m u f ≡ true → fl.heard u f k p ≡ None

-- a round flight: each frame of the mission is one of a round flight
abbrev pub IsRound : FlownMission → Strays → Flight → Type 0
IsRound m strays fl = (f : ℕ) → f < m.frames → RoundAt m strays fl f

-- no unit of the mission turns
abbrev pub HasNoStorms : FlownMission → Type 0
HasNoStorms m = (u : ℕ) → has m.units u ≡ true → m.storm u ≡ None

-- two flights have the same account and the same words in all places of one unit and frame
pub record AreSameAt (fl gl : Flight) (u f : ℕ) : Type 0 where
  pub account : fl.account u f ≡ gl.account u f
  pub said : fl.said u f ≡ gl.said u f
  pub heard : fl.heard u f ≡ gl.heard u f

-- a mission without storms has at most one round flight
abbrev pub AtMostOneIsRound : Type 0
AtMostOneIsRound = (m : FlownMission) (strays strays' : Strays) (fl gl : Flight) → Fits m → HasNoStorms m →
    IsRound m strays fl → IsRound m strays' gl →
    (u f : ℕ) → has m.units u ≡ true → f < m.frames → AreSameAt fl gl u f
