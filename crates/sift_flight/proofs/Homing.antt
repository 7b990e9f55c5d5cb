-- What a flight that has come home tells is a round flight: it tells of each unit of the mission what the flight of its core does.
use Rattle.std.proofs.Common.{◌≡◌, ℕ, ◌<◌, Bool, nat_eq, true, Option, None, if◌then◌else◌, sym, ◌∙◌, subst, arith}
use Rattle.sift_base.specs.Units.{has}
use Rattle.sift_base.specs.declared.slots.Slot.{Slot}
use Rattle.sift_buffer.specs.Core.{Core}
use Rattle.sift_buffer.specs.Ranges.{Ranges}
use Rattle.sift_mission.specs.Fits.{Fits}
use Rattle.sift_mission.specs.Data.{FlownMission}
use Rattle.sift_mission.specs.Slots.{is_slot, calls, stamp_of}
use Rattle.sift_mission.specs.laws.Calls.{call_of}
use Rattle.sift_conduct.specs.Conduct.{Places}
use Rattle.sift_conduct.specs.Frames.{Flies, FrameConduct}
use Rattle.sift_flight.specs.Flight.{Flight, unit_of, flight_of, config_of, Hears, IsOfStray, RoundAt}
use Rattle.sift_flight.specs.Homing.{HasComeHome, FlightsThatComeHomeAreRound}
use Rattle.sift_flight.specs.Landing.{strays_in}
use Rattle.sift_flight.specs.Told.{told}
use Rattle.sift_flight.specs.declared.flight.Flight.{Flight as TheFlight}
use Rattle.sift_flight.proofs.Landed.{landed_frames_are_round, lawful_cores_hear_lawfully}

-- a choice of equal words
chosen : (test : Bool) (x y : Option ℕ) → x ≡ y → (if test then x else None) ≡ (if test then y else None)
chosen test x y same i = if test then same i else None

module _ (m : FlownMission) (r : Ranges) (c : Core) (fl : TheFlight) (fits : Fits m) (home : HasComeHome m r c fl) where
  -- the flight of the core, by the accounts that are told
  abbrev flown : Flight
  flown = flight_of m c (told m fl).account

  round : (f : ℕ) → f < m.frames → RoundAt m (strays_in c) flown f
  round f low = landed_frames_are_round m r c (told m fl).account m.frames f fits (record {
    places = home.places;
    heard = lawful_cores_hear_lawfully r c home.lawful;
    boards = home.boards;
    within = omega arith;
  }) low

  -- the words that are told of a unit are those of its conduct
  module _ (u : ℕ) (there : has m.units u ≡ true) where
    said_is : (f : ℕ) (k : Slot) (q : ℕ) → (told m fl).said u f k q ≡ flown.said u f k q
    said_is f k q = chosen (is_slot m k) _ _ ((home.journals u there).said f (m.number k) q)

    heard_is : (f : ℕ) (k : Slot) (p : ℕ) → (told m fl).heard u f k p ≡ flown.heard u f k p
    heard_is f k p = chosen (is_slot m k) _ _ ((home.journals u there).heard f (m.number k) p)

    conduct_is : (f : ℕ) → FrameConduct m u (unit_of flown u) f → FrameConduct m u (unit_of (told m fl) u) f
    conduct_is f conduct =
        subst (λ (h : ℕ → Places). FrameConduct m u (record (unit_of (told m fl) u) { heard = h }) f) (sym (λ i g k p. heard_is g k p i))
        (subst (λ (s : ℕ → Places). FrameConduct m u (record (unit_of flown u) { said = s }) f) (sym (λ i g k q. said_is g k q i)) conduct)

  -- who is heard in a frame is a unit of the mission
  heard_unit : (q f : ℕ) (k : Slot) (p : ℕ) → f < m.frames → Flies m q f → calls m (config_of flown q f) k p q ≡ true → has m.units p ≡ true
  heard_unit q f k p low flies called =
      ((home.boards q flies.unit).config f low flies).inside p (call_of m (config_of flown q f) k p q called).from

  hears : (q f : ℕ) (k : Slot) (p : ℕ) → f < m.frames → Flies m q f → Hears m (strays_in c) flown f q k p → Hears m (strays_in c) (told m fl) f q k p
  hears q f k p low flies h =
      let is = heard_is q flies.unit f k p in record {
        heard = λ t whole. is ∙ (h.heard t whole ∙ chosen (nat_eq (m.due (config_of flown p f) k) (m.due (config_of flown q f) k)) _ _
            (sym (said_is p (heard_unit q f k p low flies t) f k q)));
        strayed = λ t gone. subst (λ (w : Option ℕ). IsOfStray (strays_in c p) q (m.number k) (stamp_of m (config_of flown q f) f k) w)
            (sym is) (h.strayed t gone);
        silent = λ t. is ∙ h.silent t;
      }

  pub home_round : (f : ℕ) → f < m.frames → RoundAt m (strays_in c) (told m fl) f
  home_round f low = let at = round f low in record {
    hearing = λ q k p flies. hears q f k p low flies (at.hearing q k p flies);
    conduct = λ u flies. conduct_is u flies.unit f (at.conduct u flies);
    says_nothing = λ u k q unit gone. said_is u unit f k q ∙ at.says_nothing u k q unit gone;
    hears_nothing = λ u k p unit gone. heard_is u unit f k p ∙ at.hears_nothing u k p unit gone;
  }

-- what a flight tells that has come home from a core is a round flight over the core's strays, where the mission fits
pub flights_that_come_home_are_round : FlightsThatComeHomeAreRound
flights_that_come_home_are_round m r c fl fits home = home_round m r c fl fits home
