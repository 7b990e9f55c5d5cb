-- The frames that boards have kept over a lawful core are those of a round flight.
use Rattle.std.proofs.Common.{inl, inr, refl, ap}
use Rattle.std.proofs.lemmas.Bool.{cases_Bool}
use Rattle.sift_mission.specs.Slots.{is_slot}
use Rattle.sift_conduct.specs.Acts.{word_in_saying, word_in_hearing}
use Rattle.sift_flight.specs.Landing.{LandedFramesAreRound, LawfulCoresHearLawfully}
use Rattle.sift_flight.proofs.FrameActs.{hushed, deafened}
use Rattle.sift_flight.proofs.Hears.{units_hear_by_the_equations}

-- boards give the conduct, the law of hearing the rest; and who has turned has no acts
pub landed_frames_are_round : LandedFramesAreRound
landed_frames_are_round m r c accounts n f fits landed low = record {
  hearing = λ q k p flies. units_hear_by_the_equations m r c accounts n f fits landed low q k p flies;
  conduct = λ u flies. (landed.boards u flies.unit).conduct f low flies;
  says_nothing = λ u k q unit gone. elim (cases_Bool (is_slot m k)) [
    | inl t ↦ rw t (ap word_in_saying (hushed m (m.storm u) (c.of u) f k q t (landed.boards u unit).turns gone))
    | inr t ↦ rw t refl
  ];
  hears_nothing = λ u k p unit gone. elim (cases_Bool (is_slot m k)) [
    | inl t ↦ rw t (ap word_in_hearing (deafened m (m.storm u) (c.of u) f k p t (landed.boards u unit).turns gone))
    | inr t ↦ rw t refl
  ];
}

-- a lawful core has both
pub lawful_cores_hear_lawfully : LawfulCoresHearLawfully
lawful_cores_hear_lawfully r c lawful = record { sayings = lawful.heard; strays = lawful.turned.heard }
