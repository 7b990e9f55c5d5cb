-- A board drives on whatever strays its unit has stored: nothing that holds of it speaks of them.
use Rattle.std.proofs.Common.{◌+◌, ◌*◌, List, Bool, true, false, sym, ap, ◌∙◌, subst}
use Rattle.sift_buffer.specs.Conduct.{Stray}
use Rattle.sift_buffer.specs.Conduct.{Conduct as Acts}
use Rattle.sift_buffer.specs.Ranges.{Ranges}
use Rattle.sift_buffer.specs.Views.{View}
use Rattle.sift_mission.specs.Data.{FlownMission}
use Rattle.sift_unit.specs.Boards.{desk_of, IsPortOf}
use Rattle.sift_unit.specs.Desk.{Desk}
use Rattle.sift_unit.specs.Down.{StrayLaw}
use Rattle.sift_unit.specs.Going.{Accounts, Words, Fate, Meets, Going}
use Rattle.sift_unit.specs.Keeping.{KeepsAs, as_flying}

module _ (m : FlownMission) (b : Desk) (strays : List Stray) where
  abbrev with_strays : Acts → Acts
  with_strays c = record c { strays = strays }

  fate_without : (c : Acts) (a : Accounts) (h : Words) → Fate m b (with_strays c) a h → Fate m b c a h
  fate_without c a h fate =
      record { heard = fate.heard; accounts = fate.accounts; cfg = fate.cfg; clk = fate.clk; agrees = fate.agrees }

  meets_with : (c : Acts) (a : Accounts) (h : Words) → Meets m b c a h → Meets m b (with_strays c) a h
  meets_with c a h meets = record {
    acts = record { said = meets.acts.said; heard = meets.acts.heard };
    ended = meets.ended;
    begins = meets.begins;
    last = meets.last;
    places = meets.places;
    remembers = meets.remembers;
  }

  going_with : (c : Acts) → Going m b c → Going m b (with_strays c)
  going_with c going = record {
    range = going.range;
    progress = going.progress;
    left = going.left;
    meets = λ a h fate. meets_with c a h (going.meets a h (fate_without c a h fate));
  }

  keeps_with : (turned : Bool) (c : Acts) → KeepsAs m turned b c → KeepsAs m turned b (with_strays c)
  keeps_with true c keeps = record {
    storm = keeps.storm;
    at = keeps.at;
    left = keeps.left;
    progress = keeps.progress;
    going = going_with (as_flying c (b.frame * m.period + b.subframe)) keeps.going;
  }
  keeps_with false c keeps = record { before = keeps.before; going = going_with c keeps.going }

-- a board that drives on a port drives on it whatever strays its unit has stored
pub stray_law : StrayLaw
stray_law m b v v' drives other = record {
  fits = drives.fits;
  storms = drives.storms;
  unit = ap (λ (x : View). x.unit) other ∙ drives.unit;
  ranges = subst (λ (r : Ranges). IsPortOf m r) (sym (ap (λ (x : View). x.ranges) other)) drives.ranges;
  frames = drives.frames;
  storm = drives.storm;
  keeps = subst (λ (c : Acts). KeepsAs m b.turned (desk_of b) c) (sym (ap (λ (x : View). x.conduct) other))
      (keeps_with m (desk_of b) v'.conduct.strays b.turned v.conduct drives.keeps);
}
