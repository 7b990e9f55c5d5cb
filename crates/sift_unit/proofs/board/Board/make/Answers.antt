use Rattle.std.proofs.Common.{rules, refl}
use Rattle.sift_mission.specs.Parts.{flown_of}
use Rattle.sift_unit.proofs.Flown.{first_is}
use Rattle.sift_unit.proofs.board.Board.make.Goals as goal

pub returns : goal.returns
returns c = record {
  fits = c.a_mission_fits.ensures.fits;
  storms = c.a_mission_fits.ensures.storms;
  desk = first_is (flown_of c.args.mission.now) c.args.unit _ _ _ _ _ _ (search rules) (search rules) c.in_ok-memory.ensures.before c.in_ok-accounts.ensures.items;
  places = refl;
  shape = c.in_ok-memory.ensures.shape c.args.unit c.requires;
  frames = c.frames-frames.ensures;
  storm = c.storm_of.ensures;
  turned = refl;
}
