-- The clocks that a document states are admitted.
use Rattle.std.proofs.Common.{◌≡◌, ℕ, Some}
use Rattle.std.specs.Prelude.{codes}
use Rattle.toml.specs.Data.{Members, get_member}
use Rattle.sift_mission.specs.PartsFit.{AreClocks}
use Rattle.sift_scenario.proofs.Themes.{kept_themes}
use Rattle.sift_sections.specs.Clock.{clocks_in}
use Rattle.sift_scenario.specs.Mission.{IsLawful}
use Rattle.sift_scenario.specs.Root.{units_of}
use Rattle.sift_sections.proofs.lemmas.Clocks.{value_fits}

-- the clocks of a lawful document fit
pub clocks_fit :
    (document : Members) (units : ℕ) → units_of document ≡ Some units → IsLawful document
    → AreClocks units (clocks_in units (get_member (codes "clock") document))
clocks_fit document units is lawful = value_fits units (get_member (codes "clock") document) (kept_themes document units is lawful).1.0
