-- The next configuration of a mission.
use Rattle.std.proofs.Common.{ℕ, List, length, Bool, not, inl, inr}
use Rattle.std.specs.Prelude.{nat_le}
use Rattle.std.proofs.lemmas.Bool.{cases_Bool, leb-true}
use Rattle.sift_base.specs.Layout.{least_units}
use Rattle.sift_base.specs.laws.Sets.{passing_ascend}
use Rattle.sift_exec.specs.Conviction.{is_convicted, kept_by, next_by}
use Rattle.sift_exec.specs.laws.NextConfigs.{next_inside}
use Rattle.sift_mission.specs.Data.{FlownMission, IsConfigOf}

-- the next of a configuration of the mission is one of the mission
pub next_is_config : (m : FlownMission) (names : ℕ → ℕ → Bool) (us : List ℕ) → IsConfigOf m us → IsConfigOf m (next_by names us)
next_is_config m names us config = record {
  enough = elim (cases_Bool (nat_le least_units (length (kept_by names us)))) [
    | inl many ↦ rw many (leb-true least_units (length (kept_by names us)) many)
    | inr few ↦ rw few config.enough
  ];
  ascending = elim (cases_Bool (nat_le least_units (length (kept_by names us)))) [
    | inl many ↦ rw many (passing_ascend (λ u. not (is_convicted names us u)) us config.ascending)
    | inr few ↦ rw few config.ascending
  ];
  inside = λ u there. config.inside u (next_inside names us u there);
}
