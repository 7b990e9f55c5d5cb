-- What is read of a document's sections. No public clause cites this module.
use Rattle.std.specs.Prelude.{codes, ◌≡◌, ◌⊎◌, List, Some, None, map}
use Rattle.toml.specs.Data.{Members}
use Rattle.sift_script.specs.Script.{Change}
use Rattle.sift_sections.specs.Fault.{changes_of, from_of, unit_of}
use Rattle.sift_sections.specs.declared.fault.Head.{Head}
use Rattle.sift_sections.specs.Table.{positions_of, size_of, subframes_at}

-- these are the heads and the changes of the faults in these tables
pub record AreFaultsRead (faults : List Members) (heads : List Head) (said : List (List Change)) : Type 0 where
  pub units : map (λ head. Some head.unit) heads ≡ map unit_of faults
  pub from : map (λ head. Some head.from) heads ≡ map from_of faults
  pub changes : map (λ changes. Some changes) said ≡ map changes_of faults

-- a part of the table isn't read
abbrev pub IsPartial : Members → Type 0
IsPartial table =
    (size_of table ≡ None)
    ⊎ (((subframes_at (codes "run") table ≡ None) ⊎ (subframes_at (codes "poll") table ≡ None)) ⊎ (positions_of table ≡ None))
