-- The root of a drawn document: what it says beside its entries, and the rules that it keeps.
use Rattle.std.proofs.Common.{codes, ◌≡◌, ◌≤◌, ℕ, List, [], ◌∷◌, Some, refl, arith}
use Rattle.std.proofs.lemmas.List.Elements.{All-from_recursion}
use Rattle.std.specs.List.{Contains}
use Rattle.toml.specs.Data.{Data, Members, member, no_members}
use Rattle.sift_gen.specs.Scenario.{array_of, number}
use Rattle.sift_scenario.specs.Root.{frames_of, root_keys, root_rules, units_of}
use Rattle.sift_document.specs.Document.{HasOnlyKeys, keys_of}
use Rattle.sift_document.specs.Rules.{AreKept}
use Rattle.sift_trial.proofs.Values.{number_read}

-- the tree of a document with these units, frames, sensors, tasks and one fault
abbrev pub document_of : (units frames : ℕ) → (sensors tasks : List Data) → (fault : Data) → Members
document_of units frames sensors tasks fault =
    member (codes "fault") (array_of (fault ∷ [])) (member (codes "frames") (number frames) (member (codes "sensor") (array_of sensors)
    (member (codes "task") (array_of tasks) (member (codes "units") (number units) no_members))))

module _ (units frames : ℕ) (sensors tasks : List Data) (fault : Data) where
  -- the document
  abbrev drawn : Members
  drawn = document_of units frames sensors tasks fault

  -- the document says how many units there are, where they are 5 to 8
  pub units_are : 5 ≤ units → units ≤ 8 → units_of drawn ≡ Some units
  units_are from to = number_read 4 8 units (omega (arith, from)) to

  -- the document says how many frames there are, where they are 20 to 200
  pub frames_are : 20 ≤ frames → frames ≤ 200 → frames_of drawn ≡ Some frames
  frames_are from to = number_read 1 1000 frames (omega (arith, from)) (omega (arith, to))

  -- its keys are known
  keys_known : HasOnlyKeys root_keys drawn
  keys_known = All-from_recursion (Contains root_keys) (keys_of drawn)
      ((8, omega arith, refl), ((2, omega arith, refl), ((5, omega arith, refl), ((6, omega arith, refl), ((1, omega arith, refl), tt)))))

  -- it keeps the rules of the root
  pub root_kept : 5 ≤ units → units ≤ 8 → 20 ≤ frames → frames ≤ 200 → AreKept (root_rules drawn)
  root_kept enough few some_frames few_frames = (
    λ place broken. broken.1 keys_known,
    (
      λ place broken. cc (units_are enough few, broken.1),
      (
        λ place broken. cc (frames_are some_frames few_frames, broken.1),
        (λ place broken. cc broken.1, (λ place broken. cc broken.1, tt)),
      ),
    ),
  )
