-- What is read of the tables of a document.
use Rattle.std.proofs.Common.{◌≡◌, List, map}
use Rattle.toml.specs.Data.{Members}
use Rattle.sift_document.specs.laws.Places.{map_map}

-- what reads the tables of a document reads their values
pub read_values : {A B : Type 0} (shown : A → Members) (read : Members → B) (tasks : List A) → map (λ task. read (shown task)) tasks ≡ map read (map shown tasks)
read_values shown read tasks = map_map read shown tasks
