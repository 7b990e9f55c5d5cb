-- What the `storm` of a fault states: how its unit turns stray.
use Rattle.std.specs.Prelude.{codes, ℕ, Option, option_and_then, option_map}
use Rattle.toml.specs.Data.{Data}
use Rattle.sift_script.specs.Script.{Failing, turning}
use Rattle.sift_document.specs.Document.{integer_between, members_of, natural, read_at}

-- the most strays of a storm
abbrev pub stray_limit : ℕ
stray_limit = 1000000

-- the storm that a value states, where it states the number by which the storm begins, and how many strays it has
abbrev pub storm_in : Data → Option Failing
storm_in value =
    option_and_then (λ number. option_map (turning number) (read_at (integer_between 0 stray_limit) (codes "strays") (members_of value)))
    (read_at natural (codes "number") (members_of value))
