-- A storm that is there comes from some frame on.
use Rattle.std.proofs.Common.{◌≡◌, ℕ, true, Option, Some, None, option_map, refl}
use Rattle.std.specs.Option.{is_some}
use Rattle.sift_script.specs.declared.script.StormEntry.{StormEntry}

-- a storm that is there has a frame from which on it comes
pub comes : (o : Option StormEntry) → is_some o ≡ true → (from : ℕ) × (option_map (λ storm. storm.from) o ≡ Some from)
comes None some = absurd cc
comes (Some storm) some = (storm.from, refl)
