use Rattle.std.proofs.Common.{◌≡◌, ◌<◌, ℕ, map, take}
use Rattle.std.specs.List.{All}
use Rattle.toml.specs.View.{view}
use Rattle.sift_document.specs.Rules.{HoldsOf}
use Rattle.sift_byz.specs.Plan.{lie_of}
use Rattle.sift_byz.specs.Stated.{HasWord, IsPath, lie_in}
use Rattle.sift_byz.proofs.lies.lies_in.Given as goal

-- the lies of the entries so far, each of which has a path, and a word or nothing to tell
abbrev pub invariant-loop-place : goal.invariant-loop-place
invariant-loop-place l = record {
  stated : map lie_of l.lies.items ≡ take l.place (map lie_in (map (λ entry. view entry) l.entries));
  paths : All (λ lie. IsPath l.units l.m lie.path.items) l.lies.items;
  kept : (at : ℕ) → at < l.place → ¬ HoldsOf (map (λ entry. view entry) l.entries) at (λ lie. ¬ HasWord lie);
}
