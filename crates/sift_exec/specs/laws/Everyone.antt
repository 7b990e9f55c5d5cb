-- Everyone who was caught, by the ways in which.
use Rattle.std.proofs.Common.{◌≡◌, ℕ, Bool, true, false, ◌||◌, refl, ap, ◌∙◌}
use Rattle.std.proofs.lemmas.Cmp.{nat_cmp_total}
use Rattle.std.specs.FinSet as set
use Rattle.sift_base.specs.Units.{holds}
use Rattle.sift_exec.specs.Conviction.{everyone_in, has_kind, kinds_of}
use Rattle.sift_exec.specs.declared.catches.Catches.{Catches}
use Rattle.sift_exec.specs.declared.catches.Kind.{Kind}
use Rattle.sift_exec.specs.declared.catches.Kind.TheVariants.{Poll, Relay, Clock}

-- everyone who was caught was caught in one of three ways
pub holds-everyone : (c : Catches) (v : ℕ) → holds (everyone_in c) v ≡ ((holds c.poll v || holds c.relay v) || holds c.clock v)
holds-everyone c v = set.contains-union nat_cmp_total (set.union c.poll c.relay) c.clock v
    ∙ ap (λ t. t || holds c.clock v) (set.contains-union nat_cmp_total c.poll c.relay v)

or_true : (b : Bool) → (b || true) ≡ true
or_true true = refl
or_true false = refl

-- one way is enough
pub way_is_caught : (way : Kind) (c : Catches) (v : ℕ) → has_kind (kinds_of c v) way ≡ true → holds (everyone_in c) v ≡ true
way_is_caught Poll c v t = holds-everyone c v ∙ rw t refl
way_is_caught Relay c v t = holds-everyone c v ∙ rw (t, or_true (holds c.poll v)) refl
way_is_caught Clock c v t = holds-everyone c v ∙ rw t (or_true (holds c.poll v || holds c.relay v))

-- and there are three
pub no_way_is_caught : (c : Catches) (v : ℕ) → holds c.poll v ≡ false → holds c.relay v ≡ false → holds c.clock v ≡ false
    → holds (everyone_in c) v ≡ false
no_way_is_caught c v poll relay clock = holds-everyone c v ∙ rw (poll, relay, clock) refl
