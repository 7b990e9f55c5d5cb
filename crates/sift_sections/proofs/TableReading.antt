-- Tables of `table` that are read in part.
use Rattle.std.proofs.Common.{◌≡◌, ◌≢◌, ◌<◌, inl, inr, ℕ, List, length, get_or, map, None, sym, ap, ◌∙◌}
use Rattle.std.specs.List.{All}
use Rattle.std.specs.Prelude.{codes, ◌⊎◌}
use Rattle.toml.specs.Data.{Members}
use Rattle.sift_document.specs.Rules.{IsKept, rule}
use Rattle.sift_document.specs.laws.Places.{holds_here}
use Rattle.sift_sections.specs.Reading.{IsPartial}
use Rattle.sift_sections.specs.Table.{positions_of, size_of, subframes_at}
use Rattle.sift_sections.specs.laws.Named.{BreaksTimes}

-- where the sizes are there, and the times are, what isn't read is the positions
pub positionless :
    {A : Type 0} (shown : A → Members) (tables : List A)
    → All (λ table. size_of (shown table) ≢ None) tables → IsKept (rule 24 (BreaksTimes (map shown tables)))
    → (i : ℕ) (table : A) → i < length tables → table ≡ get_or tables i table → IsPartial (shown table) → positions_of (shown table) ≡ None
positionless shown tables sized timed i table low is (inl none) = absurd (sized i table low (ap (λ t. size_of (shown t)) (sym is) ∙ none))
positionless shown tables sized timed i table low is (inr (inl timeless)) =
    absurd (timed i (holds_here shown tables (λ at table. (subframes_at (codes "run") table ≡ None) ⊎ (subframes_at (codes "poll") table ≡ None)) i table low is timeless))
positionless shown tables sized timed i table low is (inr (inr none)) = none
