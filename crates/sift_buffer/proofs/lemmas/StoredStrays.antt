-- A stray that is stored, as an event of a rack.
use Rattle.std.proofs.Common.{◌≡◌, ℕ, ◌<◌, List, [], ◌∷◌, slice_index, refl, sym, ap, ◌∙◌}
use Rattle.sift_buffer.specs.Ranges.{IsCell}
use Rattle.sift_buffer.specs.Conduct.{Stray, put, never, with_stray}
use Rattle.sift_buffer.specs.Core.{stray}
use Rattle.sift_buffer.specs.Crews.{ledger_at, with_strays}
use Rattle.sift_buffer.specs.Following.{reaches_one}
use Rattle.sift_buffer.specs.Ledgers.{Ledger, conduct_in, conduct_with}
use Rattle.sift_buffer.specs.Racks.{IsStored, ranges_for, core_of, conduct_at, view_at}
use Rattle.sift_buffer.specs.Reaches.{Reaches}
use Rattle.sift_buffer.specs.Tables.{ranges_of}
use Rattle.sift_buffer.specs.declared.rack.Rack.{Rack}
use Rattle.sift_buffer.proofs.RackEvents.{conducts_put}

module _ (a : Rack) (u : ℕ) (s : Stray) (b : Rack) (stored : IsStored a u s b) where
  -- the ranges are those that they were
  pub same_ranges : ranges_for b ≡ ranges_for a
  same_ranges i = ranges_of (stored.layout i) (stored.frames i)

  same_ledger : (j : ℕ) → ledger_at b.acts.items j ≡ ledger_at a.acts.items j
  same_ledger j i = ledger_at (stored.acts i).items j

  -- no unit's own view has changed
  pub same_view : (p : ℕ) → view_at b p ≡ view_at a p
  same_view p i = record {
    ranges = same_ranges i;
    unit = p;
    conduct = conduct_in (same_ledger p i);
    looks = slice_index (stored.looks i) p;
    last = record { unit = slice_index (stored.last_units i) p; number = slice_index (stored.last_numbers i) p };
  }

  -- whatever was stored before, the core is reached by one event
  pub stray_reaches : u < a.grid.layout.units → (conduct_at a u).left < never → IsCell (ranges_for a) u s.to s.slot → (w : ℕ → List Stray) →
      Reaches (ranges_for a) u (core_of a w) (core_of b (with_strays w u (s ∷ [])))
  stray_reaches there left cell w = reaches_one (ranges_for a) u (core_of a w) (core_of b (with_strays w u (s ∷ []))) (stray u s.to s.slot s.cell) refl
      (there, record { turned = left; cell = cell })
      (λ i. record { words = sym stored.words i; of = sym of i })
    where
      of : (core_of b (with_strays w u (s ∷ []))).of ≡ put (core_of a w).of u (with_stray ((core_of a w).of u) s.to s.slot s.cell)
      of = conducts_put a.acts.items b.acts.items w u (s ∷ w u) (λ j ne. same_ledger j)
          ∙ ap (λ (l : Ledger). put (core_of a w).of u (conduct_with l (s ∷ w u))) (same_ledger u)
