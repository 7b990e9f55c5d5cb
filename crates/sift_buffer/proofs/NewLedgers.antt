-- A ledger of zeros tells that nothing was done.
use Rattle.std.proofs.Common.{◌≡◌, ℕ, zero, suc, [], replicate, slice_index, slice_index_or, refl, ◌∙◌}
use Rattle.sift_buffer.specs.Conduct.{fresh, never}
use Rattle.sift_buffer.specs.Tables.{entry_at}
use Rattle.sift_buffer.specs.Journals.{ranges_in, said_in, heard_in}
use Rattle.sift_buffer.specs.Ledgers.{Ledger, saying_of, hearing_of, conduct_in}
use Rattle.sift_buffer.proofs.lemmas.Tables.{entry_none}

-- a list of zeros has nothing else
pub zeros : (n i : ℕ) → ◌≡◌ {A = ℕ} (slice_index_or (replicate n 0) i 0) 0
zeros zero i = refl
zeros (suc n) zero = refl
zeros (suc n) (suc i) = zeros n i

-- a new ledger
pub ledger_fresh : (l : Ledger) (m n p : ℕ) →
    l.progress ≡ 0 → l.left ≡ never → l.seen ≡ replicate p 0 → l.said ≡ replicate m 0 → l.asked ≡ replicate n 0 → conduct_in l ≡ fresh
ledger_fresh l m n p progress left seen said asked i = record {
  progress = progress i;
  left = left i;
  seen = λ u. ((λ j. slice_index (seen j) u) ∙ zeros p u) i;
  said = λ f k q. ((λ j. saying_of (entry_at 0 (ranges_in l.pages) (said j) f k q) (said_in l.pages f k q))
      ∙ (λ j. saying_of (entry_none 0 (ranges_in l.pages) (replicate m 0) (zeros m) j f k q) (said_in l.pages f k q))) i;
  heard = λ f k q. ((λ j. hearing_of (entry_at 0 (ranges_in l.pages) (asked j) f k q) (entry_at 0 (ranges_in l.pages) l.heard_at f k q) (heard_in l.pages f k q))
      ∙ (λ j. hearing_of (entry_none 0 (ranges_in l.pages) (replicate n 0) (zeros n) j f k q)
      (entry_at 0 (ranges_in l.pages) l.heard_at f k q) (heard_in l.pages f k q))) i;
  strays = [];
}
