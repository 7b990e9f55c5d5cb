-- Counts over the entries of a log.
use Rattle.std.proofs.Common.{◌≡◌, ℕ, zero, suc, ◌+◌, ◌<◌, Bool, true, if◌then◌else◌, refl, arith, lt-ltb}
use Rattle.sift_buffer.specs.Ranges.{Ranges}
use Rattle.sift_bus_port.specs.Logs.{has_entry, count_below, count_places}

-- where two tests are one below a number, they count the same
same_below : (is was : ℕ → Bool) (n : ℕ) → ((i : ℕ) → i < n → is i ≡ was i) → count_below is n ≡ count_below was n
same_below is was zero all = refl
same_below is was (suc n) all = λ i. same_below is was n (λ j low. all j (omega arith)) i + (if all n (omega arith) i then 1 else 0)

-- and of places
pub same_places : (is was : ℕ → ℕ → Bool) (slots units : ℕ) → ((k p : ℕ) → k < slots → p < units → is k p ≡ was k p) →
    count_places is slots units ≡ count_places was slots units
same_places is was zero units all = refl
same_places is was (suc n) units all = λ i. same_places is was n units (λ k p low here. all k p (omega arith) here) i
    + same_below (is n) (was n) units (λ p here. all n p (omega arith) here) i

-- a frame, a slot and a unit below the ranges are an entry
pub entry_there : (r : Ranges) (f k p : ℕ) → f < r.frames → k < r.slots → p < r.units → has_entry r f k p ≡ true
entry_there r f k p frame slot unit = rw (lt-ltb f r.frames frame, lt-ltb k r.slots slot, lt-ltb p r.units unit) refl
