-- The locals of the machine begin with the locals that live.
use Rattle.std.proofs.Common.{◌≡◌, ℕ, zero, suc, ◌<◌, ◌≤◌, List, [], ◌∷◌, ◌++◌, length, take, Some, refl, ap, arith}
use Rattle.std.specs.Prelude.{slice_get, slice_index, slice_set}

-- the words begin with these; what stands behind them may be anything
abbrev pub BeginWith : List ℕ → List ℕ → Type 0
BeginWith words [] = Unit {0}
BeginWith [] (l ∷ live) = ⊥
BeginWith (w ∷ words) (l ∷ live) = (w ≡ l) × BeginWith words live

-- a local that lives is there
pub begin-get : (words live : List ℕ) (l : ℕ) → BeginWith words live → l < length live → slice_get words l ≡ Some (slice_index live l)
begin-get words [] l b within = absurd (omega arith)
begin-get [] (x ∷ live) l b within = absurd b
begin-get (w ∷ words) (x ∷ live) zero b within = ap Some b.0
begin-get (w ∷ words) (x ∷ live) (suc l) b within = begin-get words live l b.1 (omega arith)

-- it can be set
pub begin-set : (words live : List ℕ) (l v : ℕ) → BeginWith words live → BeginWith (slice_set words l v) (slice_set live l v)
begin-set words [] l v b = tt
begin-set [] (x ∷ live) l v b = absurd b
begin-set (w ∷ words) (x ∷ live) zero v b = (refl, b.1)
begin-set (w ∷ words) (x ∷ live) (suc l) v b = (b.0, begin-set words live l v b.1)

-- one more may live
pub begin-more : (words live : List ℕ) (v : ℕ) → BeginWith words live → length live < length words → BeginWith (slice_set words (length live) v) (live ++ v ∷ [])
begin-more [] [] v b within = absurd (omega arith)
begin-more [] (x ∷ live) v b within = absurd b
begin-more (w ∷ words) [] v b within = (refl, tt)
begin-more (w ∷ words) (x ∷ live) v b within = (b.0, begin-more words live v b.1 (omega arith))

-- and some may live no more
pub begin-take : (n : ℕ) (words live : List ℕ) → BeginWith words live → BeginWith words (take n live)
begin-take zero words live b = tt
begin-take (suc n) words [] b = tt
begin-take (suc n) [] (x ∷ live) b = absurd b
begin-take (suc n) (w ∷ words) (x ∷ live) b = (b.0, begin-take n words live b.1)

-- at least as many words as live
pub begin-long : (words live : List ℕ) → BeginWith words live → length live ≤ length words
begin-long words [] b = omega arith
begin-long [] (x ∷ live) b = absurd b
begin-long (w ∷ words) (x ∷ live) b = omega (arith, begin-long words live b.1)
