-- Integers that are near to 0, as a document states them for each unit.
use Rattle.std.proofs.Common.{◌≡◌, ℕ, zero, suc, List, [], ◌∷◌, length, Option, Some, None, replicate, refl, subst, arith}
use Rattle.std.proofs.lemmas.Int.{ints}
use Rattle.std.proofs.lemmas.List.{length-replicate}
use Rattle.std.specs.List.{All}
use Rattle.std.specs.Prelude.{ℤ, pos, option_and_then, unwrap_or}
use Rattle.toml.specs.Data.{Data, string, integer, float, boolean, datetime, array, table}
use Rattle.sift_clock.specs.Distance.{IsWithin}
use Rattle.sift_document.specs.Document.{array_between, array_of, each_read, list_of}
use Rattle.sift_document.specs.laws.ReadEntries.{array_between-long, each_read-parts, of_length}
use Rattle.sift_document.specs.laws.Numbers.{read_by}
use Rattle.sift_sections.specs.Clock.{ticks_within, unit_ticks}
use Rattle.sift_sections.specs.laws.Decided.{all_more}

-- ---- what is read

-- what is kept for its length is what it was kept from
kept_whole : {A : Type 0} (low high : ℕ) (o : Option (List A)) (xs : List A) → option_and_then (of_length low high) o ≡ Some xs → o ≡ Some xs
kept_whole low high None xs is = cc
kept_whole low high (Some ys) xs is = grind arith

module _ {B : Type 0} (P : B → Type 0) where
  module _ {A : Type 0} (read : A → Option B) (right : (a : A) (x : B) → read a ≡ Some x → P x) where
    -- what holds of each thing that may be read holds of all that are read
    all_read : (ins : List A) (xs : List B) → each_read read ins ≡ Some xs → All P xs
    all_read [] xs is = let none : [] ≡ xs = cc is in subst (All P) none (λ k d low. absurd (omega (arith, low)))
    all_read (a ∷ ins) xs is =
        let parts = each_read-parts (read a) (each_read read ins) xs is in
        subst (All P) parts.4 (all_more P parts.0 parts.1 (right a parts.0 parts.2) (all_read ins parts.1 parts.3))

  module _ (read : Data → Option B) (right : (d : Data) (x : B) → read d ≡ Some x → P x) where
    -- the same of an array
    all_of : (d : Data) (xs : List B) → array_of read d ≡ Some xs → All P xs
    all_of (array items) xs is = all_read read right (list_of items) xs is
    all_of (integer z) xs is = cc
    all_of (string s) xs is = cc
    all_of (float x) xs is = cc
    all_of (boolean b) xs is = cc
    all_of (datetime t) xs is = cc
    all_of (table ms) xs is = cc

    -- and of one of so many entries
    all_between : (low high : ℕ) (d : Data) (xs : List B) → array_between low high read d ≡ Some xs → All P xs
    all_between low high d xs is = all_of d xs (kept_whole low high (array_of read d) xs is)

    -- what is read of a value that may be missing, where it holds of what stands for it
    pub right_or : (missing : B) → P missing → (d : Option Data) (x : B) → read_by missing read d ≡ Some x → P x
    right_or missing holds None x is = let same : missing ≡ x = cc is in subst P same holds
    right_or missing holds (Some d) x is = right d x is

  -- what is read holds, where there is something
  pub right_in : (missing : B) (o : Option B) → (o ≡ None → ⊥) → ((x : B) → o ≡ Some x → P x) → P (unwrap_or o missing)
  right_in missing None some right = absurd (some refl)
  right_in missing (Some x) some right = right x refl

-- ---- near to 0

-- what holds of one thing holds of each of many of it
pub All-replicate : {A : Type 0} (P : A → Type 0) (n : ℕ) (x : A) → P x → All P (replicate n x)
All-replicate P zero x holds k d low = absurd (omega (arith, low))
All-replicate P (suc n) x holds zero d low = holds
All-replicate P (suc n) x holds (suc k) d low = All-replicate P n x holds k d (omega (arith, low))

-- an integer that is read is near to 0
near_zero : (far : ℕ) (d : Data) (z : ℤ) → ticks_within far d ≡ Some z → IsWithin (pos far) z (pos 0)
near_zero far (integer x) z is = grind (arith, ints)
near_zero far (array items) z is = cc
near_zero far (string s) z is = cc
near_zero far (float x) z is = cc
near_zero far (boolean b) z is = cc
near_zero far (datetime t) z is = cc
near_zero far (table ms) z is = cc

-- so many integers, all near to 0
abbrev pub AreTicks : (units far : ℕ) → List ℤ → Type 0
AreTicks units far ticks = (length ticks ≡ units) × All (λ tick. IsWithin (pos far) tick (pos 0)) ticks

-- so many rows of them
abbrev pub AreRows : (units far : ℕ) → List (List ℤ) → Type 0
AreRows units far rows = (length rows ≡ units) × All (AreTicks units far) rows

-- what is read of an array of one for each unit has them
ticks_read : (units far : ℕ) (d : Data) (ticks : List ℤ) → unit_ticks units far d ≡ Some ticks → AreTicks units far ticks
ticks_read units far d ticks is =
    let long = array_between-long units units (ticks_within far) d ticks is in
    (omega (arith, long.0, long.1), all_between (λ tick. IsWithin (pos far) tick (pos 0)) (ticks_within far) (near_zero far) units units d ticks is)

-- and so does one of rows
rows_read :
    (units far : ℕ) (d : Data) (rows : List (List ℤ))
    → array_between units units (unit_ticks units far) d ≡ Some rows → AreRows units far rows
rows_read units far d rows is =
    let long = array_between-long units units (unit_ticks units far) d rows is in
    (omega (arith, long.0, long.1), all_between (AreTicks units far) (unit_ticks units far) (ticks_read units far) units units d rows is)

-- as many zeros are
pub zeros_near : (units far : ℕ) → AreTicks units far (replicate units (pos 0))
zeros_near units far = (
  length-replicate units (pos 0),
  All-replicate (λ tick. IsWithin (pos far) tick (pos 0)) units (pos 0) (omega (arith, ints), omega (arith, ints)),
)

-- and as many rows of them
pub rows_near : (units far : ℕ) → AreRows units far (replicate units (replicate units (pos 0)))
rows_near units far = (
  length-replicate units (replicate units (pos 0)),
  All-replicate (AreTicks units far) units (replicate units (pos 0)) (zeros_near units far),
)

-- ---- values that may be missing

-- what is read of a value that may be missing, and is zeros then
pub ticks_or :
    (units far : ℕ) (d : Option Data) (ticks : List ℤ)
    → read_by (replicate units (pos 0)) (unit_ticks units far) d ≡ Some ticks → AreTicks units far ticks
ticks_or units far d ticks is =
    right_or (AreTicks units far) (unit_ticks units far) (ticks_read units far) (replicate units (pos 0)) (zeros_near units far) d ticks is

-- the same of rows
pub rows_or :
    (units far : ℕ) (d : Option Data) (rows : List (List ℤ))
    → read_by (replicate units (replicate units (pos 0))) (array_between units units (unit_ticks units far)) d ≡ Some rows → AreRows units far rows
rows_or units far d rows is =
    right_or (AreRows units far) (array_between units units (unit_ticks units far)) (rows_read units far)
    (replicate units (replicate units (pos 0))) (rows_near units far) d rows is
