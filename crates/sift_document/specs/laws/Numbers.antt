-- Integers between two numbers.
use Rattle.std.proofs.Common.{◌≡◌, ◌≤◌, ℕ, suc, Option, Some, None, IfSome, arith}
use Rattle.std.specs.Prelude.{pos, negsuc, option_and_then, option_map, unwrap_or}
use Rattle.toml.specs.Data.{Data, string, integer, float, boolean, datetime, array, table}
use Rattle.sift_document.specs.Document.{integer_between}

-- a number that is read lies between the two
pub between : (low high : ℕ) (d : Data) (n : ℕ) → integer_between low high d ≡ Some n → (low ≤ n) × (n ≤ high)
between low high (integer (pos m)) n is = grind arith
between low high (integer (negsuc m)) n is = cc
between low high (string s) n is = cc
between low high (float x) n is = cc
between low high (boolean b) n is = cc
between low high (datetime t) n is = cc
between low high (array ds) n is = cc
between low high (table ms) n is = cc

-- and so does one that is read of a value that may be absent
pub between_at : (low high : ℕ) (d : Option Data) (n : ℕ) → option_and_then (integer_between low high) d ≡ Some n → (low ≤ n) × (n ≤ high)
between_at low high None n is = cc
between_at low high (Some d) n is = between low high d n is

-- what a reader makes of a value, and something else where there is none
abbrev pub read_by : {A : Type 0} → A → (Data → Option A) → Option Data → Option A
read_by missing read value = unwrap_or (option_map read value) (Some missing)

-- what is read of an optional number is as stated: a number between the two, or nothing where the key is missing
pub between_or :
    (low high : ℕ) (d : Option Data) (stated : Option ℕ)
    → ((unstated : ℕ) → read_by unstated (integer_between low high) d ≡ Some (unwrap_or stated unstated)) → IfSome stated (λ n. n ≤ high)
between_or low high d None is = tt
between_or low high None (Some n) is =
    let one = is 0 in let other = is (suc n) in
    let same : 0 ≡ n = cc one in let wrong : suc n ≡ n = cc other in absurd (omega (arith, wrong))
between_or low high (Some d) (Some n) is = (between low high d n (is 0)).1
