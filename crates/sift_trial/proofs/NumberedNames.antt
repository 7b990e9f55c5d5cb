-- The names of drawn sensors and tasks: a letter and a number are a name, and other numbers make other names.
use Rattle.std.proofs.Common.{◌≡◌, ◌≢◌, ℕ, zero, suc, ◌≤◌, ◌<◌, ◌^◌, inl, inr, List, [], ◌∷◌, length, slice_index, subst, arith}
use Rattle.std.specs.Char.{IsAsciiLowercase}
use Rattle.std.specs.Fmt.{decimal}
use Rattle.std.specs.List.{All, Contains}
use Rattle.std.specs.Str.Parse.{AllDigits}
use Rattle.std.proofs.lemmas.Fmt.{decimal_injective, decimal_is_IsNumeral, length-decimal-le}
use Rattle.std.proofs.lemmas.Str.Parse.{digit_from_value}
use Rattle.sift_base.specs.Name.{IsName, IsNameByte, keywords}
use Rattle.sift_gen.specs.Tasks.{sensor_name, task_name}

-- ---- forms

-- digits may stand in a name
digits_stand : (ds : List ℕ) → AllDigits 10 ds → All IsNameByte ds
digits_stand [] digits k d low = absurd (omega (arith, low))
digits_stand (b ∷ ds) digits zero d low = inr (inl (digit_from_value b digits.0))
digits_stand (b ∷ ds) digits (suc k) d low = digits_stand ds digits.1 k d (omega (arith, low))

-- the second byte is there, and is a letter
abbrev HasSecondLetter : List ℕ → Type 0
HasSecondLetter w = (2 ≤ length w) × (97 ≤ slice_index w 1)

-- so it is in each keyword
keyword_second : (w : List ℕ) → Contains keywords w → HasSecondLetter w
keyword_second w (zero, low, e) = subst HasSecondLetter e (omega arith, omega arith)
keyword_second w (suc zero, low, e) = subst HasSecondLetter e (omega arith, omega arith)
keyword_second w (suc (suc zero), low, e) = subst HasSecondLetter e (omega arith, omega arith)
keyword_second w (suc (suc (suc zero)), low, e) = subst HasSecondLetter e (omega arith, omega arith)
keyword_second w (suc (suc (suc (suc zero))), low, e) = subst HasSecondLetter e (omega arith, omega arith)
keyword_second w (suc (suc (suc (suc (suc zero)))), low, e) = subst HasSecondLetter e (omega arith, omega arith)
keyword_second w (suc (suc (suc (suc (suc (suc zero))))), low, e) = subst HasSecondLetter e (omega arith, omega arith)
keyword_second w (suc (suc (suc (suc (suc (suc (suc zero)))))), low, e) = subst HasSecondLetter e (omega arith, omega arith)
keyword_second w (suc (suc (suc (suc (suc (suc (suc (suc zero))))))), low, e) = subst HasSecondLetter e (omega arith, omega arith)
keyword_second w (suc (suc (suc (suc (suc (suc (suc (suc (suc k)))))))), low, e) = absurd (omega (arith, low))

-- and in no letter with digits after it
no_second : (c : ℕ) (ds : List ℕ) → AllDigits 10 ds → ¬ HasSecondLetter (c ∷ ds)
no_second c [] digits second = let long = second.0 in omega arith
no_second c (b ∷ ds) digits second = let digit = digit_from_value b digits.0 in let letter = second.1 in omega arith

-- a letter and few digits are a name
digits_named : (c : ℕ) (ds : List ℕ) → IsAsciiLowercase c → AllDigits 10 ds → length ds ≤ 15 → IsName (c ∷ ds)
digits_named c ds lower digits few = record {
  formed = (lower, digits_stand ds digits);
  short = omega (arith, few);
  free = λ among. no_second c ds digits (keyword_second (c ∷ ds) among);
}

-- a letter is a name
pub letter_named : (c : ℕ) → IsAsciiLowercase c → IsName (c ∷ [])
letter_named c lower = digits_named c [] lower tt (omega arith)

-- a letter and a number are a name
numbered_named : (c n : ℕ) → IsAsciiLowercase c → n < 2 ^ 16 → IsName (c ∷ decimal n)
numbered_named c n lower small =
    let digits = decimal_is_IsNumeral n (omega (arith, small)) in
    let few = length-decimal-le 5 n (omega arith) (omega (arith, small)) (omega (arith, small)) in
    digits_named c (decimal n) lower digits.0.1 (omega (arith, few))

-- ---- sensors and tasks

-- `s` and a number of 16 bits, as a drawn sensor is called, are a name
pub sensor_named : (k : ℕ) → k < 2 ^ 16 → IsName (sensor_name k)
sensor_named k small = numbered_named 115 k (omega arith, omega arith) small

-- `t` and a number of 16 bits, as a drawn task is called, are a name
pub task_named : (k : ℕ) → k < 2 ^ 16 → IsName (task_name k)
task_named k small = numbered_named 116 k (omega arith, omega arith) small

-- names that tell their numbers
pub record AreNumbered (name : ℕ → List ℕ) : Type 0 where
  pub tells : (i k : ℕ) → i < 2 ^ 16 → k < 2 ^ 16 → name i ≡ name k → i ≡ k

-- drawn sensors of one name have one number, among numbers of 16 bits
pub sensors_numbered : AreNumbered sensor_name
sensors_numbered = record { tells = λ i k low small same. decimal_injective i k (omega (arith, low)) (omega (arith, small)) (cc same) }

-- drawn tasks of one name have one number, among numbers of 16 bits
pub tasks_numbered : AreNumbered task_name
tasks_numbered = record { tells = λ i k low small same. decimal_injective i k (omega (arith, low)) (omega (arith, small)) (cc same) }

-- so no two of them are one
pub numbered_differ : (name : ℕ → List ℕ) → AreNumbered name → (i k : ℕ) → i < k → k < 2 ^ 16 → name i ≢ name k
numbered_differ name numbered i k before small same =
    let one = numbered.tells i k (omega (arith, before, small)) small same in omega (arith, one, before)
