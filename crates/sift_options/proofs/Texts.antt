-- A text is a number by its digits, and by a test.
use Rattle.std.proofs.Common.{◌≡◌, ◌^◌, ◌<◌, ◌≤◌, ℕ, List, [], ◌∷◌, Option, Some, None, IfSome, Bool, true, false, nat_lt, length, inl, inr, refl, sym, ap, ◌∙◌, arith}
use Rattle.std.proofs.lemmas.Bool.{cases_Bool}
use Rattle.std.proofs.lemmas.Grind.{common_steps}
use Rattle.std.specs.Char.{digit_value}
use Rattle.std.specs.List.{list_all}
use Rattle.std.specs.Str.Parse.{AllDigits, digits_value}
use Rattle.sift_options.specs.Options.{IsNumber, digit_limit, is_number, number_of}

-- each is a digit, and each is tested
tested : (text : List ℕ) → AllDigits 10 text → list_all (λ c. nat_lt (digit_value c) 10) text ≡ true
tested [] all = refl
tested (c ∷ cs) all = let one = all.0 in let others = tested cs all.1 in grind (arith, common_steps)

-- and the other way round
digits : (text : List ℕ) → list_all (λ c. nat_lt (digit_value c) 10) text ≡ true → AllDigits 10 text
digits [] all = tt
digits (c ∷ cs) all =
    let one : digit_value c < 10 = grind (arith, common_steps) in
    let others : list_all (λ d. nat_lt (digit_value d) 10) cs ≡ true = grind (arith, common_steps) in
    (one, digits cs others)

-- a text that is a number passes the test
passes : (text : List ℕ) (n : ℕ) → IsNumber text n → is_number text ≡ true
passes text n is =
    let all = tested text is.digits in let some = is.some in let few = is.few in
    let low : digits_value 10 text < 2 ^ 64 = rw is.value is.low in
    grind (arith, common_steps)

-- and one that passes is one
is_one : (text : List ℕ) → is_number text ≡ true → IsNumber text (digits_value 10 text)
is_one text is =
    let all : list_all (λ c. nat_lt (digit_value c) 10) text ≡ true = grind (arith, common_steps) in
    let some : 1 ≤ length text = grind (arith, common_steps) in
    let few : length text ≤ digit_limit = grind (arith, common_steps) in
    let low : digits_value 10 text < 2 ^ 64 = grind (arith, common_steps) in
    record { digits = digits text all; some = some; few = few; value = refl; low = low }

-- what is found by the digits is the number of the text
pub same : (text : List ℕ) (found : Option ℕ) → IfSome found (IsNumber text) → ((n : ℕ) → IsNumber text n → found ≡ Some n) → found ≡ number_of text
same text (Some n) is exact = rw (passes text n is) (rw is.value refl)
same text None is exact =
    elim (cases_Bool (is_number text)) [
      | inl passed ↦ rw passed (exact (digits_value 10 text) (is_one text passed))
      | inr failed ↦ rw failed refl
    ]
