-- Numbers, printed and read back.
use Rattle.std.proofs.Common.{◌≡◌, ◌≢◌, ℕ, zero, suc, ◌^◌, ◌<◌, ◌≤◌, ◌⊎◌, inl, inr, List, [], ◌∷◌, length, get_or, ℤ, pos, negsuc, Option, Some}
use Rattle.std.proofs.Common.{None, Result, Ok, Err, IfSome, refl, sym, ap, subst, ◌∙◌, arith, w64, codes}
use Rattle.std.specs.Fmt.{decimal, signed_decimal}
use Rattle.std.specs.Int.RustNames.{FitsSigned}
use Rattle.std.specs.Result.{OkIff, result_ok}
use Rattle.std.specs.Str.Parse.{AllDigits, digits_value, ParsesUnsigned, ParsesSigned}
use Rattle.std.proofs.lemmas.Fmt.{decimal_is_IsNumeral, decimal_digit, decimal-digits_value, first_decimal, parse-decimal, parse-signed_decimal}
use Rattle.std.proofs.lemmas.Str.Parse.{IsNumeralModel, digit_from_value, numerals_by_value, tells_digits, parse_plain, parse_signed_plain}
use Rattle.std.proofs.lemmas.Str.Parse.{parse_signed_minus}
use Rattle.sift_line.specs.Number.{IsPlain, IsNegative, IsSigned}
use Rattle.sift_line.specs.Part.{text_or_dash}
use lib.IntN.{neg_ℤ}
use lib.Signed.{mag}

numerals : IsNumeralModel (AllDigits 10) (digits_value 10)
numerals = numerals_by_value (AllDigits 10) tells_digits

-- ---- the first bytes of what is printed

-- digits of which there is one, or the first isn't 0, begin as a number does
plain_digits : (bs : List ℕ) → AllDigits 10 bs → 0 < length bs → (length bs ≡ 1) ⊎ (48 < get_or bs 0 0) → IsPlain bs
plain_digits [] all some h = absurd (omega arith)
plain_digits (c ∷ []) all some h = digit_from_value c all.0
plain_digits (c ∷ d ∷ cs) all some (inl one) = absurd (omega arith)
plain_digits (c ∷ d ∷ cs) all some (inr more) = (omega arith, (digit_from_value c all.0).1)

one_or_more : (n : ℕ) → n < 2 ^ 64 → (length (decimal n) ≡ 1) ⊎ (48 < get_or (decimal n) 0 0)
one_or_more zero small = inl (rw (decimal_digit 0 (omega arith)))
one_or_more (suc n) small = inr (first_decimal (suc n) (omega arith) small)

decimal_plain : (n : ℕ) → n < 2 ^ 64 → IsPlain (decimal n)
decimal_plain n small = let told = decimal_is_IsNumeral n small in plain_digits (decimal n) told.0.1 told.0.0 (one_or_more n small)

-- the decimal text of a number below 2 ^ 64 begins as a number without a sign
pub decimal_is_plain : (n : ℕ) (bs : List ℕ) → n < 2 ^ 64 → decimal n ≡ bs → IsPlain bs
decimal_is_plain n bs small e = subst IsPlain e (decimal_plain n small)

-- ---- numbers without a sign

first_of_plain : (bs : List ℕ) → IsPlain bs → (48 ≤ get_or bs 0 0) × (get_or bs 0 0 ≤ 57) × (get_or bs 0 0 ≡ 48 → length bs ≡ 1)
first_of_plain [] h = absurd h
first_of_plain (c ∷ []) h = (h.0, h.1, λ _. refl)
first_of_plain (c ∷ d ∷ cs) h = (omega arith, h.1, λ z. absurd (omega arith))

-- what is read of a text that begins so is printed as that text
pub read_is_printed : {E : Type 0} (bs : List ℕ) (r : Result ℕ E) → IsPlain bs → ParsesUnsigned 32 10 bs r → IfSome (result_ok r) (λ n. decimal n ≡ bs)
read_is_printed bs r plain parsed =
    let first = first_of_plain bs plain in
    let no_plus : get_or bs 0 0 ≢ 43 = λ e. omega arith in
    let told = parse_plain numerals 32 bs r parsed no_plus in
    elim r as (λ v. OkIff v (AllDigits 10 bs × (0 < length bs) × (digits_value 10 bs < 2 ^ 32)) (digits_value 10 bs) → IfSome (result_ok v) (λ n. decimal n ≡ bs)) [
      | Ok n ↦ λ h. rw h.1 (decimal-digits_value numerals bs h.0.0 h.0.1 first.2 (omega arith))
      | Err e ↦ λ _. tt
    ] told

-- and what is printed is read back
pub printed_is_read : {E : Type 0} (bs : List ℕ) (r : Result ℕ E) (n : ℕ) → ParsesUnsigned 32 10 bs r → n < 2 ^ 32 → decimal n ≡ bs → result_ok r ≡ Some n
printed_is_read bs r n parsed small e = ap result_ok (parse-decimal 32 n bs r small (omega arith) (sym e) parsed)

-- ---- numbers with a sign

negative_from_plain : (bs : List ℕ) → IsPlain bs → 48 < get_or bs 0 0 → IsNegative (45 ∷ bs)
negative_from_plain [] plain more = absurd plain
negative_from_plain (c ∷ []) plain more = (refl, (omega arith, plain.1))
negative_from_plain (c ∷ d ∷ cs) plain more = (refl, plain)

-- ticks are below 2 ^ 63 in size
pub magnitude : (z : ℤ) → FitsSigned w64 z → mag z < 2 ^ 63
magnitude (pos n) fits = omega (arith, fits)
magnitude (negsuc n) fits = omega (arith, fits)

signed_begins : (z : ℤ) → mag z < 2 ^ 63 → IsSigned (signed_decimal z)
signed_begins (pos n) small = inr (decimal_plain n (omega (arith, small)))
signed_begins (negsuc n) small =
    let below : suc n < 2 ^ 64 = omega (arith, small) in
    inl (negative_from_plain (decimal (suc n)) (decimal_plain (suc n) below) (first_decimal (suc n) (omega arith) below))

-- the text of an integer of 64 bits begins as a number with or without a sign
pub signed_is_signed : (z : ℤ) (bs : List ℕ) → FitsSigned w64 z → signed_decimal z ≡ bs → IsSigned bs
signed_is_signed z bs fits e = subst IsSigned e (signed_begins z (magnitude z fits))

-- behind the sign stands the number without it
behind_sign : (m s c : ℕ) (cs : List ℕ) → IsNegative (s ∷ c ∷ cs) → decimal m ≡ c ∷ cs → signed_decimal (neg_ℤ (pos m)) ≡ s ∷ c ∷ cs
behind_sign zero s c cs negative e =
    let one : 48 ∷ [] ≡ c ∷ cs = sym (decimal_digit 0 (omega arith)) ∙ e in
    let same : 48 ≡ c = (cc) in
    absurd (omega arith)
behind_sign (suc m) s c cs negative e = let sign : s ≡ 45 = negative.0 in (cc)

negative_is_printed : {E : Type 0} (bs : List ℕ) (r : Result ℤ E) → IsNegative bs → ParsesSigned w64 10 bs r → IfSome (result_ok r) (λ z. signed_decimal z ≡ bs)
negative_is_printed [] r negative parsed = absurd negative
negative_is_printed (s ∷ []) r negative parsed = absurd negative
negative_is_printed (s ∷ c ∷ cs) r negative parsed =
    let told = parse_signed_minus numerals w64 (s ∷ c ∷ cs) r parsed negative.0 in
    elim r as (λ v. OkIff v (AllDigits 10 (c ∷ cs) × (0 < length (c ∷ cs)) × (digits_value 10 (c ∷ cs) ≤ 2 ^ 63)) (neg_ℤ (pos (digits_value 10 (c ∷ cs))))
    → IfSome (result_ok v) (λ z. signed_decimal z ≡ s ∷ c ∷ cs)) [
      | Ok n ↦ λ h. rw h.1 (behind_sign _ s c cs negative
          (decimal-digits_value numerals (c ∷ cs) h.0.0 h.0.1 (λ z. absurd (omega (arith, negative.1.0))) (omega arith)))
      | Err e ↦ λ _. tt
    ] told

plain_is_printed : {E : Type 0} (bs : List ℕ) (r : Result ℤ E) → IsPlain bs → ParsesSigned w64 10 bs r → IfSome (result_ok r) (λ z. signed_decimal z ≡ bs)
plain_is_printed bs r plain parsed =
    let first = first_of_plain bs plain in
    let no_plus : get_or bs 0 0 ≢ 43 = λ e. omega arith in
    let no_minus : get_or bs 0 0 ≢ 45 = λ e. omega arith in
    let told = parse_signed_plain numerals w64 bs r parsed no_plus no_minus in
    elim r as (λ v. OkIff v (AllDigits 10 bs × (0 < length bs) × (digits_value 10 bs < 2 ^ 63)) (pos (digits_value 10 bs)) → IfSome (result_ok v) (λ z. signed_decimal z ≡ bs)) [
      | Ok n ↦ λ h. rw h.1 (decimal-digits_value numerals bs h.0.0 h.0.1 first.2 (omega arith))
      | Err e ↦ λ _. tt
    ] told

-- an integer that is read of a text that begins as a number, with or without a sign, is printed as that text
pub signed_is_printed : {E : Type 0} (bs : List ℕ) (r : Result ℤ E) → IsSigned bs → ParsesSigned w64 10 bs r → IfSome (result_ok r) (λ z. signed_decimal z ≡ bs)
signed_is_printed bs r (inl negative) parsed = negative_is_printed bs r negative parsed
signed_is_printed bs r (inr plain) parsed = plain_is_printed bs r plain parsed

-- an integer of 64 bits is read back from the text that it is printed as
pub signed_is_read : {E : Type 0} (bs : List ℕ) (r : Result ℤ E) (z : ℤ) → ParsesSigned w64 10 bs r → FitsSigned w64 z → signed_decimal z ≡ bs → result_ok r ≡ Some z
signed_is_read bs r z parsed fits e = ap result_ok (parse-signed_decimal w64 z bs r fits (magnitude z fits) (sym e) parsed)

-- a dash alone is no number
dash_is_none : IsSigned (codes "-") → ⊥
dash_is_none (inl h) = h
dash_is_none (inr h) = omega (arith, h)

-- where the text of ticks is `-`, there is no number of them
pub no_ticks : (ticks : Option ℤ) (bs : List ℕ) → IfSome ticks (FitsSigned w64) → text_or_dash signed_decimal ticks ≡ bs → bs ≡ codes "-" → ticks ≡ None
no_ticks None bs fit e none = refl
no_ticks (Some z) bs fit e none = absurd (dash_is_none (signed_is_signed z (codes "-") fit (e ∙ none)))
