use Rattle.std.proofs.Common.{◌≡◌, ℕ, ◌+◌, ◌*◌, ◌/◌, ◌%◌, ◌<◌, ◌≤◌, List, [], ◌∷◌, length, get_or, false, Some, refl, sym, ap, ◌∙◌, arith}
use Rattle.std.specs.Fmt.{digit_glyph}
use Rattle.sift_line.specs.Part.{word_text}
use Rattle.sift_line.proofs.LineForms.{byte_at}
use Rattle.sift_line.proofs.Results.{held, none_given}
use Rattle.sift_line.proofs.number.read_word.Goals as goal

-- the text of a word whose digits these are
text_of_digits : (h i j k w : ℕ) (bs : List ℕ) → h < 16 → i < 16 → j < 16 → k < 16 → w ≡ (h * 16 + i) * 256 + (j * 16 + k)
    → 4 ≤ length bs → length bs < 5 → digit_glyph false h ≡ get_or bs 0 0 → digit_glyph false i ≡ get_or bs 1 0 → digit_glyph false j ≡ get_or bs 2 0
    → digit_glyph false k ≡ get_or bs 3 0 → word_text w ≡ bs
text_of_digits h i j k w (a ∷ b ∷ c ∷ d ∷ []) first second third fourth is low high is_a is_b is_c is_d =
    let one : w / 4096 ≡ h = omega arith in
    let two : w / 256 % 16 ≡ i = omega arith in
    let three : w / 16 % 16 ≡ j = omega arith in
    let four : w % 16 ≡ k = omega arith in
    rw (one, two, three, four, is_a, is_b, is_c, is_d) refl
text_of_digits h i j k w bs first second third fourth is low high is_a is_b is_c is_d = absurd (omega arith)

pub overflow_mul-high : goal.overflow_mul-high
overflow_mul-high c = omega (arith, c.in_ok-hex_value.ensures.below)

pub overflow_add-high : goal.overflow_add-high
overflow_add-high c = omega (arith, c.in_ok-hex_value.ensures.below, c.in_ok-high.ensures.below)

pub overflow_mul-low : goal.overflow_mul-low
overflow_mul-low c = omega (arith, c.in_ok-hex_value-2.ensures.below)

pub overflow_add-low : goal.overflow_add-low
overflow_add-low c = omega (arith, c.in_ok-hex_value-2.ensures.below, c.in_ok-low.ensures.below)

pub overflow_mul-high-2 : goal.overflow_mul-high-2
overflow_mul-high-2 c = omega (arith, c.in_ok-hex_value.ensures.below, c.in_ok-high.ensures.below)

pub overflow_add-high-2 : goal.overflow_add-high-2
overflow_add-high-2 c =
    omega (arith, c.in_ok-hex_value.ensures.below, c.in_ok-high.ensures.below, c.in_ok-hex_value-2.ensures.below, c.in_ok-low.ensures.below)

pub returns-clause-printed : goal.returns-clause-printed
returns-clause-printed c =
    text_of_digits _ _ _ _ c.of.result c.as_bytes.result.now
    c.in_ok-hex_value.ensures.below c.in_ok-high.ensures.below c.in_ok-hex_value-2.ensures.below c.in_ok-low.ensures.below c.of.ensures
    c.in-len4.len_at_least c.in-len4.len_below
    c.in_ok-hex_value.ensures.printed c.in_ok-high.ensures.printed c.in_ok-hex_value-2.ensures.printed c.in_ok-low.ensures.printed
    ∙ c.as_bytes.ensures.value

pub returns-in_err-hex_value-clause-exact : goal.returns-in_err-hex_value-clause-exact
returns-in_err-hex_value-clause-exact c = λ w small e.
    absurd (none_given (w / 4096) (c.in_err-hex_value.ensures.exact (w / 4096) (omega arith) (byte_at 0 _ _ (e ∙ sym c.as_bytes.ensures.value))))

pub returns-in_err-high-clause-exact : goal.returns-in_err-high-clause-exact
returns-in_err-high-clause-exact c = λ w small e.
    absurd (none_given (w / 256 % 16) (c.in_err-high.ensures.exact (w / 256 % 16) (omega arith) (byte_at 1 _ _ (e ∙ sym c.as_bytes.ensures.value))))

pub returns-in_err-hex_value-2-clause-exact : goal.returns-in_err-hex_value-2-clause-exact
returns-in_err-hex_value-2-clause-exact c = λ w small e.
    absurd (none_given (w / 16 % 16) (c.in_err-hex_value-2.ensures.exact (w / 16 % 16) (omega arith) (byte_at 2 _ _ (e ∙ sym c.as_bytes.ensures.value))))

pub returns-in_err-low-clause-exact : goal.returns-in_err-low-clause-exact
returns-in_err-low-clause-exact c = λ w small e.
    absurd (none_given (w % 16) (c.in_err-low.ensures.exact (w % 16) (omega arith) (byte_at 3 _ _ (e ∙ sym c.as_bytes.ensures.value))))

pub returns-clause-exact : goal.returns-clause-exact
returns-clause-exact c = λ w small e.
    let bytes = e ∙ sym c.as_bytes.ensures.value in
    let first = held _ (w / 4096) (c.in_ok-hex_value.ensures.exact (w / 4096) (omega arith) (byte_at 0 _ _ bytes)) in
    let second = held _ (w / 256 % 16) (c.in_ok-high.ensures.exact (w / 256 % 16) (omega arith) (byte_at 1 _ _ bytes)) in
    let third = held _ (w / 16 % 16) (c.in_ok-hex_value-2.ensures.exact (w / 16 % 16) (omega arith) (byte_at 2 _ _ bytes)) in
    let fourth = held _ (w % 16) (c.in_ok-low.ensures.exact (w % 16) (omega arith) (byte_at 3 _ _ bytes)) in
    ap Some (c.of.ensures ∙ omega (arith, first, second, third, fourth))
