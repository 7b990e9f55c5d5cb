-- The text of a line is ASCII, and so a text.
use Rattle.std.proofs.Common.{◌≡◌, ◌∙◌, sym, ℕ, zero, suc, ◌<◌, ◌/◌, ◌%◌, ◌^◌, false, true, ◌||◌, List, [], ◌∷◌, ◌++◌, map, Bool, ◌&&◌, Option, Some, None, ℤ, pos, negsuc, arith, rules, w64, refl}
use Rattle.std.specs.Prelude.{nat_eq, IfSome, IsAscii, IsUtf8, ⊤}
use Rattle.std.specs.Int.RustNames.{FitsSigned}
use Rattle.std.specs.Fmt.{decimal, signed_decimal, digit_glyph}
use Rattle.std.specs.List.{All, join_with_byte}
use Rattle.std.specs.Str.Parse.{AllDigits}
use Rattle.std.proofs.lemmas.Bool.Decides.{nat_tests}
use Rattle.std.proofs.lemmas.Fmt.{decimal_is_IsNumeral}
use Rattle.std.proofs.lemmas.Str.{IsUtf8-from_ascii}
use Rattle.std.proofs.lemmas.Str.Parse.{digit_from_value}
use Rattle.sift_base.specs.Units.{Units, has, holds, members, unit_limit, unit_numbers}
use Rattle.sift_base.specs.laws.ReadBack.{has-filter}
use Rattle.sift_base.specs.laws.Counts.{has-head}
use Rattle.sift_exec.specs.declared.catches.Kinds.{Kinds}
use Rattle.sift_exec.specs.declared.catches.Catches.{Catches}
use Rattle.sift_exec.specs.Conviction.{everyone_in, kinds_of}
use Rattle.sift_line.specs.Bad.{caught_text, kinds_text}
use Rattle.sift_line.specs.declared.catch.Bad.{Bad}
use Rattle.sift_line.specs.declared.catch.Bad.TheVariants.{Plain, ByKind}
use Rattle.sift_line.specs.Line.{IsLine, fields_of, line_text}
use Rattle.sift_line.specs.Part.{list_text, margin_text, text_or_dash, unit_digit, units_text, word_text, words_text}
use Rattle.sift_line.specs.declared.line.ReportLine.{ReportLine}
use Rattle.sift_line.specs.declared.line.ReportLine.TheVariants.{Unit as unit, Faulty, Idle, Frame, Last}

-- each byte is one of ASCII
abbrev AreAscii : List ℕ → Type 0
AreAscii [] = ⊤
AreAscii (b ∷ bs) = (b < 128) × AreAscii bs

-- each text is one of them
abbrev AllAscii : List (List ℕ) → Type 0
AllAscii [] = ⊤
AllAscii (text ∷ texts) = AreAscii text × AllAscii texts

-- ---- texts in turn

ascii-append : (xs ys : List ℕ) → AreAscii xs → AreAscii ys → AreAscii (xs ++ ys)
ascii-append [] ys h k = k
ascii-append (x ∷ xs) ys h k = (h.0, ascii-append xs ys h.1 k)

ascii-join : (between : ℕ) (texts : List (List ℕ)) → between < 128 → AllAscii texts → AreAscii (join_with_byte between texts)
ascii-join between [] low h = tt
ascii-join between (x ∷ []) low h = h.0
ascii-join between (x ∷ y ∷ ys) low h = ascii-append x (between ∷ join_with_byte between (y ∷ ys)) h.0 (low, ascii-join between (y ∷ ys) low h.1)

ascii-list : (parts : List (List ℕ)) → AllAscii parts → AreAscii (list_text parts)
ascii-list [] h = (omega arith, tt)
ascii-list (x ∷ xs) h = ascii-join 44 (x ∷ xs) (omega arith) h

-- ---- numbers and words

ascii-digits : (ds : List ℕ) → AllDigits 10 ds → AreAscii ds
ascii-digits [] h = tt
ascii-digits (d ∷ ds) h = let range = digit_from_value d h.0 in (omega (arith, range.1), ascii-digits ds h.1)

ascii-decimal : (n : ℕ) → n < 2 ^ 64 → AreAscii (decimal n)
ascii-decimal n small = ascii-digits (decimal n) (decimal_is_IsNumeral n small).0.1

ascii-number : (n : ℕ) → n < 2 ^ 32 → AreAscii (decimal n)
ascii-number n small = ascii-decimal n (omega arith)

ascii-signed : (z : ℤ) → FitsSigned w64 z → AreAscii (signed_decimal z)
ascii-signed (pos n) fits = ascii-decimal n (omega (arith, fits))
ascii-signed (negsuc n) fits = (omega arith, ascii-decimal (suc n) (omega (arith, fits)))

ascii-ticks : (ticks : Option ℤ) → IfSome ticks (FitsSigned w64) → AreAscii (text_or_dash signed_decimal ticks)
ascii-ticks None h = (omega arith, tt)
ascii-ticks (Some z) h = ascii-signed z h

ascii-glyph : (d : ℕ) → d < 16 → digit_glyph false d < 128
ascii-glyph d low = grind (arith, nat_tests)

ascii-word : (w : ℕ) → w < 2 ^ 16 → AreAscii (word_text w)
ascii-word w fits =
    (ascii-glyph (w / 4096) (omega arith), (ascii-glyph (w / 256 % 16) (omega arith), (ascii-glyph (w / 16 % 16) (omega arith), (ascii-glyph (w % 16) (omega arith), tt))))

ascii-parts : (words : List ℕ) → All (λ w. w < 2 ^ 16) words → AllAscii (map word_text words)
ascii-parts [] all = tt
ascii-parts (w ∷ ws) all = (ascii-word w (all 0 w (omega arith)), ascii-parts ws (λ i d low. all (suc i) d (omega arith)))

ascii-words : (words : List ℕ) → All (λ w. w < 2 ^ 16) words → AreAscii (words_text words)
ascii-words words all = ascii-list (map word_text words) (ascii-parts words all)

ascii-margin : (margin : Bool) → AreAscii (margin_text margin)
ascii-margin true = search rules
ascii-margin false = search rules

-- ---- units

-- each unit of a list is one
abbrev AreInside : List ℕ → Type 0
AreInside us = (u : ℕ) → has us u ≡ true → u < unit_limit

there_later : (u v : ℕ) (us : List ℕ) → has us v ≡ true → has (u ∷ us) v ≡ true
there_later u v us there = rw there (later (nat_eq u v))
  where
    later : (first : Bool) → (first || true) ≡ true
    later true = refl
    later false = refl

ascii-digit : (u : ℕ) → u < unit_limit → unit_digit u < 128
ascii-digit u low = omega arith

ascii-members : (us : List ℕ) → AreInside us → AreAscii (map unit_digit us)
ascii-members [] inside = tt
ascii-members (u ∷ us) inside =
    (ascii-digit u (inside u (has-head u us)), ascii-members us (λ v there. inside v (there_later u v us there)))

ascii-units : (us : List ℕ) → AreInside us → AreAscii (units_text us)
ascii-units [] inside = (omega arith, tt)
ascii-units (u ∷ us) inside = ascii-members (u ∷ us) inside

-- the members of a set are among the numbers of units
inside_numbers : AreInside unit_numbers
inside_numbers u there = grind (arith, nat_tests)

inside_set : (units : Units) → AreInside (members units)
unfolding members
inside_set units u there = inside_numbers u (both (holds units u) (has unit_numbers u) (sym (has-filter (holds units) unit_numbers u) ∙ there))
  where
    both : (a b : Bool) → (a && b) ≡ true → b ≡ true
    both true b h = h
    both false b h = absurd (cc h)

-- ---- catches

ascii-kinds : (kinds : Kinds) → AreAscii (kinds_text kinds)
ascii-kinds kinds = letters kinds.poll kinds.relay kinds.clock
  where
    letters : (poll relay clock : Bool) → AreAscii (kinds_text (record { poll = poll; relay = relay; clock = clock }))
    letters true true true = search rules
    letters true true false = search rules
    letters true false true = search rules
    letters true false false = search rules
    letters false true true = search rules
    letters false true false = search rules
    letters false false true = search rules
    letters false false false = search rules

ascii-catches : (caught : Catches) (us : List ℕ) → AreInside us → AllAscii (map (λ u. unit_digit u ∷ kinds_text (kinds_of caught u)) us)
ascii-catches caught [] inside = tt
ascii-catches caught (u ∷ us) inside = (
  (ascii-digit u (inside u (has-head u us)), ascii-kinds (kinds_of caught u)),
  ascii-catches caught us (λ v there. inside v (there_later u v us there)),
)

ascii-caught : (bad : Bad) → AreAscii (caught_text bad)
ascii-caught (Plain units) = ascii-units (members units) (inside_set units)
ascii-caught (ByKind caught) = ascii-list (map (λ u. unit_digit u ∷ kinds_text (kinds_of caught u)) (members (everyone_in caught)))
    (ascii-catches caught (members (everyone_in caught)) (inside_set (everyone_in caught)))

-- ---- lines

fields_ascii : (line : ReportLine) → IsLine line → AllAscii (fields_of line)
fields_ascii (unit n u cfg clk ins outs bad) holds =
    search (
      rules,
      ascii-number n holds.0,
      ascii-digit u holds.1,
      ascii-units cfg holds.2.inside,
      ascii-signed clk holds.3,
      ascii-words ins.items holds.4.0,
      ascii-words outs.items holds.5.0,
      ascii-caught bad,
    )
fields_ascii (Faulty n u) holds = search (rules, ascii-number n holds.0, ascii-digit u holds.1)
fields_ascii (Idle n u) holds = search (rules, ascii-number n holds.0, ascii-digit u holds.1)
fields_ascii (Frame n skew slack margin) holds = search (rules, ascii-number n holds.0, ascii-ticks skew holds.1, ascii-ticks slack holds.2, ascii-margin margin)
fields_ascii (Last n cfg margin) holds = search (rules, ascii-number n holds.0, ascii-units cfg holds.1.inside, ascii-margin margin)

is_ascii : (bs : List ℕ) → AreAscii bs → IsAscii bs
is_ascii [] h i = omega arith
is_ascii (b ∷ bs) h zero = h.0
is_ascii (b ∷ bs) h (suc i) = is_ascii bs h.1 i

-- the text of a line is UTF-8
pub line_is_a_text : (line : ReportLine) → IsLine line → IsUtf8 (line_text line)
line_is_a_text line holds = IsUtf8-from_ascii (line_text line) (is_ascii (line_text line) (ascii-join 32 (fields_of line) (omega arith) (fields_ascii line holds)))
