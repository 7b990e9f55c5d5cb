-- A text has one sheet: each part of a line is known from its text.
use Rattle.std.proofs.Common.{◌≡◌, ◌∙◌, refl, sym, ap, subst, ℕ, ℤ, ◌<◌, ◌/◌, ◌%◌, ◌^◌, List, [], ◌∷◌, ◌++◌, length, map, drop}
use Rattle.std.proofs.Common.{get_or, Bool, false, true, Option, None, Some, IfSome, codes, eqb, arith, w64}
use Rattle.std.specs.Fmt.{decimal, digit_glyph, signed_decimal}
use Rattle.std.specs.Int.RustNames.{FitsSigned}
use Rattle.std.specs.List.{All, slice_split}
use Rattle.std.proofs.lemmas.Bool.Decides.{nat_tests}
use Rattle.std.proofs.lemmas.Fmt.{decimal_injective, signed_decimal_injective}
use Rattle.std.proofs.lemmas.List.{append_cancel_right}
use Rattle.std.proofs.lemmas.List.Elements.{All-head, All-tail}
use Rattle.sift_base.specs.Units.{has, members}
use Rattle.sift_exec.specs.declared.catches.Catches.{Catches}
use Rattle.sift_exec.specs.declared.catches.Kinds.{Kinds}
use Rattle.sift_line.specs.Apart.{catch_above, word_above}
use Rattle.sift_line.specs.Bad.{IsBad, IsToldBy, catch_text, catches_in, caught_text, kinds_text, version_of}
use Rattle.sift_line.specs.Line.{HasVersion, IsLine, fields_of, line_text}
use Rattle.sift_line.specs.OneSheet.{OneLineOfAText, OneSheetOfAText}
use Rattle.sift_line.specs.Part.{IsAbove, list_text, margin_text, text_or_dash, unit_digit, units_text, word_text, words_text}
use Rattle.sift_line.specs.Texts.{texts_of}
use Rattle.sift_line.specs.declared.catch.Bad.{Bad}
use Rattle.sift_line.specs.declared.catch.Bad.TheVariants.{Plain, ByKind}
use Rattle.sift_line.specs.declared.catch.Catch.{Catch}
use Rattle.sift_line.specs.declared.line.ReportLine.{ReportLine}
use Rattle.sift_line.specs.declared.line.ReportLine.TheVariants.{Unit as unit, Faulty, Idle, Frame, Last}
use Rattle.sift_line.specs.declared.line.Version.{Version}
use Rattle.sift_line.proofs.Above.{above-map, all-lower}
use Rattle.sift_line.proofs.Ascending.{no_units}
use Rattle.sift_line.proofs.Catches.{list_tells, one_told, catches_are}
use Rattle.sift_line.proofs.Fields.{fields_of_text}
use Rattle.sift_line.proofs.Joined.{no_values, split-join}
use Rattle.sift_line.proofs.LineFeeds.{come_apart}
use Rattle.sift_line.proofs.Numerals.{magnitude, no_ticks}
use Rattle.sift_line.proofs.Sets.{same_members}

-- the byte at a place, or 0 where there is none
abbrev byte_at : ℕ → List ℕ → ℕ
byte_at k bs = get_or bs k 0

-- ---- lists

-- values that are known from their texts make lists that are known from theirs
one_list : {V X : Type 0} (text : V → X) → ((v w : V) → text v ≡ text w → v ≡ w) → (vs ws : List V) → map text vs ≡ map text ws → vs ≡ ws
one_list text one [] [] e = refl
one_list text one [] (w ∷ ws) e = absurd (omega (arith, ap length e))
one_list text one (v ∷ vs) [] e = absurd (omega (arith, ap length e))
one_list text one (v ∷ vs) (w ∷ ws) e =
    ap (λ u. u ∷ vs) (one v w (ap (λ texts. get_or texts 0 (text v)) e)) ∙ ap (λ us. w ∷ us) (one_list text one vs ws (ap (drop 1) e))

-- with commas between them too, where their texts have no comma, and no dash
module _ {V : Type 0} (text : V → List ℕ) (apart : (v : V) → IsAbove 45 (text v)) where
  cut_out : (v : V) (vs : List V) → slice_split (λ b. eqb b 44) (list_text (map text (v ∷ vs))) ≡ map text (v ∷ vs)
  cut_out v vs = split-join 44 (text v) (map text vs) (all-lower 44 45 (map text (v ∷ vs)) (omega arith) (above-map 45 text (v ∷ vs) apart))

  one_joined : ((v w : V) → text v ≡ text w → v ≡ w) → (vs ws : List V) → list_text (map text vs) ≡ list_text (map text ws) → vs ≡ ws
  one_joined one [] ws e = sym (no_values text apart ws (codes "-") (sym e) refl)
  one_joined one (v ∷ vs) [] e = no_values text apart (v ∷ vs) (codes "-") e refl
  one_joined one (v ∷ vs) (w ∷ ws) e =
      one_list text one (v ∷ vs) (w ∷ ws) (sym (cut_out v vs) ∙ (ap (slice_split (λ b. eqb b 44)) e ∙ cut_out w ws))

-- ---- words

-- no two digits are one byte, whatever they count to
one_glyph : (c d : ℕ) → digit_glyph false c ≡ digit_glyph false d → c ≡ d
one_glyph c d e = grind (arith, nat_tests)

-- the digits of a word tell it
one_word : (w x : ℕ) → word_text w ≡ word_text x → w ≡ x
one_word w x e =
    let first = one_glyph (w / 4096) (x / 4096) (ap (byte_at 0) e) in
    let second = one_glyph (w / 256 % 16) (x / 256 % 16) (ap (byte_at 1) e) in
    let third = one_glyph (w / 16 % 16) (x / 16 % 16) (ap (byte_at 2) e) in
    let fourth = one_glyph (w % 16) (x % 16) (ap (byte_at 3) e) in
    omega (arith, first, second, third, fourth)

-- so does the list of them tell the words
one_words : (ws xs : List ℕ) → words_text ws ≡ words_text xs → ws ≡ xs
one_words ws xs e = one_joined word_text word_above one_word ws xs e

-- ---- ticks and margins

-- a dash is no number, and numbers are known from their digits
one_ticks : (s t : Option ℤ) → IfSome s (FitsSigned w64) → IfSome t (FitsSigned w64) → text_or_dash signed_decimal s ≡ text_or_dash signed_decimal t → s ≡ t
one_ticks None t fits fit e = sym (no_ticks t (codes "-") fit (sym e) refl)
one_ticks (Some y) None fits fit e = no_ticks (Some y) (codes "-") fits e refl
one_ticks (Some y) (Some z) fits fit e = ap Some (signed_decimal_injective y z (magnitude y fits) (magnitude z fit) e)

-- the words for margin differ in length
one_margin : (m n : Bool) → margin_text m ≡ margin_text n → m ≡ n
one_margin true true e = refl
one_margin true false e = absurd (omega (arith, ap length e))
one_margin false true e = absurd (omega (arith, ap length e))
one_margin false false e = refl

-- ---- units

-- a unit is known from its digit
one_digit : (u v : ℕ) → unit_digit u ≡ unit_digit v → u ≡ v
one_digit u v e = omega arith

-- and units are from theirs
one_units : (us vs : List ℕ) → units_text us ≡ units_text vs → us ≡ vs
one_units [] vs e = sym (no_units vs (codes "-") (sym e) refl)
one_units (u ∷ us) [] e = no_units (u ∷ us) (codes "-") e refl
one_units (u ∷ us) (v ∷ vs) e = one_list unit_digit one_digit (u ∷ us) (v ∷ vs) e

-- ---- catches

-- which of the letters p, r and c stand there tells the ways
letters_tell : (poll relay clock : Bool) (bs : List ℕ) → kinds_text (record { poll = poll; relay = relay; clock = clock }) ≡ bs
    → (poll ≡ has bs 112) × (relay ≡ has bs 114) × (clock ≡ has bs 99)
letters_tell poll relay clock bs e =
    let told = letters poll relay clock in
    (told.0 ∙ ap (λ b. has b 112) e, told.1 ∙ ap (λ b. has b 114) e, told.2 ∙ ap (λ b. has b 99) e)
  where
    letters : (p r c : Bool) →
        let bs = kinds_text (record { poll = p; relay = r; clock = c }) in (p ≡ has bs 112) × (r ≡ has bs 114) × (c ≡ has bs 99)
    letters true true true = (refl, refl, refl)
    letters true true false = (refl, refl, refl)
    letters true false true = (refl, refl, refl)
    letters true false false = (refl, refl, refl)
    letters false true true = (refl, refl, refl)
    letters false true false = (refl, refl, refl)
    letters false false true = (refl, refl, refl)
    letters false false false = (refl, refl, refl)

-- so ways are known from their letters
one_kinds : (kinds others : Kinds) → kinds_text kinds ≡ kinds_text others → kinds ≡ others
one_kinds kinds others e =
    let told = letters_tell kinds.poll kinds.relay kinds.clock (kinds_text others) e in
    let same = letters_tell others.poll others.relay others.clock (kinds_text others) refl in
    let poll = told.0 ∙ sym same.0 in
    let relay = told.1 ∙ sym same.1 in
    let clock = told.2 ∙ sym same.2 in
    λ i. record { poll = poll i; relay = relay i; clock = clock i }

-- and a catch is from its digit and letters
one_catch : (c d : Catch) → catch_text c ≡ catch_text d → c ≡ d
one_catch c d e =
    let same_unit = one_digit c.unit d.unit (ap (byte_at 0) e) in
    let same_kinds = one_kinds c.kinds d.kinds (ap (drop 1) e) in
    λ i. record { unit = same_unit i; kinds = same_kinds i }

-- the list of them tells who was caught in which way
one_caught : (caught others : Catches) → IsBad (ByKind caught) → IsBad (ByKind others)
    → caught_text (ByKind caught) ≡ caught_text (ByKind others) → caught ≡ others
one_caught caught others are told e =
    let same =
    one_joined catch_text catch_above one_catch (catches_in caught) (catches_in others) (catches_are caught ∙ e ∙ sym (catches_are others)) in
    one_told (catches_in others) others caught (list_tells others told) (subst (λ list. IsToldBy list caught) same (list_tells caught are))

-- what a line of a version tells of catches is known from its text
one_bad : (version : Version) (bad others : Bad) → IsBad bad → IsBad others → version_of bad ≡ version → version_of others ≡ version
    → caught_text bad ≡ caught_text others → bad ≡ others
one_bad version (Plain us) (Plain vs) are told first second e =
    ap Plain (same_members us vs are told (one_units (members us) (members vs) e))
one_bad version (ByKind caught) (ByKind others) are told first second e = ap ByKind (one_caught caught others are told e)
one_bad version (Plain us) (ByKind others) are told first second e = absurd (let no = first ∙ sym second in cc)
one_bad version (ByKind caught) (Plain vs) are told first second e = absurd (let no = first ∙ sym second in cc)

-- ---- lines

-- a field of these, behind so many bytes
abbrev field_at : ℕ → ℕ → List (List ℕ) → List ℕ
field_at k behind fields = drop behind (get_or fields k [])

-- a number is known from its digits
one_number : (m n : ℕ) → m < 2 ^ 32 → n < 2 ^ 32 → decimal m ≡ decimal n → m ≡ n
one_number m n small low e = decimal_injective m n (omega arith) (omega arith) e

-- the number and the unit that lines begin with
one_begin : (n k u v : ℕ) (fields others : List (List ℕ)) → n < 2 ^ 32 → k < 2 ^ 32
    → (codes "f=" ++ decimal n) ∷ (codes "u=" ++ unit_digit u ∷ []) ∷ fields ≡ (codes "f=" ++ decimal k) ∷ (codes "u=" ++ unit_digit v ∷ []) ∷ others
    → (n ≡ k) × (u ≡ v)
one_begin n k u v fields others small low e =
    (one_number n k small low (ap (field_at 0 2) e), one_digit u v (ap (λ xs. byte_at 0 (field_at 1 2 xs)) e))

-- lines of a version with the same fields are one line: the number of fields tells the form, or a fixed word among them does
one_of_fields : (version : Version) (one other : ReportLine) → IsLine one → IsLine other → HasVersion version one → HasVersion version other
    → fields_of one ≡ fields_of other → one ≡ other
one_of_fields version (unit n u cfg clk ins outs bad) (unit k v us ticks agreed voted caught) holds held of so e =
    let begin = one_begin n k u v _ _ holds.0 held.0 e in
    let same_n = begin.0 in
    let same_u = begin.1 in
    let same_cfg = one_units cfg us (ap (field_at 2 4) e) in
    let same_clk = signed_decimal_injective clk ticks (magnitude clk holds.3) (magnitude ticks held.3) (ap (field_at 3 4) e) in
    let same_ins = one_words ins.items agreed.items (ap (field_at 4 3) e) in
    let same_outs = one_words outs.items voted.items (ap (field_at 5 4) e) in
    let same_bad = one_bad version bad caught holds.6 held.6 of so (ap (field_at 6 4) e) in
    λ i. unit (same_n i) (same_u i) (same_cfg i) (same_clk i) (record { items = same_ins i }) (record { items = same_outs i }) (same_bad i)
one_of_fields version (Faulty n u) (Faulty k v) holds held of so e =
    let begin = one_begin n k u v _ _ holds.0 held.0 e in ap (λ f. Faulty f u) begin.0 ∙ ap (Faulty k) begin.1
one_of_fields version (Faulty n u) (Idle k v) holds held of so e = absurd (omega (arith, ap (λ xs. length (field_at 2 0 xs)) e))
one_of_fields version (Idle n u) (Faulty k v) holds held of so e = absurd (omega (arith, ap (λ xs. length (field_at 2 0 xs)) e))
one_of_fields version (Idle n u) (Idle k v) holds held of so e =
    let begin = one_begin n k u v _ _ holds.0 held.0 e in ap (λ f. Idle f u) begin.0 ∙ ap (Idle k) begin.1
one_of_fields version (Frame n s l m) (Frame k t r o) holds held of so e =
    let same_n = one_number n k holds.0 held.0 (ap (field_at 0 2) e) in
    let same_skew = one_ticks s t holds.1 held.1 (ap (field_at 1 5) e) in
    let same_slack = one_ticks l r holds.2 held.2 (ap (field_at 2 6) e) in
    let same_margin = one_margin m o (ap (field_at 3 7) e) in
    λ i. Frame (same_n i) (same_skew i) (same_slack i) (same_margin i)
one_of_fields version (Frame n s l m) (Last k us o) holds held of so e = absurd (omega (arith, ap (λ xs. byte_at 0 (field_at 0 0 xs)) e))
one_of_fields version (Last n cfg m) (Frame k s l o) holds held of so e = absurd (omega (arith, ap (λ xs. byte_at 0 (field_at 0 0 xs)) e))
one_of_fields version (Last n cfg m) (Last k us o) holds held of so e =
    let same_n = one_number n k holds.0 held.0 (ap (field_at 1 7) e) in
    let same_cfg = one_units cfg us (ap (field_at 2 4) e) in
    let same_margin = one_margin m o (ap (field_at 3 7) e) in
    λ i. Last (same_n i) (same_cfg i) (same_margin i)
one_of_fields version one other holds held of so e = absurd (omega (arith, ap length e))

-- and the text of a line tells its fields
pub one_line : OneLineOfAText
one_line version one other holds held of so e =
    one_of_fields version one other holds held of so
    (fields_of_text one (line_text other) holds e ∙ sym (fields_of_text other (line_text other) held refl))

-- ---- sheets

-- lines of a version with the same texts are the same
one_of_texts : (version : Version) (ones others : List ReportLine) → All IsLine ones → All IsLine others → All (HasVersion version) ones
    → All (HasVersion version) others → map line_text ones ≡ map line_text others → ones ≡ others
one_of_texts version [] [] holds held of so e = refl
one_of_texts version [] (m ∷ ms) holds held of so e = absurd (omega (arith, ap length e))
one_of_texts version (l ∷ ls) [] holds held of so e = absurd (omega (arith, ap length e))
one_of_texts version (l ∷ ls) (m ∷ ms) holds held of so e =
    let Told = HasVersion version in
    let first = one_line version l m (All-head IsLine l ls holds) (All-head IsLine m ms held) (All-head Told l ls of) (All-head Told m ms so)
    (ap (λ texts. get_or texts 0 []) e) in
    let rest = one_of_texts version ls ms (All-tail IsLine l ls holds) (All-tail IsLine m ms held) (All-tail Told l ls of) (All-tail Told m ms so)
    (ap (drop 1) e) in
    ap (λ line. line ∷ ls) first ∙ ap (λ lines. m ∷ lines) rest

-- and the text of a sheet tells the texts of its lines
pub one_sheet : OneSheetOfAText
one_sheet version ones others holds held of so e =
    one_of_texts version ones others holds held of so (append_cancel_right (map line_text ones) (map line_text others) ([] ∷ [])
    (come_apart ones holds ∙ (ap texts_of e ∙ sym (come_apart others held))))
