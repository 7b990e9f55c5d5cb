-- Lines of the two versions that are printed alike name nobody.
use Rattle.std.proofs.Common.{◌≡◌, ℕ, ◌<◌, ◌≤◌, List, [], ◌∷◌, ◌++◌, length, map, drop, get_or, false, inl, inr, refl, sym, ap, ◌∙◌, arith, append-nil}
use Rattle.std.specs.List.{join_with_byte}
use Rattle.std.proofs.lemmas.Bool.{cases_Bool}
use Rattle.sift_base.specs.Units.{Units, AreUnits, has, holds, members}
use Rattle.sift_base.specs.laws.Counts.{has-head}
use Rattle.sift_exec.specs.Conviction.{everyone_in, kinds_of}
use Rattle.sift_exec.specs.declared.catches.Catches.{Catches}
use Rattle.sift_exec.specs.declared.catches.Kinds.{Kinds}
use Rattle.sift_line.specs.Bad.{IsBad, IsSomeKind, caught_text, kinds_text, units_in, version_of}
use Rattle.sift_line.specs.Line.{HasVersion, IsLine, fields_of, line_text}
use Rattle.sift_line.specs.Part.{AscendFrom, list_text, unit_digit, units_text}
use Rattle.sift_line.specs.Versions.{LinesTellTheirVersion, NamesNobody}
use Rattle.sift_line.specs.declared.catch.Bad.{Bad}
use Rattle.sift_line.specs.declared.catch.Bad.TheVariants.{Plain, ByKind}
use Rattle.sift_line.specs.declared.line.ReportLine.{ReportLine}
use Rattle.sift_line.specs.declared.line.ReportLine.TheVariants.{Unit as unit, Faulty, Idle, Frame, Last}
use Rattle.sift_line.specs.declared.line.Version.TheVariants.{One, Two}
use Rattle.sift_line.proofs.Catches.{everyone_units, in_members, some_kind}
use Rattle.sift_line.proofs.Fields.{fields_of_text}
use Rattle.sift_line.proofs.Results.{not_both}
use Rattle.sift_line.proofs.Sets.{members_up}

-- ---- the second byte

-- the byte at a place, or 0 where there is none
abbrev byte_at : ℕ → List ℕ → ℕ
byte_at k bs = get_or bs k 0

-- of units it is a digit, where there is one
digit_second : (us : List ℕ) → AscendFrom 0 us → byte_at 1 (map unit_digit us) ≤ 55
digit_second [] up = omega arith
digit_second (u ∷ []) up = omega arith
digit_second (u ∷ v ∷ us) up = omega (arith, up.2.1)

-- of a unit with its ways it is a letter
letter_second : (d : ℕ) (kinds : Kinds) (rest : List ℕ) → IsSomeKind kinds → 56 ≤ byte_at 1 ((d ∷ kinds_text kinds) ++ rest)
letter_second d kinds rest some = elim (cases_Bool kinds.poll) [
  | inl p ↦ rw p (omega arith)
  | inr p ↦ elim (cases_Bool kinds.relay) [
    | inl r ↦ rw (p, r) (omega arith)
    | inr r ↦ elim (cases_Bool kinds.clock) [
      | inl k ↦ rw (p, r, k) (omega arith)
      | inr k ↦ absurd (not_both false (rw (p, r, k) at some) refl)
    ]
  ]
]

-- ---- a list of catches

-- it begins with the first one
first_catch : (caught : Catches) (v : ℕ) (vs : List ℕ) →
    (rest : List ℕ)
    × (list_text (map (λ u. unit_digit u ∷ kinds_text (kinds_of caught u)) (v ∷ vs)) ≡ (unit_digit v ∷ kinds_text (kinds_of caught v)) ++ rest)
first_catch caught v [] = ([], sym (append-nil (unit_digit v ∷ kinds_text (kinds_of caught v))))
first_catch caught v (w ∷ ws) = (44 ∷ join_with_byte 44 (map (λ u. unit_digit u ∷ kinds_text (kinds_of caught u)) (w ∷ ws)), refl)

-- so the texts of the two versions are one only where there is nobody in both
nobody_in : (units : List ℕ) (caught : Catches) (others : List ℕ) → AscendFrom 0 units
    → ((v : ℕ) (vs : List ℕ) → others ≡ v ∷ vs → IsSomeKind (kinds_of caught v))
    → units_text units ≡ list_text (map (λ u. unit_digit u ∷ kinds_text (kinds_of caught u)) others) → (units ≡ []) × (others ≡ [])
nobody_in [] caught [] up some e = (refl, refl)
nobody_in [] caught (v ∷ vs) up some e =
    let first = first_catch caught v vs in
    absurd (omega (arith, ap (byte_at 0) (e ∙ first.1)))
nobody_in (u ∷ us) caught [] up some e = absurd (omega (arith, ap (byte_at 0) e))
nobody_in (u ∷ us) caught (v ∷ vs) up some e =
    let first = first_catch caught v vs in
    let letter = letter_second (unit_digit v) (kinds_of caught v) first.0 (some v vs refl) in
    let digit = digit_second (u ∷ us) up in
    absurd (omega (arith, digit, letter, ap (byte_at 1) (e ∙ first.1)))

-- ---- sets

-- a set whose list is empty has no member
no_member : (units : Units) → AreUnits units → members units ≡ [] → (v : ℕ) → holds units v ≡ false
no_member units are none v = sym (in_members units are v) ∙ ap (λ us. has us v) none

-- the first of the list of those who were caught was caught
first_caught : (caught : Catches) → IsBad (ByKind caught) → (v : ℕ) (vs : List ℕ) → members (everyone_in caught) ≡ v ∷ vs
    → IsSomeKind (kinds_of caught v)
first_caught caught are v vs is =
    some_kind caught v (sym (in_members (everyone_in caught) (everyone_units caught are) v) ∙ (ap (λ us. has us v) is ∙ has-head v vs))

nobody_named : (one two : Bad) → IsBad one → IsBad two → version_of one ≡ One → version_of two ≡ Two → caught_text one ≡ caught_text two
    → ((v : ℕ) → holds (units_in one) v ≡ false) × ((v : ℕ) → holds (units_in two) v ≡ false)
nobody_named (Plain units) (ByKind caught) are kinds first second e =
    let none = nobody_in (members units) caught (members (everyone_in caught)) (members_up units) (first_caught caught kinds) e in
    (no_member units are none.0, no_member (everyone_in caught) (everyone_units caught kinds) none.1)
nobody_named (ByKind caught) two are kinds first second e = absurd cc
nobody_named (Plain units) (Plain others) are kinds first second e = absurd cc

-- ---- lines

-- a line of few fields names nobody
few_name_nobody : (line : ReportLine) → length (fields_of line) < 7 → NamesNobody line
few_name_nobody (unit n u cfg clk ins outs bad) few = absurd (omega (arith, few))
few_name_nobody (Faulty n u) few = tt
few_name_nobody (Idle n u) few = tt
few_name_nobody (Frame n s l m) few = tt
few_name_nobody (Last n cfg m) few = tt

fields_tell : (one two : ReportLine) → IsLine one → IsLine two → HasVersion One one → HasVersion Two two → fields_of one ≡ fields_of two
    → NamesNobody one × NamesNobody two
fields_tell (unit n u cfg clk ins outs bad) (unit k v us ticks agreed voted caught) holds_one holds_two first second e =
    nobody_named bad caught holds_one.6 holds_two.6 first second (ap (λ fields. drop 4 (get_or fields 6 [])) e)
fields_tell (unit n u cfg clk ins outs bad) (Faulty k v) holds_one holds_two first second e = absurd (omega (arith, ap length e))
fields_tell (unit n u cfg clk ins outs bad) (Idle k v) holds_one holds_two first second e = absurd (omega (arith, ap length e))
fields_tell (unit n u cfg clk ins outs bad) (Frame k s l m) holds_one holds_two first second e = absurd (omega (arith, ap length e))
fields_tell (unit n u cfg clk ins outs bad) (Last k us m) holds_one holds_two first second e = absurd (omega (arith, ap length e))
fields_tell (Faulty n u) two holds_one holds_two first second e = (tt, few_name_nobody two (omega (arith, ap length e)))
fields_tell (Idle n u) two holds_one holds_two first second e = (tt, few_name_nobody two (omega (arith, ap length e)))
fields_tell (Frame n s l m) two holds_one holds_two first second e = (tt, few_name_nobody two (omega (arith, ap length e)))
fields_tell (Last n cfg m) two holds_one holds_two first second e = (tt, few_name_nobody two (omega (arith, ap length e)))

-- a line of version 1 and one of version 2 that are printed alike name nobody
pub lines_tell : LinesTellTheirVersion
lines_tell one two holds_one holds_two first second e =
    fields_tell one two holds_one holds_two first second
    (fields_of_text one (line_text two) holds_one e ∙ sym (fields_of_text two (line_text two) holds_two refl))
