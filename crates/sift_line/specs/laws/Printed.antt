-- Texts that grow at their end.
use Rattle.std.proofs.Common.{Result, Ok, Err, ◌≡◌, ℕ, ◌+◌, ◌<◌, ◌≤◌, List, [], ◌∷◌, ◌++◌, length, map, take, Some, refl, sym, ap, ◌∙◌}
use Rattle.std.proofs.Common.{append_assoc, arith}
use Rattle.std.specs.Prelude.{slice_get}
use Rattle.std.specs.Result.{OnOk}
use Rattle.std.specs.List.{flat_map, range_with_len}
use Rattle.std.proofs.lemmas.Grind.{flat_map-append}
use Rattle.std.proofs.lemmas.List.{append-nil, map_more, take_all, take_more}
use Rattle.std.proofs.lemmas.Option.{slice_get_within, get_or_from_slice_get}
use Rattle.sift_base.specs.laws.Ranges.{range-next}
use Rattle.sift_line.specs.Line.{printed, text_of_lines}
use Rattle.sift_line.specs.Part.{list_text, unit_digit, units_text}
use Rattle.sift_line.specs.declared.line.ReportLine.{ReportLine}

-- ---- units

-- the digit of one unit more
pub digit_more : (us : List ℕ) (i u : ℕ) (old now new : List ℕ) → slice_get us i ≡ Some u → now ≡ old ++ map unit_digit (take i us)
    → new ≡ now ++ unit_digit u ∷ [] → new ≡ old ++ map unit_digit (take (i + 1) us)
digit_more us i u old now new there so_far pushed =
    pushed ∙ ap (λ bs. bs ++ unit_digit u ∷ []) so_far ∙ append_assoc old (map unit_digit (take i us)) (unit_digit u ∷ [])
    ∙ ap (λ v. old ++ (map unit_digit (take i us) ++ unit_digit v ∷ [])) (sym (get_or_from_slice_get us i u u there))
    ∙ ap (λ bs. old ++ bs) (sym (map_more unit_digit us i u (slice_get_within us i u there)))

-- the digits of some units are their text
digits_are_text : (us : List ℕ) → 0 < length us → map unit_digit us ≡ units_text us
digits_are_text [] some = absurd (omega arith)
digits_are_text (u ∷ us) some = refl

-- where the digits of all units stand behind the old bytes, and there is a unit, the text of the units does
pub digits_all : (us : List ℕ) (i : ℕ) (old now : List ℕ) → now ≡ old ++ map unit_digit (take i us) → length us ≤ i → 0 < length us
    → now ≡ old ++ units_text us
digits_all us i old now so_far seen some =
    so_far ∙ ap (λ vs. old ++ map unit_digit vs) (take_all i us seen) ∙ ap (λ bs. old ++ bs) (digits_are_text us some)

-- ---- lists

-- a list with commas: the first part, and each other one behind a comma
list_text-cons : {V : Type 0} (text : V → List ℕ) (v : V) (vs : List V) → list_text (map text (v ∷ vs)) ≡ text v ++ flat_map (λ w. 44 ∷ text w) vs
list_text-cons text v [] = sym (append-nil (text v))
list_text-cons text v (w ∷ ws) = ap (λ bs. text v ++ 44 ∷ bs) (list_text-cons text w ws)

-- where the first part stands behind the old bytes, and then each other one behind a comma, the text of the whole list does
pub parts_all : {V : Type 0} (text : V → List ℕ) (vs : List V) (first : V) (others : List V) (k : ℕ) (old before now : List ℕ) → vs ≡ first ∷ others
    → length others ≤ k → before ≡ old ++ text first → now ≡ before ++ flat_map (λ w. 44 ∷ text w) (take k others)
    → now ≡ old ++ list_text (map text vs)
parts_all text vs first others k old before now cut seen start rest =
    rw (rest, take_all k others seen, start, cut, list_text-cons text first others) (append_assoc old (text first) (flat_map (λ w. 44 ∷ text w) others))

-- ---- texts in turn

-- the text of one number more
pub text_more : (text : ℕ → List ℕ) (n : ℕ) (old now new : List ℕ) → now ≡ old ++ flat_map text (range_with_len 0 n) → new ≡ now ++ text n
    → new ≡ old ++ flat_map text (range_with_len 0 (n + 1))
text_more text n old now new so_far here =
    rw (here, so_far, range-next n, flat_map-append text) (simp (append_assoc, append-nil))

-- the texts of the numbers below n, and that of n behind them, are the texts of the numbers below n + 1
pub first_text_more : (text : ℕ → List ℕ) (n : ℕ) (now new : List ℕ) → now ≡ flat_map text (range_with_len 0 n) → new ≡ now ++ text n
    → new ≡ flat_map text (range_with_len 0 (n + 1))
first_text_more text n now new so_far here = text_more text n [] now new so_far here

-- the lines of one frame more
pub lines_more : (lines : ℕ → List ReportLine) (n : ℕ) (now new : List ℕ) → now ≡ text_of_lines (flat_map lines (range_with_len 0 n))
    → new ≡ now ++ text_of_lines (lines n) → new ≡ text_of_lines (flat_map lines (range_with_len 0 (n + 1)))
lines_more lines n now new so_far here =
    rw (here, so_far, range-next n, flat_map-append lines)
    (simp append-nil (sym (flat_map-append printed (flat_map lines (range_with_len 0 n)) (lines n))))

-- the line of one unit more
pub line_more : (line : ℕ → ReportLine) (us : List ℕ) (i u : ℕ) (old now new : List ℕ) → slice_get us i ≡ Some u
    → now ≡ old ++ text_of_lines (map line (take i us)) → new ≡ now ++ printed (line u) → new ≡ old ++ text_of_lines (map line (take (i + 1) us))
line_more line us i u old now new there so_far here =
    let more : map line (take (i + 1) us) ≡ map line (take i us) ++ line u ∷ [] =
    map_more line us i u (slice_get_within us i u there) ∙ ap (λ v. map line (take i us) ++ line v ∷ []) (get_or_from_slice_get us i u u there) in
    rw (here, so_far, more, flat_map-append printed) (simp (append_assoc, append-nil))

-- a last line behind other lines
pub line_after : (lines : List ReportLine) (last : ReportLine) (old now new : List ℕ) → now ≡ old ++ text_of_lines lines → new ≡ now ++ printed last
    → new ≡ old ++ text_of_lines (lines ++ last ∷ [])
line_after lines last old now new so_far here = rw (here, so_far, flat_map-append printed) (simp (append_assoc, append-nil))

-- the lines of all units, and that of the frame behind them
pub frame_ends : {T E : Type 0} (line : ℕ → ReportLine) (us units : List ℕ) (i : ℕ) (frame last : ReportLine) (r : Result T E) (old now new : List ℕ)
    → now ≡ old ++ text_of_lines (map line (take i us)) → length us ≤ i → us ≡ units → last ≡ frame → OnOk r (new ≡ now ++ printed last)
    → OnOk r (new ≡ old ++ text_of_lines (map line units ++ frame ∷ []))
frame_ends line us units i frame last (Ok value) old now new so_far seen same is pushed =
    let all : now ≡ old ++ text_of_lines (map line units) = so_far ∙ ap (λ vs. old ++ text_of_lines (map line vs)) (take_all i us seen ∙ same) in
    line_after (map line units) frame old now new all (pushed ∙ ap (λ l. now ++ printed l) is)
frame_ends line us units i frame last (Err reason) old now new so_far seen same is pushed = pushed

-- the text of one unit more
pub unit_more : (text : ℕ → List ℕ) (us : List ℕ) (i u : ℕ) (old now new : List ℕ) → slice_get us i ≡ Some u → now ≡ old ++ flat_map text (take i us)
    → new ≡ now ++ text u → new ≡ old ++ flat_map text (take (i + 1) us)
unit_more text us i u old now new there so_far here =
    let more : take (i + 1) us ≡ take i us ++ u ∷ [] =
    take_more us i u (slice_get_within us i u there) ∙ ap (λ v. take i us ++ v ∷ []) (get_or_from_slice_get us i u u there) in
    rw (here, so_far, more, flat_map-append text) (simp (append_assoc, append-nil))
