-- The figures of a run's text.
use Rattle.std.proofs.Common.{◌≡◌, ℕ, ◌+◌, ◌<◌, suc, List, [], ◌∷◌, ◌++◌, length, map, take, get_or, ℤ, pos, refl, sym, ap, subst, ◌∙◌, append_assoc, arith}
use Rattle.std.specs.Prelude.{◌≤ℤ◌}
use Rattle.std.specs.List.{All, AllZip}
use Rattle.std.proofs.lemmas.Int.{ints}
use Rattle.std.proofs.lemmas.List.{append-nil, get_or_default, length-map, length-take, take_more}
use Rattle.std.proofs.lemmas.List.Elements.{All-nil, All-cons, All-head, All-tail, All-contains}
use Rattle.std.proofs.lemmas.Slice.Zip.{AllZip-long}
use Rattle.sift_clock.specs.Distance.{IsWithin}
use Rattle.sift_skew.specs.Limits.{offset_limit}
use Rattle.sift_skew.specs.Figures.{IsHighest, IsSkew}
use Rattle.sift_skew.specs.laws.Leads.{skew_is_unique}
use Rattle.sift_clocklab.specs.Laboratory.{Laboratory}
use Rattle.sift_clocklab.specs.Skew.{AreKept, farthest}
use Rattle.sift_clocklab.specs.Text.{HasSkew, MostIsWithinTheBound, OneTextOfARun, last_line, round_line, round_lines}
use Rattle.sift_clocklab.proofs.Lists.{row_at, rows_more}

-- ---- lists of figures

-- one list more, and its figure
pub zip_more : {A B : Type 0} (R : A → B → Type 0) (xs : List A) (ys : List B) (x : A) (y : B) → AllZip R xs ys → R x y
    → AllZip R (xs ++ x ∷ []) (ys ++ y ∷ [])
zip_more R [] [] x y all one = (one, tt)
zip_more R [] (b ∷ ys) x y all one = absurd all
zip_more R (a ∷ xs) [] x y all one = absurd all
zip_more R (a ∷ xs) (b ∷ ys) x y all one = (all.0, zip_more R xs ys x y all.1 one)

-- one row more, and its skew
pub skews_more : {X : Type 0} (f : X → List ℤ) (rows : List X) (i : ℕ) (row : X) (skews more : List ℤ) (skew : ℤ)
    → i < length rows
    → row ≡ get_or rows i row → AllZip IsSkew (map f (take i rows)) skews → more ≡ skews ++ skew ∷ []
    → IsSkew (f row) skew
    → AllZip IsSkew (map f (take (i + 1) rows)) more
skews_more f rows i row skews more skew below is so_far one figure =
    let rows_are : map f (take (i + 1) rows) ≡ map f (take i rows) ++ f row ∷ [] =
    rows_more f (take i rows) (take (i + 1) rows) row (take_more rows i row below ∙ (λ k. take i rows ++ sym is k ∷ [])) in
    subst (λ (ls : List (List ℤ)). AllZip IsSkew ls more) (sym rows_are)
    (subst (AllZip IsSkew (map f (take i rows) ++ f row ∷ [])) (sym one)
    (zip_more IsSkew (map f (take i rows)) skews (f row) skew so_far figure))

-- there are as many figures as lists
pub length-skews : (lists : List (List ℤ)) (skews : List ℤ) → AllZip IsSkew lists skews → length skews ≡ length lists
length-skews lists skews figures = AllZip-long IsSkew lists skews figures

-- a round more
pub round_lines-more : (round : ℕ) (skews : List ℤ) (skew : ℤ)
    → round_lines round (skews ++ skew ∷ []) ≡ round_lines round skews ++ round_line (round + length skews) skew
round_lines-more round [] skew = append-nil (round_line round skew) ∙ ap (λ r. round_line r skew) (omega arith)
round_lines-more round (s ∷ skews) skew =
    let place : round + 1 + length skews ≡ round + suc (length skews) = omega arith in
    ap (λ text. round_line round s ++ text) (round_lines-more (round + 1) skews skew
    ∙ ap (λ r. round_lines (round + 1) skews ++ round_line r skew) place)
    ∙ sym (append_assoc (round_line round s) (round_lines (round + 1) skews) (round_line (round + suc (length skews)) skew))

-- the lines of so many rounds, and of one more
pub lines_more : (skews : List ℤ) (round : ℕ) (skew : ℤ) → round < length skews → skew ≡ get_or skews round (pos 0)
    → round_lines 0 (take (round + 1) skews) ≡ round_lines 0 (take round skews) ++ round_line round skew
lines_more skews round skew below is =
    let seen : take (round + 1) skews ≡ take round skews ++ skew ∷ [] =
    take_more skews round (pos 0) below ∙ (λ i. take round skews ++ sym is i ∷ []) in
    let place : 0 + length (take round skews) ≡ round = omega (arith, length-take round skews) in
    ap (round_lines 0) seen ∙ (round_lines-more 0 (take round skews) skew
    ∙ ap (λ r. round_lines 0 (take round skews) ++ round_line r skew) place)

-- ---- kept offsets

-- the skew of kept offsets is at most the one that they keep
skew_kept : (lab : Laboratory) (far : ℕ) (offsets : List ℤ) (skew : ℤ) → AreKept lab far offsets → IsSkew offsets skew
    → skew ≤ℤ lab.skew
skew_kept lab far offsets skew kept figure =
    let at = figure.attained in
    let p_in = at.2 in
    let q_in = at.3 in
    let each = kept.of_clocks.each in
    let together = kept.together p_in.0 q_in.0 (omega (arith, each, p_in.1)) (omega (arith, each, q_in.1)) in
    omega (
      arith,
      ints,
      at.4,
      together,
      get_or_default offsets p_in.0 (pos 0) at.0 p_in.1 ∙ p_in.2,
      get_or_default offsets q_in.0 (pos 0) at.1 q_in.1 ∙ q_in.2,
    )

-- so are the skews of all lists
skews_kept : (lab : Laboratory) (far : ℕ) (lists : List (List ℤ)) (skews : List ℤ) → All (AreKept lab far) lists
    → AllZip IsSkew lists skews
    → All (λ skew. skew ≤ℤ lab.skew) skews
skews_kept lab far [] [] kept figures = All-nil (λ skew. skew ≤ℤ lab.skew)
skews_kept lab far [] (s ∷ skews) kept figures = absurd figures
skews_kept lab far (l ∷ lists) [] kept figures = absurd figures
skews_kept lab far (l ∷ lists) (s ∷ skews) kept figures =
    All-cons (λ skew. skew ≤ℤ lab.skew) s skews (skew_kept lab far l s (All-head (AreKept lab far) l lists kept) figures.0)
    (skews_kept lab far lists skews (All-tail (AreKept lab far) l lists kept) figures.1)

-- where a run is kept, the largest skew that its text tells is no more than the bound
pub most_is_within_the_bound : MostIsWithinTheBound
most_is_within_the_bound lab offsets text kept told =
    All-contains (λ skew. skew ≤ℤ lab.skew) told.skews told.most
    (skews_kept lab farthest offsets told.skews kept.each told.of_rounds) told.largest.among

-- ---- one text

-- lists have their skews, and no others
one_skews : (lists : List (List ℤ)) (a b : List ℤ) → AllZip IsSkew lists a → AllZip IsSkew lists b → a ≡ b
one_skews [] [] [] all_a all_b = refl
one_skews [] [] (y ∷ b) all_a all_b = absurd all_b
one_skews [] (x ∷ a) b all_a all_b = absurd all_a
one_skews (l ∷ lists) [] b all_a all_b = absurd all_a
one_skews (l ∷ lists) (x ∷ a) [] all_a all_b = absurd all_b
one_skews (l ∷ lists) (x ∷ a) (y ∷ b) all_a all_b =
    λ i. skew_is_unique l x y all_a.0 all_b.0 i ∷ one_skews lists a b all_a.1 all_b.1 i

-- numbers have one highest
one_highest : (numbers : List ℤ) (a b : ℤ) → IsHighest numbers a → IsHighest numbers b → a ≡ b
one_highest numbers a b top_a top_b =
    let a_low = All-contains (λ n. n ≤ℤ b) numbers a top_b.above top_a.among in
    let b_low = All-contains (λ n. n ≤ℤ a) numbers b top_a.above top_b.among in
    omega (arith, ints)

-- a run has at most one text
pub one_text_of_a_run : OneTextOfARun
one_text_of_a_run lab offsets a b told_a told_b =
    let skews = one_skews offsets told_a.skews told_b.skews told_a.of_rounds told_b.of_rounds in
    let most = one_highest told_b.skews told_a.most told_b.most (rw skews at told_a.largest) told_b.largest in
    told_a.lines ∙ ((λ i. round_lines 0 (skews i) ++ last_line lab.n lab.m (most i) lab.skew) ∙ sym told_b.lines)

-- ---- rows

-- the skew of a row is told where that of each is
pub row_has_skew : {X : Type 0} (f : X → List ℤ) (rows : List X) (i : ℕ) (row : X) → i < length rows
    → row ≡ get_or rows i row
    → All HasSkew (map f rows) → HasSkew (f row)
row_has_skew f rows i row below is told =
    subst HasSkew (sym (row_at f rows i row below is)) (told i [] (omega (arith, length-map rows f)))

-- a skew that is told fits a variable
pub skew_small : (offsets : List ℤ) (skew : ℤ) → HasSkew offsets → IsSkew offsets skew
    → IsWithin (pos 200000000) skew (pos 0)
skew_small offsets skew told figure =
    let at = figure.attained in
    let p_near = All-contains (λ offset. IsWithin offset_limit offset (pos 0)) offsets at.0 told.in_range at.2 in
    let q_near = All-contains (λ offset. IsWithin offset_limit offset (pos 0)) offsets at.1 told.in_range at.3 in
    (omega (arith, ints, at.4, p_near, q_near), omega (arith, ints, at.4, p_near, q_near))

-- there is one
pub skew_there : (offsets : List ℤ) → HasSkew offsets → offsets ≡ [] → ⊥
skew_there offsets told none = let some = told.some in omega (arith, ap length none)
