-- What is shown by drawing is what is drawn.
use Rattle.std.proofs.Common.{◌≡◌, ℕ, zero, suc, ◌+◌, ◌-◌, ◌*◌, List, [], ◌∷◌, length, ap, refl, ◌∙◌, ℤ, Option, arith}
use Rattle.std.specs.Fn.{iterate}
use Rattle.std.specs.List.{flat_map, range_with_len}
use Rattle.std.proofs.lemmas.List.{length-append, length-map}
use Rattle.std.proofs.lemmas.List.FromFn.{length-range_with_len}
use Rattle.sift_clocklab.specs.declared.lab.Drawn.{Drawn}
use Rattle.sift_clocklab.specs.Laboratory.{faulty_clocks}
use Rattle.sift_clocklab.specs.Rounds.{run_offsets}
use Rattle.sift_clocklab.specs.Showing.{Pair, ShowsInTurn, ShowsRounds, pairs_of, pairs_to}
use Rattle.sift_clocklab.specs.Draws.{AllowsDrawn, drawn_face, drawn_lab, face_after, readings_drawn, rounds_drawn, shown_drawn}
use Rattle.sift_clocklab.specs.DrawnRuns.{DrawnRunsAreKept, DrawnRunsAreOfTheDraws}
use Rattle.sift_clocklab.proofs.DrawnLabs.{drawn_ready}
use Rattle.sift_clocklab.proofs.Rounds.{run_kept}

-- in turn each pair shows what is drawn next
in_turn : (round : ℕ) (x : Drawn) (pairs : List Pair) (readings : List (Option ℤ)) (y : Drawn)
    → ShowsInTurn AllowsDrawn round x pairs readings y
    → (readings ≡ readings_drawn (length pairs) x) × (y ≡ iterate face_after (length pairs) x)
in_turn round x [] [] y same = (refl, same)
in_turn round x [] (r ∷ readings) y shows = absurd shows
in_turn round x (p ∷ pairs) [] y shows = absurd shows
in_turn round x (p ∷ pairs) (r ∷ readings) y shows =
    let rest = in_turn round shows.0 pairs readings y shows.2 in
    let next : shows.0 ≡ face_after x = shows.1.1 in
    ((λ i. shows.1.0 i ∷ (rest.0 ∙ ap (readings_drawn (length pairs)) next) i), rest.1 ∙ ap (iterate face_after (length pairs)) next)

-- and so they do round by round
by_rounds : (pairs : List Pair) (round : ℕ) (x : Drawn) (shown : List (List (Option ℤ))) (y : Drawn)
    → ShowsRounds AllowsDrawn pairs round x shown y → shown ≡ rounds_drawn (length shown) (length pairs) x
by_rounds pairs round x [] y shows = refl
by_rounds pairs round x (readings ∷ shown) y shows =
    let first = in_turn round x pairs readings shows.0 shows.1 in
    let rest = by_rounds pairs (round + 1) shows.0 shown y shows.2 in
    λ i. first.0 i ∷ (rest ∙ ap (rounds_drawn (length shown) (length pairs)) first.1) i

-- each clock is shown something by each faulty one
length-pairs : (faulty : List ℕ) (a n : ℕ)
    → length (flat_map (pairs_to faulty) (range_with_len a n)) ≡ n * length faulty
length-pairs faulty a zero = omega arith
length-pairs faulty a (suc n) =
    omega (
      arith,
      length-append (pairs_to faulty a) (flat_map (pairs_to faulty) (range_with_len (a + 1) n)),
      length-map faulty (λ (p : ℕ). let pair : Pair = record { clock = p; to = a } in pair),
      length-pairs faulty (a + 1) n,
    )

-- a run of a number's laboratory with its drawn faulty clocks is the run of the draws: in what is shown, and so in the offsets
pub drawn_runs_are_of_the_draws : DrawnRunsAreOfTheDraws
drawn_runs_are_of_the_draws n m skew error rate rounds number run face ran =
    let lab = drawn_lab n m skew error rate rounds number in
    let first = drawn_face n m skew error number in
    let pairs : length (pairs_of lab) ≡ (n - m) * m =
    length-pairs (faulty_clocks lab) 0 (n - m) ∙ ap (λ k. (n - m) * k) (length-range_with_len (n - m) m) in
    let shown : run.shown ≡ rounds_drawn rounds ((n - m) * m) first =
    by_rounds (pairs_of lab) 0 first run.shown face ran.shown ∙ (λ i. rounds_drawn (ran.rounds i) (pairs i) first) in
    λ i. record { offsets = (ran.offsets ∙ ap (run_offsets lab) shown) i; shown = shown i }

-- as many rounds are drawn as are asked for
length-rounds_drawn : (rounds count : ℕ) (face : Drawn) → length (rounds_drawn rounds count face) ≡ rounds
length-rounds_drawn zero count face = refl
length-rounds_drawn (suc rounds) count face = ap suc (length-rounds_drawn rounds count (iterate face_after count face))

-- so the run of the draws is kept
pub drawn_runs_are_kept : DrawnRunsAreKept
drawn_runs_are_kept n m skew error rate rounds number in_range admitted =
    run_kept (drawn_lab n m skew error rate rounds number) (shown_drawn n m skew error rounds number) _
    (drawn_ready n m skew error rate rounds number in_range admitted)
    (length-rounds_drawn rounds ((n - m) * m) (drawn_face n m skew error number)) refl
