-- What is drawn from a number: a laboratory, and what its faulty clocks show.
use Rattle.std.specs.Prelude.{◌≡◌, ℕ, zero, suc, ◌+◌, ◌-◌, ◌*◌, List, [], ◌∷◌, map, nat_eq, nat_lt, Bool, if◌then◌else◌, Option, None, Some, ℤ, pos, ◌+ℤ◌, ◌-ℤ◌, unsigned_abs}
use Rattle.std.specs.Fn.{iterate}
use Rattle.std.specs.List.{range_with_len}
use Rattle.sift_base.specs.Draw.{after, drawn}
use Rattle.sift_clocklab.specs.declared.lab.Drawn.{Drawn}
use Rattle.sift_clocklab.specs.Laboratory.{Laboratory, Run}
use Rattle.sift_clocklab.specs.Rounds.{run_offsets}
use Rattle.sift_clocklab.specs.Showing.{Showing}

-- the number from -most to most that is drawn where the generator's number is now x
abbrev pub spread : ℕ → ℕ → ℤ
spread most x = pos (drawn x (2 * most + 1)) -ℤ pos most

-- ---- the laboratory

-- the start of clock q, from 0 to the skew: the draws from x are a start and a drift for each clock
abbrev pub start_drawn : (skew x q : ℕ) → ℤ
start_drawn skew x q = pos (drawn (after x (2 * q + 1)) (skew + 1))

-- and its drift
abbrev pub drift_drawn : (rate x q : ℕ) → ℤ
drift_drawn rate x q = spread rate (after x (2 * q + 2))

-- how many clocks other than q come before p
abbrev pub others_before : (q p : ℕ) → ℕ
others_before q p = if nat_lt q p then p - 1 else p

-- by how much q misreads p: the draws from x are one for each clock other than q
abbrev pub noise_drawn : (error x q p : ℕ) → ℤ
noise_drawn error x q p = if nat_eq p q then pos 0 else spread error (after x (others_before q p + 1))

-- by how much q misreads each of the working clocks
abbrev pub noises_drawn : (error working x q : ℕ) → List ℤ
noises_drawn error working x q = map (noise_drawn error x q) (range_with_len 0 working)

-- the generator's number where the noise begins, behind a start and a drift for each working clock
abbrev pub noise_place : (working number : ℕ) → ℕ
noise_place working number = after number (2 * working)

-- and where that of clock q does, behind a draw for each clock before it and each other one
abbrev pub row_place : (working number q : ℕ) → ℕ
row_place working number q = after (noise_place working number) (q * (working - 1))

-- the laboratory of a number: n clocks, m of them faulty, with this skew, error, drift in a round, and rounds
abbrev pub drawn_lab : (n m : ℕ) (skew error rate : ℤ) (rounds number : ℕ) → Laboratory
drawn_lab n m skew error rate rounds number = record {
  n = n;
  m = m;
  skew = skew;
  error = error;
  rate = rate;
  rounds = rounds;
  start = map (start_drawn (unsigned_abs skew) number) (range_with_len 0 (n - m));
  drift = map (drift_drawn (unsigned_abs rate) number) (range_with_len 0 (n - m));
  noise = map (λ q. noises_drawn (unsigned_abs error) (n - m) (row_place (n - m) number q) q) (range_with_len 0 (n - m));
}

-- ---- the faulty clocks

-- the faulty clocks of a number's laboratory, before they show anything
abbrev pub drawn_face : (n m : ℕ) (skew error : ℤ) (number : ℕ) → Drawn
drawn_face n m skew error number = record {
  draw = row_place (n - m) number (n - m);
  limit = unsigned_abs (skew +ℤ error);
}

-- whether the next clock shows nothing: in one case of four
abbrev pub shows_nothing : Drawn → Bool
shows_nothing face = nat_eq (drawn (after face.draw 1) 4) 0

-- what the next clock shows: nothing, or a reading that is too far by a tick at most
abbrev pub reading_drawn : Drawn → Option ℤ
reading_drawn face = if shows_nothing face then None else Some (spread (face.limit + 1) (after face.draw 2))

-- the faulty clocks after that
abbrev pub face_after : Drawn → Drawn
face_after face = record face { draw = if shows_nothing face then after face.draw 1 else after face.draw 2 }

-- they show what is drawn, and nothing else
abbrev pub AllowsDrawn : Drawn → Showing → Drawn → Type 0
AllowsDrawn face showing next = (showing.reading ≡ reading_drawn face) × (next ≡ face_after face)

-- so many readings, one after the other
abbrev pub readings_drawn : ℕ → Drawn → List (Option ℤ)
readings_drawn zero face = []
readings_drawn (suc count) face = reading_drawn face ∷ readings_drawn count (face_after face)

-- so many rounds of so many readings
abbrev pub rounds_drawn : (rounds count : ℕ) → Drawn → List (List (Option ℤ))
rounds_drawn zero count face = []
rounds_drawn (suc rounds) count face = readings_drawn count face ∷ rounds_drawn rounds count (iterate face_after count face)

-- ---- the run

-- what the faulty clocks of a number's laboratory show: each round a reading by each of them to each working clock
abbrev pub shown_drawn : (n m : ℕ) (skew error : ℤ) (rounds number : ℕ) → List (List (Option ℤ))
shown_drawn n m skew error rounds number = rounds_drawn rounds ((n - m) * m) (drawn_face n m skew error number)

-- the run of a number's laboratory
abbrev pub drawn_run : (n m : ℕ) (skew error rate : ℤ) (rounds number : ℕ) → Run
drawn_run n m skew error rate rounds number = record {
  offsets = run_offsets (drawn_lab n m skew error rate rounds number) (shown_drawn n m skew error rounds number);
  shown = shown_drawn n m skew error rounds number;
}
