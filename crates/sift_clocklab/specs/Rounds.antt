-- The rounds of a laboratory: in each, every working clock reads all others and corrects itself.
use Rattle.std.specs.Prelude.{ℕ, ◌+◌, ◌-◌, ◌*◌, List, [], ◌∷◌, map, get_or, if◌then◌else◌, Option, None, Some, ℤ, pos, ◌+ℤ◌, ◌-ℤ◌}
use Rattle.sift_clock.specs.Correction.{corrected_offset}
use Rattle.sift_clocklab.specs.Laboratory.{Laboratory, clocks_of, working_of, working_clocks, works, reading_limit, drift_of, noise_of}

-- the offset of a working clock among those of all
abbrev pub offset_of : List ℤ → ℕ → ℤ
offset_of offsets q = get_or offsets q (pos 0)

-- what faulty p shows q, among all that is shown in a round: for each working clock in turn, what each faulty one shows it
abbrev pub shown_to : Laboratory → List (Option ℤ) → ℕ → ℕ → Option ℤ
shown_to lab shown q p = get_or shown (q * lab.m + (p - working_of lab)) None

-- how far q reads a working p to be ahead of itself: by the difference of their offsets, misread by the noise
abbrev pub ticks_ahead : Laboratory → List ℤ → ℕ → ℕ → ℤ
ticks_ahead lab offsets q p = (offset_of offsets p -ℤ offset_of offsets q) +ℤ noise_of lab q p

-- what q reads of p: of a working clock how far it is ahead, and of a faulty one what it shows
abbrev pub reading_of : Laboratory → List ℤ → List (Option ℤ) → ℕ → ℕ → Option ℤ
reading_of lab offsets shown q p = if works lab p then Some (ticks_ahead lab offsets q p) else shown_to lab shown q p

-- the offset of q after a round: the one before it, the correction by what it reads of all others, and its drift
abbrev pub offset_after : Laboratory → List ℤ → List (Option ℤ) → ℕ → ℤ
offset_after lab offsets shown q =
    corrected_offset (reading_limit lab) (clocks_of lab) (reading_of lab offsets shown q) (offset_of offsets q) q +ℤ drift_of lab q

-- the offsets of all working clocks after a round
abbrev pub offsets_after : Laboratory → List ℤ → List (Option ℤ) → List ℤ
offsets_after lab offsets shown = map (offset_after lab offsets shown) (working_clocks lab)

-- the lists of offsets, from this one on, while this is shown round by round
abbrev pub offsets_from : Laboratory → List ℤ → List (List (Option ℤ)) → List (List ℤ)
offsets_from lab offsets [] = offsets ∷ []
offsets_from lab offsets (shown ∷ rounds) = offsets ∷ offsets_from lab (offsets_after lab offsets shown) rounds

-- the lists of offsets of a run in which this is shown
abbrev pub run_offsets : Laboratory → List (List (Option ℤ)) → List (List ℤ)
run_offsets lab shown = offsets_from lab lab.start shown
