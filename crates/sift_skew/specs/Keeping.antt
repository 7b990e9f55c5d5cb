-- The correction of clocks keeps their skew, whatever is read of the faulty ones.
use Rattle.std.specs.Prelude.{◌≡◌, ◌≢◌, ◌↔◌, ℕ, ◌*◌, ◌≤◌, List, length, Bool, true, Option, Some, ℤ, pos, ◌+ℤ◌, ◌-ℤ◌, ◌*ℤ◌, ◌≤ℤ◌}
use Rattle.sift_base.specs.Word.{word_of}
use Rattle.sift_base.specs.Units.{has, faulty_count, HasMargin}
use Rattle.sift_clock.specs.Distance.{IsWithin}
use Rattle.sift_clock.specs.Correction.{reading_of, corrected_offset}
use Rattle.sift_skew.specs.Limits.{skew_limit}

-- the working clocks of a configuration differ by at most the skew
abbrev pub AreTogether : ℤ → List ℕ → (ℕ → Bool) → (ℕ → ℤ) → Type 0
AreTogether skew us works clock =
    (p q : ℕ) → has us p ≡ true → works p ≡ true → has us q ≡ true → works q ≡ true → clock p ≤ℤ (clock q +ℤ skew)

-- unit u reads each other working clock of a configuration, wrong by at most the error
abbrev pub ReadsWell : ℤ → List ℕ → (ℕ → Bool) → (ℕ → ℤ) → ℕ → (ℕ → Option ℤ) → Type 0
ReadsWell error us works clock u read =
    (v : ℕ) → has us v ≡ true → works v ≡ true → v ≢ u →
    (ticks : ℤ) × (read v ≡ Some ticks) × IsWithin error ticks (clock v -ℤ clock u)

-- the working clocks of a frame are within these limits: they are together, read one another well, and drift little
pub record AreWithin (skew error rate : ℤ) (us : List ℕ) (works : ℕ → Bool) (clock drift : ℕ → ℤ) (read : ℕ → ℕ → Option ℤ) : Type 0 where
  pub together : AreTogether skew us works clock
  pub readings : (u : ℕ) → has us u ≡ true → works u ≡ true → ReadsWell error us works clock u (read u)
  pub drifts : (u : ℕ) → has us u ≡ true → works u ≡ true → IsWithin rate (drift u) (pos 0)

-- each unit's offset when it is corrected, before the drift
abbrev pub corrected_offsets : ℤ → List ℕ → (ℕ → ℤ) → (ℕ → ℕ → Option ℤ) → ℕ → ℤ
corrected_offsets limit us clock read u = corrected_offset limit us (read u) (clock u) u

-- each unit's offset in the next frame
abbrev pub next_offsets : ℤ → List ℕ → (ℕ → ℤ) → (ℕ → ℤ) → (ℕ → ℕ → Option ℤ) → ℕ → ℤ
next_offsets limit us clock drift read u = corrected_offset limit us (read u) (clock u) u +ℤ drift u

-- what the corrections of n clocks, m of them faulty, leave between two of the others, n times: 2nE for the reading errors and 3S for each
-- faulty clock
abbrev pub left_apart : (skew error : ℤ) → (n m : ℕ) → ℤ
left_apart skew error n m = pos (2 * n) *ℤ error +ℤ pos (3 * m) *ℤ skew

-- the ceiling of a sum divided by n: the least whole number that isn't below the quotient
pub record IsCeiling (sum : ℤ) (n : ℕ) (ceiling : ℤ) : Type 0 where
  pub enough : sum ≤ℤ (pos n *ℤ ceiling)
  pub least : (k : ℤ) → sum ≤ℤ (pos n *ℤ k) → ceiling ≤ℤ k

-- corrected offsets of n clocks, at most m of them faulty, differ by at most the ceiling of (2nE + 3mS) / n, with the skew S and the reading
-- error E
abbrev pub CorrectedOffsetsAreClose : Type 0
CorrectedOffsetsAreClose =
    (skew error : ℤ) (us : List ℕ) (works : ℕ → Bool) (clock : ℕ → ℤ) (read : ℕ → ℕ → Option ℤ) (m : ℕ) (ceiling : ℤ) →
    pos 0 ≤ℤ error → AreTogether skew us works clock →
    ((u : ℕ) → has us u ≡ true → works u ≡ true → ReadsWell error us works clock u (read u)) → faulty_count works us ≤ m →
    IsCeiling (left_apart skew error (length us) m) (length us) ceiling →
    AreTogether ceiling us works (corrected_offsets (skew +ℤ error) us clock read)

-- drifts add at most 2R
abbrev pub DriftsAddTwice : Type 0
DriftsAddTwice =
    (rate far limit : ℤ) (us : List ℕ) (works : ℕ → Bool) (clock drift : ℕ → ℤ) (read : ℕ → ℕ → Option ℤ) →
    ((u : ℕ) → has us u ≡ true → works u ≡ true → IsWithin rate (drift u) (pos 0)) →
    AreTogether far us works (corrected_offsets limit us clock read) →
    AreTogether (far +ℤ pos 2 *ℤ rate) us works (next_offsets limit us clock drift read)

-- the ceiling and two drifts are at most S exactly where S * (n - 3m) >= 2n * (E + R)
abbrev pub CeilingFitsExactlyWhere : Type 0
CeilingFitsExactlyWhere =
    (skew error rate : ℤ) (n m : ℕ) (ceiling : ℤ) → IsCeiling (left_apart skew error n m) n ceiling →
    ((ceiling +ℤ pos 2 *ℤ rate) ≤ℤ skew) ↔ ((pos (2 * n) *ℤ (error +ℤ rate)) ≤ℤ (skew *ℤ (pos n -ℤ pos (3 * m))))

-- among n clocks, at most m of them faulty, S * (n - 3m) >= 2n * (E + R) keeps the skew S, with the reading error E and the
-- drift R
abbrev pub SkewIsKept : Type 0
SkewIsKept =
    (skew error rate : ℤ) (us : List ℕ) (works : ℕ → Bool) (clock drift : ℕ → ℤ) (read : ℕ → ℕ → Option ℤ) (m : ℕ) →
    AreWithin skew error rate us works clock drift read → faulty_count works us ≤ m →
    (pos (2 * length us) *ℤ (error +ℤ rate)) ≤ℤ (skew *ℤ (pos (length us) -ℤ pos (3 * m))) →
    AreTogether skew us works (next_offsets (skew +ℤ error) us clock drift read)

-- where no clock is faulty, S >= 2 * (E + R) keeps it
abbrev pub SkewIsKeptWithoutFaults : Type 0
SkewIsKeptWithoutFaults =
    (skew error rate : ℤ) (us : List ℕ) (works : ℕ → Bool) (clock drift : ℕ → ℤ) (read : ℕ → ℕ → Option ℤ) →
    AreWithin skew error rate us works clock drift read → faulty_count works us ≡ 0 →
    (pos 2 *ℤ (error +ℤ rate)) ≤ℤ skew →
    AreTogether skew us works (next_offsets (skew +ℤ error) us clock drift read)

-- in a configuration with margin, S >= 5 * (E + R) keeps it
abbrev pub SkewIsKeptWithMargin : Type 0
SkewIsKeptWithMargin =
    (skew error rate : ℤ) (us : List ℕ) (works : ℕ → Bool) (clock drift : ℕ → ℤ) (read : ℕ → ℕ → Option ℤ) →
    AreWithin skew error rate us works clock drift read → HasMargin works us →
    (pos 5 *ℤ (error +ℤ rate)) ≤ℤ skew →
    AreTogether skew us works (next_offsets (skew +ℤ error) us clock drift read)

-- those who read the working clocks of a configuration well, the working units and others: whether their own clocks are read well is open
pub record AreReaders (skew error : ℤ) (us : List ℕ) (reads works : ℕ → Bool) (clock : ℕ → ℤ) (read : ℕ → ℕ → Option ℤ) : Type 0 where
  pub wider : (u : ℕ) → works u ≡ true → reads u ≡ true
  pub together : AreTogether skew us reads clock
  pub readings : (u : ℕ) → has us u ≡ true → reads u ≡ true → ReadsWell error us works clock u (read u)

-- in a configuration with margin, S >= 5 * (E + R) keeps the skew of all who read well, with their drifts
abbrev pub ReadersAreKeptWithMargin : Type 0
ReadersAreKeptWithMargin =
    (skew error rate : ℤ) (us : List ℕ) (reads works : ℕ → Bool) (clock drift : ℕ → ℤ) (read : ℕ → ℕ → Option ℤ) →
    pos 0 ≤ℤ error → AreReaders skew error us reads works clock read →
    ((u : ℕ) → has us u ≡ true → reads u ≡ true → IsWithin rate (drift u) (pos 0)) → HasMargin works us →
    (pos 5 *ℤ (error +ℤ rate)) ≤ℤ skew →
    AreTogether skew us reads (next_offsets (skew +ℤ error) us clock drift read)

-- clock words tell offsets apart that are no farther apart than the largest skew
abbrev pub WordsAreReadRight : Type 0
WordsAreReadRight =
    (theirs own error : ℤ) → IsWithin skew_limit theirs own →
    reading_of (Some (word_of theirs)) own error ≡ Some ((theirs -ℤ own) +ℤ error)

-- so a unit that hears the clock words of the other working units, and misreads them by at most the error, reads them well
abbrev pub HeardClocksAreReadWell : Type 0
HeardClocksAreReadWell =
    (skew error : ℤ) (us : List ℕ) (works : ℕ → Bool) (clock : ℕ → ℤ) (u : ℕ) (heard : ℕ → Option ℕ) (errors : ℕ → ℤ) →
    skew ≤ℤ skew_limit → AreTogether skew us works clock → has us u ≡ true → works u ≡ true →
    ((v : ℕ) → has us v ≡ true → works v ≡ true → v ≢ u →
    (heard v ≡ Some (word_of (clock v))) × IsWithin error (errors v) (pos 0)) →
    ReadsWell error us works clock u (λ v. reading_of (heard v) (clock u) (errors v))
