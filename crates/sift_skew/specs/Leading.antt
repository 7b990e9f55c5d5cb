-- No clock leads another by more than a subframe, and figures are numbers.
use Rattle.std.specs.Prelude.{◌≡◌, ℕ, suc, List, ◌++◌, length, map, true, Option, ℤ, pos, ◌+ℤ◌, ◌-ℤ◌, ◌*ℤ◌, ◌≤ℤ◌, ◌<ℤ◌}
use Rattle.std.specs.List.{Contains}
use Rattle.sift_base.specs.Units.{has}
use Rattle.sift_clock.specs.Distance.{IsWithin}
use Rattle.sift_clock.specs.Correction.{corrected_offset}
use Rattle.sift_skew.specs.Limits.{IsAdmitted}
use Rattle.sift_skew.specs.Figures.{IsSkew, IsSlack}

-- an offset changes at a boundary by at most the limit of readings and the drift, whatever is read
abbrev pub OffsetsChangeLittle : Type 0
OffsetsChangeLittle =
    (limit rate : ℤ) (us : List ℕ) (read : ℕ → Option ℤ) (own drift : ℤ) (u : ℕ) →
    has us u ≡ true → pos 0 ≤ℤ limit → IsWithin rate drift (pos 0) →
    IsWithin (limit +ℤ rate) (corrected_offset limit us read own u +ℤ drift) own

-- where clocks of admitted limits differ by at most the skew, and change at the boundary by at most the limit of readings
-- and the drift, the slack is at least 1
abbrev pub SlackIsPositive : Type 0
SlackIsPositive =
    (skew error rate length slack : ℤ) (us : List ℕ) (clock next : ℕ → ℤ) →
    IsAdmitted skew error rate length →
    ((p q : ℕ) → has us p ≡ true → has us q ≡ true → clock p ≤ℤ (clock q +ℤ skew)) →
    ((u : ℕ) → has us u ≡ true → IsWithin (skew +ℤ error +ℤ rate) (next u) (clock u)) →
    IsSlack length (map clock us) (map next us) slack →
    pos 1 ≤ℤ slack

-- the tick at which a clock with this offset enters a subframe
abbrev pub entry_tick : ℤ → ℕ → ℤ → ℤ
entry_tick length subframe offset = pos subframe *ℤ length -ℤ offset

-- where the slack is at least 1, no clock enters the second subframe after this one before another has entered the next
abbrev pub LeadIsAtMostOne : Type 0
LeadIsAtMostOne =
    (length slack : ℤ) (now next : List ℤ) → IsSlack length now next slack → pos 1 ≤ℤ slack →
    (p q : ℤ) → Contains now p → Contains (now ++ next) q →
    (subframe : ℕ) → entry_tick length (suc subframe) p <ℤ entry_tick length (suc (suc subframe)) q

-- offsets have one skew, and no other
abbrev pub SkewIsUnique : Type 0
SkewIsUnique = (offsets : List ℤ) (a b : ℤ) → IsSkew offsets a → IsSkew offsets b → a ≡ b

-- a frame's clocks have one slack, and no other
abbrev pub SlackIsUnique : Type 0
SlackIsUnique =
    (length : ℤ) (now next : List ℤ) (a b : ℤ) → IsSlack length now next a → IsSlack length now next b → a ≡ b
