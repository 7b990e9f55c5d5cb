-- What the table of `clock` says, in ticks, and its rules.
use Rattle.std.specs.Prelude.{codes, ℕ, ◌≡◌, ◌<◌, ◌+◌, ◌*◌, ◌⊎◌, ℤ, pos, int_le, ◌-ℤ◌, ◌+ℤ◌, ◌≤ℤ◌, ◌&&◌, List, [], ◌∷◌, ◌++◌, if◌then◌else◌, Option, Some, None, replicate, option_map, unwrap_or}
use Rattle.std.specs.List.{All}
use Rattle.toml.specs.Data.{Data, integer, Members, no_members}
use Rattle.sift_mission.specs.Data.{Clocks}
use Rattle.sift_document.specs.Document.{IsTableOf, array_between, integer_between, members_of, read_at, read_or}
use Rattle.sift_document.specs.Rules.{OfNoEntry, Rule, rule}

-- ---- what it says

-- the keys that a clock may have
abbrev pub clock_keys : List (List ℕ)
clock_keys = codes "skew" ∷ codes "error" ∷ codes "rate" ∷ codes "length" ∷ codes "start" ∷ codes "drift" ∷ codes "errors" ∷ []

-- the most of a skew, of an error and of a rate, and how far from 0 a clock may start
abbrev pub tick_limit : ℕ
tick_limit = 8000

-- the most of the length of a subframe
abbrev pub length_limit : ℕ
length_limit = 1000000

-- the skew, the error, the rate and the length; the second and the third are 0 where they are missing
abbrev pub skew_of : Members → Option ℕ
skew_of clock = read_at (integer_between 0 tick_limit) (codes "skew") clock

abbrev pub error_of : Members → Option ℕ
error_of clock = read_or 0 (integer_between 0 tick_limit) (codes "error") clock

abbrev pub rate_of : Members → Option ℕ
rate_of clock = read_or 0 (integer_between 0 tick_limit) (codes "rate") clock

abbrev pub length_of : Members → Option ℕ
length_of clock = read_at (integer_between 1 length_limit) (codes "length") clock

-- an integer that is no farther from 0 than `far`
abbrev pub ticks_within : (far : ℕ) → Data → Option ℤ
ticks_within far (integer z) = if int_le (pos 0 -ℤ pos far) z && int_le z (pos far) then Some z else None
ticks_within far _ = None

-- an array of one such integer for each unit
abbrev pub unit_ticks : (units far : ℕ) → Data → Option (List ℤ)
unit_ticks units far value = array_between units units (ticks_within far) value

-- the offset of each unit at the start, its drift, and its errors, of which it has one for each unit; all are 0 where they are missing
abbrev pub starts_of : (units : ℕ) → Members → Option (List ℤ)
starts_of units clock = read_or (replicate units (pos 0)) (unit_ticks units tick_limit) (codes "start") clock

abbrev pub drifts_of : (units rate : ℕ) → Members → Option (List ℤ)
drifts_of units rate clock = read_or (replicate units (pos 0)) (unit_ticks units rate) (codes "drift") clock

abbrev pub errors_of : (units error : ℕ) → Members → Option (List (List ℤ))
errors_of units error clock =
    read_or (replicate units (replicate units (pos 0))) (array_between units units (unit_ticks units error)) (codes "errors") clock

-- ---- its rules

-- the rules of its four figures
abbrev pub figure_rules : Members → List Rule
figure_rules clock =
    -- `skew` is missing, or is no integer from 0 to 8,000
    rule 7 (OfNoEntry (skew_of clock ≡ None))
    -- `error` or `rate` is there, and is no such integer
    ∷ rule 8 (OfNoEntry ((error_of clock ≡ None) ⊎ (rate_of clock ≡ None)))
    -- `length` is missing, or is no integer from 1 to 1,000,000
    ∷ rule 9 (OfNoEntry (length_of clock ≡ None))
    -- five times what clocks may err and drift is more than the skew
    ∷ rule 10 (OfNoEntry (unwrap_or (skew_of clock) 0 < 5 * (unwrap_or (error_of clock) 0 + unwrap_or (rate_of clock) 0)))
    -- a subframe is shorter than twice the skew, an error, a rate and a tick
    ∷ rule 11 (OfNoEntry (
    unwrap_or (length_of clock) 0 < 2 * unwrap_or (skew_of clock) 0 + unwrap_or (error_of clock) 0 + unwrap_or (rate_of clock) 0 + 1))
    ∷ []

-- no two of the clocks differ by more than the skew at the start
abbrev pub StartTogether : (skew : ℕ) → List ℤ → Type 0
StartTogether skew starts = All (λ offset. All (λ other. offset ≤ℤ (other +ℤ pos skew)) starts) starts

-- the rules of what it says of each unit
abbrev pub unit_rules : (units : ℕ) → Members → List Rule
unit_rules units clock =
    -- `start` is there, and isn't as it should be, or two of the clocks differ by more than the skew
    rule 12 (OfNoEntry ((starts : List ℤ) → (starts_of units clock ≡ Some starts) → ¬ StartTogether (unwrap_or (skew_of clock) 0) starts))
    -- `drift` is there, and is no array of an integer from -rate to rate for each unit
    ∷ rule 13 (OfNoEntry (drifts_of units (unwrap_or (rate_of clock) 0) clock ≡ None))
    -- `errors` is there, and is no array with, for each unit, an array of an integer from -error to error for each unit
    ∷ rule 14 (OfNoEntry (errors_of units (unwrap_or (error_of clock) 0) clock ≡ None))
    ∷ []

-- the rules of the value of `clock`, for so many units; there are none where it is missing
abbrev pub clock_rules : (units : ℕ) → Option Data → List Rule
clock_rules units None = []
clock_rules units (Some value) =
    -- the value is no table with known keys
    rule 6 (OfNoEntry (¬ IsTableOf clock_keys value)) ∷ figure_rules (members_of value) ++ unit_rules units (members_of value)

-- ---- the clocks

-- the clocks that the value of `clock` states, for so many units; where it is missing they agree, with subframes of one tick
abbrev pub clocks_in : (units : ℕ) → Option Data → Clocks
clocks_in units value =
    let clock = unwrap_or (option_map members_of value) no_members in record {
      skew = pos (unwrap_or (skew_of clock) 0);
      error = pos (unwrap_or (error_of clock) 0);
      rate = pos (unwrap_or (rate_of clock) 0);
      length = pos (unwrap_or (length_of clock) 1);
      start = unwrap_or (starts_of units clock) [];
      drift = unwrap_or (drifts_of units (unwrap_or (rate_of clock) 0) clock) [];
      errors = unwrap_or (errors_of units (unwrap_or (error_of clock) 0) clock) [];
    }
