-- The figures of a clock are within their limits, and where the test of them stops.
use Rattle.std.proofs.Common.{◌≡◌, ◌<◌, ◌≤◌, ◌+◌, ◌*◌, ℕ, Option, Some, None, arith}
use Rattle.std.specs.Prelude.{codes, unwrap_or}
use Rattle.toml.specs.Data.{Data, Members, get_member}
use Rattle.sift_base.specs.declared.stop.Stop.{Stop}
use Rattle.sift_document.specs.Document.{integer_between}
use Rattle.sift_document.specs.Rules.{IsKept, OfNoEntry, rule}
use Rattle.sift_document.specs.Testing.{RefusesBy}
use Rattle.sift_document.specs.declared.entries.BrokenRule.{BrokenRule}
use Rattle.sift_document.specs.laws.Numbers.{between, between_at, read_by}
use Rattle.sift_sections.specs.Clock.{error_of, length_limit, length_of, rate_of, skew_of, tick_limit}

-- a number that is read, or 0 where none is there, is at most the limit
few_or : (high : ℕ) (d : Option Data) (n : ℕ) → read_by 0 (integer_between 0 high) d ≡ Some n → n ≤ high
few_or high None n is = let none : 0 ≡ n = cc is in omega (arith, none)
few_or high (Some d) n is = (between 0 high d n is).1

-- a skew that is read is at most 8,000 ticks
pub few_skew : (clock : Members) (n : ℕ) → skew_of clock ≡ Some n → n ≤ tick_limit
few_skew clock n is = (between_at 0 tick_limit (get_member (codes "skew") clock) n is).1

-- an error that is read, or is 0 where none is stated, is at most 8,000 ticks
pub few_error : (clock : Members) (n : ℕ) → error_of clock ≡ Some n → n ≤ tick_limit
few_error clock n is = few_or tick_limit (get_member (codes "error") clock) n is

-- a rate that is read, or is 0 where none is stated, is at most 8,000 ticks
pub few_rate : (clock : Members) (n : ℕ) → rate_of clock ≡ Some n → n ≤ tick_limit
few_rate clock n is = few_or tick_limit (get_member (codes "rate") clock) n is

-- a length that is read is at most 1,000,000 ticks
pub few_length : (clock : Members) (n : ℕ) → length_of clock ≡ Some n → n ≤ length_limit
few_length clock n is = (between_at 1 length_limit (get_member (codes "length") clock) n is).1

-- what tests the figures that were read tests those that the clock states
module _
    (clock : Members) (skew error rate : ℕ)
    (skew_is : skew_of clock ≡ Some skew) (error_is : error_of clock ≡ Some error) (rate_is : rate_of clock ≡ Some rate) where
  -- the skew is too little
  abbrev IsUnkept : ℕ → Type 0
  IsUnkept = OfNoEntry (unwrap_or (skew_of clock) 0 < 5 * (unwrap_or (error_of clock) 0 + unwrap_or (rate_of clock) 0))

  -- it isn't, by the figures that were read
  pub skew_kept : IsKept (rule 10 (OfNoEntry (skew < 5 * (error + rate)))) → IsKept (rule 10 IsUnkept)
  skew_kept kept = rw (skew_is, error_is, rate_is) kept

  -- or it is, and is refused
  pub skew_refused : (e : Stop BrokenRule) → RefusesBy 10 (OfNoEntry (skew < 5 * (error + rate))) e → RefusesBy 10 IsUnkept e
  skew_refused e refused = rw (skew_is, error_is, rate_is) refused

  module _ (length : ℕ) (length_is : length_of clock ≡ Some length) where
    -- a subframe is too short
    abbrev IsShort : ℕ → Type 0
    IsShort = OfNoEntry (unwrap_or (length_of clock) 0 < 2 * unwrap_or (skew_of clock) 0 + unwrap_or (error_of clock) 0 + unwrap_or (rate_of clock) 0 + 1)

    -- it isn't, by the figures that were read
    pub length_kept : IsKept (rule 11 (OfNoEntry (length < 2 * skew + error + rate + 1))) → IsKept (rule 11 IsShort)
    length_kept kept = rw (skew_is, error_is, rate_is, length_is) kept

    -- or it is, and is refused
    pub length_refused : (e : Stop BrokenRule) → RefusesBy 11 (OfNoEntry (length < 2 * skew + error + rate + 1)) e → RefusesBy 11 IsShort e
    length_refused e refused = rw (skew_is, error_is, rate_is, length_is) refused
