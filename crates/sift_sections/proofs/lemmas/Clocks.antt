-- The clocks that a document states are admitted.
use Rattle.std.proofs.Common.{◌≡◌, ◌<◌, ◌≤◌, ◌+◌, ◌*◌, ℕ, List, [], Option, Some, None, replicate, inl, inr, refl, arith}
use Rattle.std.proofs.lemmas.Bool.{cases_lt}
use Rattle.std.proofs.lemmas.Int.{ints}
use Rattle.std.specs.List.{All}
use Rattle.std.specs.Prelude.{codes, ℤ, pos, option_and_then, unwrap_or, ◌≤ℤ◌, ◌+ℤ◌}
use Rattle.toml.specs.Data.{Data, Members, get_member}
use Rattle.sift_document.specs.Document.{integer_between, members_of}
use Rattle.sift_document.specs.Rules.{AreKept}
use Rattle.sift_document.specs.laws.Order.{kept_each}
use Rattle.sift_document.specs.laws.Numbers.{between, between_at, read_by}
use Rattle.sift_skew.specs.Limits.{AreNumbers, IsAdmitted}
use Rattle.sift_mission.specs.PartsFit.{AreClocks}
use Rattle.sift_sections.specs.Clock.{StartTogether, clock_rules, clocks_in, drifts_of, error_of, errors_of, figure_rules, length_limit, length_of, rate_of, skew_of, starts_of, tick_limit, unit_rules}
use Rattle.sift_sections.specs.laws.Named.{clock_themes}
use Rattle.sift_sections.proofs.KnownStarts.{together_in}
use Rattle.sift_sections.proofs.Ticks.{All-replicate, AreRows, AreTicks, right_in, right_or, rows_near, rows_or, ticks_or, zeros_near}

-- what isn't less is at least as much
not_less : (m n : ℕ) → (m < n → ⊥) → n ≤ m
not_less m n never = elim (cases_lt m n) [ inl less ↦ absurd (never less) | inr le ↦ le ]

-- four figures within their limits are numbers to ask about
are_numbers :
    (skew error rate long : ℕ) → skew ≤ tick_limit → error ≤ tick_limit → rate ≤ tick_limit → long ≤ length_limit
    → AreNumbers (pos skew) (pos error) (pos rate) (pos long)
are_numbers skew error rate long few_skew few_error few_rate few_long = (
  (omega (arith, ints), omega (arith, ints, few_skew)),
  (omega (arith, ints), omega (arith, ints, few_error)),
  (omega (arith, ints), omega (arith, ints, few_rate)),
  (omega (arith, ints), omega (arith, ints, few_long)),
)

-- they are admitted where the skew and the length are enough
are_admitted :
    (skew error rate long : ℕ) → skew ≤ tick_limit → 5 * (error + rate) ≤ skew → 2 * skew + error + rate + 1 ≤ long
    → IsAdmitted (pos skew) (pos error) (pos rate) (pos long)
are_admitted skew error rate long few kept enough = record {
  kept = omega (arith, ints, kept);
  told = omega (arith, ints, few);
  long = omega (arith, ints, enough);
}

-- a figure that must be there
figure_at :
    (low high missing : ℕ) (d : Option Data) → (option_and_then (integer_between low high) d ≡ None → ⊥)
    → (unwrap_or (option_and_then (integer_between low high) d) missing) ≤ high
figure_at low high missing d some = right_in (λ n. n ≤ high) missing (option_and_then (integer_between low high) d) some (λ n is. (between_at low high d n is).1)

-- what stands for a figure that is missing doesn't matter to one that is there
any_missing : (m n : ℕ) (figure : Option ℕ) → (figure ≡ None → ⊥) → unwrap_or figure m ≡ unwrap_or figure n
any_missing m n None some = absurd (some refl)
any_missing m n (Some figure) some = refl

-- a figure that may be missing, and is 0 then
figure_or :
    (d : Option Data) → (read_by 0 (integer_between 0 tick_limit) d ≡ None → ⊥)
    → (unwrap_or (read_by 0 (integer_between 0 tick_limit) d) 0) ≤ tick_limit
figure_or d some = right_in (λ n. n ≤ tick_limit) 0 (read_by 0 (integer_between 0 tick_limit) d) some
    (right_or (λ n. n ≤ tick_limit) (integer_between 0 tick_limit) (λ e n is. (between 0 tick_limit e n is).1) 0 (omega arith) d)

-- clocks of which this holds fit
fitting :
    (units skew error rate long : ℕ) (start drift : List ℤ) (errors : List (List ℤ))
    → AreNumbers (pos skew) (pos error) (pos rate) (pos long) → IsAdmitted (pos skew) (pos error) (pos rate) (pos long)
    → AreTicks units tick_limit start → StartTogether skew start → AreTicks units rate drift → AreRows units error errors
    → AreClocks units (record {
      skew = pos skew;
      error = pos error;
      rate = pos rate;
      length = pos long;
      start = start;
      drift = drift;
      errors = errors;
    })
fitting units skew error rate long start drift errors numbers admitted starts together drifts rows = record {
  numbers = numbers;
  admitted = admitted;
  starts = starts.0;
  drifts = drifts.0;
  rows = rows.0;
  columns = λ k d low. (rows.1 k d low).0;
  near = starts.1;
  together = together;
  drifts_within = drifts.1;
  errors_within = λ k d low. (rows.1 k d low).1;
}

-- zeros are together
zeros_together : (units skew : ℕ) → StartTogether skew (replicate units (pos 0))
zeros_together units skew = All-replicate (λ offset. All (λ other. offset ≤ℤ (other +ℤ pos skew)) (replicate units (pos 0))) units (pos 0)
    (All-replicate (λ other. pos 0 ≤ℤ (other +ℤ pos skew)) units (pos 0) (omega (arith, ints)))

-- clocks that agree fit
plain_fit : (units : ℕ) → AreClocks units (clocks_in units None)
plain_fit units = fitting units 0 0 0 1 (replicate units (pos 0)) (replicate units (pos 0)) (replicate units (replicate units (pos 0)))
    (are_numbers 0 0 0 1 (omega arith) (omega arith) (omega arith) (omega arith))
    (are_admitted 0 0 0 1 (omega arith) (omega arith) (omega arith))
    (zeros_near units tick_limit) (zeros_together units 0) (zeros_near units 0) (rows_near units 0)

module _
    (units : ℕ) (value : Data) (figures : AreKept (figure_rules (members_of value))) (rules : AreKept (unit_rules units (members_of value))) where
  -- the table that states the clocks
  abbrev clock : Members
  clock = members_of value

  -- the figures are within their limits
  skew_fits : (unwrap_or (skew_of clock) 0) ≤ tick_limit
  skew_fits = figure_at 0 tick_limit 0 (get_member (codes "skew") clock) (λ none. figures.0 0 (refl, none))

  error_fits : (unwrap_or (error_of clock) 0) ≤ tick_limit
  error_fits = figure_or (get_member (codes "error") clock) (λ none. figures.1.0 0 (refl, inl none))

  rate_fits : (unwrap_or (rate_of clock) 0) ≤ tick_limit
  rate_fits = figure_or (get_member (codes "rate") clock) (λ none. figures.1.0 0 (refl, inr none))

  length_fits : (unwrap_or (length_of clock) 1) ≤ length_limit
  length_fits = figure_at 1 length_limit 1 (get_member (codes "length") clock) (λ none. figures.1.1.0 0 (refl, none))

  -- the length is there, whatever would stand for it
  length_there : unwrap_or (length_of clock) 0 ≡ unwrap_or (length_of clock) 1
  length_there = any_missing 0 1 (length_of clock) (λ none. figures.1.1.0 0 (refl, none))

  -- the clocks start near to 0, and together
  start_fits :
      AreTicks units tick_limit (unwrap_or (starts_of units clock) [])
      × StartTogether (unwrap_or (skew_of clock) 0) (unwrap_or (starts_of units clock) [])
  start_fits =
      let there = together_in (unwrap_or (skew_of clock) 0) (starts_of units clock) (λ apart. rules.0 0 (refl, apart)) in
      rw there.1 (ticks_or units tick_limit (get_member (codes "start") clock) there.0 there.1, there.2)

  -- the drifts and the errors are within the rate and the error
  drift_fits : AreTicks units (unwrap_or (rate_of clock) 0) (unwrap_or (drifts_of units (unwrap_or (rate_of clock) 0) clock) [])
  drift_fits =
      let rate = unwrap_or (rate_of clock) 0 in
      right_in (AreTicks units rate) [] (drifts_of units rate clock) (λ none. rules.1.0 0 (refl, none))
      (ticks_or units rate (get_member (codes "drift") clock))

  rows_fit : AreRows units (unwrap_or (error_of clock) 0) (unwrap_or (errors_of units (unwrap_or (error_of clock) 0) clock) [])
  rows_fit =
      let error = unwrap_or (error_of clock) 0 in
      right_in (AreRows units error) [] (errors_of units error clock) (λ none. rules.1.1.0 0 (refl, none))
      (rows_or units error (get_member (codes "errors") clock))

  -- clocks that keep the rules fit
  stated_fit : AreClocks units (clocks_in units (Some value))
  stated_fit =
      fitting units (unwrap_or (skew_of clock) 0) (unwrap_or (error_of clock) 0) (unwrap_or (rate_of clock) 0) (unwrap_or (length_of clock) 1) _ _ _
      (are_numbers _ _ _ _ skew_fits error_fits rate_fits length_fits)
      (are_admitted _ _ _ _ skew_fits (not_less _ _ (λ small. figures.1.1.1.0 0 (refl, small)))
      (rw (← length_there) (not_less _ _ (λ short. figures.1.1.1.1.0 0 (refl, short)))))
      start_fits.0 start_fits.1 drift_fits rows_fit

-- the clocks that a value of `clock` states fit, and so do those where it is missing
pub value_fits : (units : ℕ) (value : Option Data) → AreKept (clock_rules units value) → AreClocks units (clocks_in units value)
value_fits units None kept = plain_fit units
value_fits units (Some value) kept =
    let themes = kept_each (clock_themes units value) kept in
    stated_fit units value themes.1.0 themes.1.1.0
