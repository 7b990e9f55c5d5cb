-- Where the test of a clock stops, and where it doesn't; and the clocks that are read.
use Rattle.std.proofs.Common.{◌≡◌, ℕ, ℤ, pos, List, Some, refl, sym, ap, subst}
use Rattle.toml.specs.Data.{Data, Members}
use Rattle.std.specs.Prelude.{unwrap_or}
use Rattle.sift_base.specs.declared.stop.Stop.{Stop}
use Rattle.sift_document.specs.Document.{members_of, IsTableOf}
use Rattle.sift_document.specs.Rules.{AreKept, IsKept, rule, OfNoEntry}
use Rattle.sift_document.specs.Testing.{RefusesBy, RefusesFirst}
use Rattle.sift_document.specs.declared.entries.BrokenRule.{BrokenRule}
use Rattle.sift_document.specs.laws.Order.{kept_joined, stopped, stopped_in}
use Rattle.sift_mission.specs.Data.{Clocks}
use Rattle.sift_sections.specs.Clock.{clock_rules, clocks_in, drifts_of, error_of, errors_of, figure_rules, length_of, rate_of, skew_of, starts_of, unit_rules, clock_keys}
use Rattle.sift_sections.specs.laws.Named.{BreaksStart, BreaksDrift, BreaksErrors, clock_themes}

-- a value, and the table that it is
module _
    (units : ℕ) (value : Data) (clock : Members) (same : clock ≡ members_of value)
    (known : IsKept (rule 6 (OfNoEntry (¬ IsTableOf clock_keys value)))) where
  -- one of its figures is refused
  pub figure_refused : (e : Stop BrokenRule) → RefusesFirst (figure_rules clock) e → RefusesFirst (clock_rules units (Some value)) e
  figure_refused e refused =
      stopped_in 1 (clock_themes units value) e ((known, tt), subst (λ (members : Members). RefusesFirst (figure_rules members) e) same refused)

  -- the figures are as they should be
  module _ (figures : AreKept (figure_rules clock)) where
    kept : AreKept (figure_rules (members_of value))
    kept = subst (λ (members : Members). AreKept (figure_rules members)) same figures

    -- a rule of what it says of the units is refused
    pub units_refused : (e : Stop BrokenRule) → RefusesFirst (unit_rules units clock) e → RefusesFirst (clock_rules units (Some value)) e
    units_refused e refused =
        stopped_in 2 (clock_themes units value) e ((known, tt), (kept, subst (λ (members : Members). RefusesFirst (unit_rules units members) e) same refused))

    -- no rule is broken
    pub clock_kept : AreKept (unit_rules units clock) → AreKept (clock_rules units (Some value))
    clock_kept rest =
        kept_joined (clock_themes units value) ((known, tt), (kept, (subst (λ (members : Members). AreKept (unit_rules units members)) same rest, tt)))

-- a clock, and the figures that were read of it
module _
    (units : ℕ) (clock : Members) (skew error rate : ℕ)
    (skew_is : skew_of clock ≡ Some skew) (error_is : error_of clock ≡ Some error) (rate_is : rate_of clock ≡ Some rate) where
  -- the starts, the drifts or the errors are refused
  pub start_refused : (e : Stop BrokenRule) → RefusesBy 12 (BreaksStart units skew clock) e → RefusesFirst (unit_rules units clock) e
  start_refused e refused =
      stopped 0 (unit_rules units clock) e (subst (λ (n : ℕ). RefusesBy 12 (BreaksStart units n clock) e)
      (sym (ap (λ o. unwrap_or o 0) skew_is)) refused)

  -- the starts are as they should be, by the skew that was read
  pub start_kept : IsKept (rule 12 (BreaksStart units skew clock)) → IsKept (rule 12 (BreaksStart units (unwrap_or (skew_of clock) 0) clock))
  start_kept kept = subst (λ (n : ℕ). IsKept (rule 12 (BreaksStart units n clock))) (sym (ap (λ o. unwrap_or o 0) skew_is)) kept

  -- where the drifts are within the rate that is stated, their rule is kept
  pub drift_kept : IsKept (rule 13 (BreaksDrift units rate clock)) → IsKept (rule 13 (BreaksDrift units (unwrap_or (rate_of clock) 0) clock))
  drift_kept kept = subst (λ (n : ℕ). IsKept (rule 13 (BreaksDrift units n clock))) (sym (ap (λ o. unwrap_or o 0) rate_is)) kept

  -- where the errors are within the error that is stated, their rule is kept
  pub errors_kept : IsKept (rule 14 (BreaksErrors units error clock)) → IsKept (rule 14 (BreaksErrors units (unwrap_or (error_of clock) 0) clock))
  errors_kept kept = subst (λ (n : ℕ). IsKept (rule 14 (BreaksErrors units n clock))) (sym (ap (λ o. unwrap_or o 0) error_is)) kept

  -- where the starts keep their rule, a drift beyond the stated rate breaks the first rule of the units' clocks
  pub drift_refused :
      (e : Stop BrokenRule) → IsKept (rule 12 (BreaksStart units skew clock)) → RefusesBy 13 (BreaksDrift units rate clock) e → RefusesFirst (unit_rules units clock) e
  drift_refused e starts refused =
      stopped 1 (unit_rules units clock) e (
        start_kept starts,
        subst (λ (n : ℕ). RefusesBy 13 (BreaksDrift units n clock) e)
            (sym (ap (λ o. unwrap_or o 0) rate_is)) refused,
      )

  -- where starts and drifts keep their rules, so does an error beyond the stated one
  pub errors_refused :
      (e : Stop BrokenRule) → IsKept (rule 12 (BreaksStart units skew clock)) → IsKept (rule 13 (BreaksDrift units rate clock))
      → RefusesBy 14 (BreaksErrors units error clock) e → RefusesFirst (unit_rules units clock) e
  errors_refused e starts drifts refused =
      stopped 2 (unit_rules units clock) e (
        start_kept starts,
        (
          drift_kept drifts,
          subst (λ (n : ℕ). RefusesBy 14 (BreaksErrors units n clock) e)
              (sym (ap (λ o. unwrap_or o 0) error_is)) refused,
        ),
      )

-- the clocks that were read are those of the value
pub clocks_read :
    (units : ℕ) (value : Data) (clock : Members) (skew error rate length : ℕ) (start drift : List ℤ) (errors : List (List ℤ))
    → clock ≡ members_of value
    → skew_of clock ≡ Some skew → error_of clock ≡ Some error → rate_of clock ≡ Some rate → length_of clock ≡ Some length
    → starts_of units clock ≡ Some start → drifts_of units rate clock ≡ Some drift → errors_of units error clock ≡ Some errors
    → (let clocks : Clocks = record { skew = pos skew; error = pos error; rate = pos rate; length = pos length; start = start; drift = drift; errors = errors } in clocks)
    ≡ clocks_in units (Some value)
clocks_read units value clock skew error rate length start drift errors same skew_is error_is rate_is length_is start_is drift_is errors_is =
    rw (← same, skew_is, error_is, rate_is, length_is, start_is, drift_is, errors_is) refl
