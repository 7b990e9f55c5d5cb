-- The rules of a document, where it is known how many units there are and how many may lie, and what is handed on.
use Rattle.std.proofs.Common.{◌≡◌, ℕ, zero, suc, List, [], ◌∷◌, take, drop, Option, Result, Err, Some, None, sym, ap, subst, ◌∙◌}
use Rattle.std.specs.Prelude.{IsErr, IsErrAnd, unwrap_or}
use Rattle.std.proofs.lemmas.Result.{err_from_is_err_and}
use Rattle.toml.specs.Data.{Members}
use Rattle.sift_base.specs.declared.stop.Stop.{Stop}
use Rattle.sift_base.specs.declared.stop.Stop.TheVariants as stop
use Rattle.sift_document.specs.Rules.{AreKept, IsFirstPlace, OfNoEntry, Rule}
use Rattle.sift_document.specs.Testing.{RefusesFirst}
use Rattle.sift_document.specs.declared.entries.BrokenRule.{BrokenRule}
use Rattle.sift_document.specs.laws.Order.{StopsAt, later, stopped}
use Rattle.sift_document.specs.laws.Testing.{refused_of_none}
use Rattle.sift_byz.specs.Lawful.{rules_for, rules_of}
use Rattle.sift_byz.specs.Stated.{m_of, units_of}
use Rattle.sift_byz.proofs.Testing.{none_some}

-- what `?` hands on is the refusal that it met
pub handed_on : {A E : Type 0} (r : Result A E) (e : E) → IsErr r × IsErrAnd r (λ met. met ≡ e) → r ≡ Err e
handed_on r e given = let met = err_from_is_err_and r given.1 in met.1 ∙ ap Err met.2

-- the refusal of a rule that speaks of no entry
abbrev pub refusal : ℕ → Stop BrokenRule
refusal number = stop.Refused (record { number = number; place = 0 })

-- a rule is kept that asks for what is stated
pub kept_stated : {A : Type 0} {stated : Option A} {x : A} → Some x ≡ stated → (place : ℕ) → ¬ OfNoEntry (stated ≡ None) place
kept_stated is place broken = none_some (sym broken.1) (sym is)

-- and refused where that isn't stated
pub refused_unstated : {A : Type 0} (number : ℕ) {stated : Option A} → None ≡ stated → (number ≡ number) × IsFirstPlace (OfNoEntry (stated ≡ None)) 0
refused_unstated number none = refused_of_none number _ (sym none)

-- the first rules are kept, and one of the others is refused
later_all : (k : ℕ) (rules : List Rule) (e : Stop BrokenRule) → AreKept (take k rules) → RefusesFirst (drop k rules) e → RefusesFirst rules e
later_all zero rules e kept refused = refused
later_all (suc k) [] e kept refused = refused
later_all (suc k) (rule ∷ rest) e kept refused = later rule rest e kept.0 (later_all k rest e kept.1 refused)

module _ (document : Members) (m : ℕ) (m_is : m_of document ≡ Some m) where
  -- a rule is refused that stands on how many may lie
  pub stopped_with_m : (k : ℕ) (e : Stop BrokenRule) → StopsAt k (rules_for (unwrap_or (units_of m document) 0) m document) e → RefusesFirst (rules_of document) e
  stopped_with_m k e stops =
      subst (λ x. RefusesFirst (rules_for (unwrap_or (units_of x document) 0) x document) e) (sym (ap (λ x. unwrap_or x 0) m_is))
      (stopped k (rules_for (unwrap_or (units_of m document) 0) m document) e stops)

  module _ (units : ℕ) (units_is : units_of m document ≡ Some units) where
    -- the rules, where it is known how many units there are and how many may lie
    rules_stated : rules_of document ≡ rules_for units m document
    rules_stated =
        ap (λ x. rules_for (unwrap_or (units_of x document) 0) x document) (ap (λ x. unwrap_or x 0) m_is)
        ∙ ap (λ x. rules_for x m document) (ap (λ x. unwrap_or x 0) units_is)

    -- a rule is refused that stands on both, and all are kept
    pub stopped_with_units : (k : ℕ) (e : Stop BrokenRule) → StopsAt k (rules_for units m document) e → RefusesFirst (rules_of document) e
    stopped_with_units k e stops = subst (λ rules. RefusesFirst rules e) (sym rules_stated) (stopped k (rules_for units m document) e stops)

    -- the first four rules are kept, and one of the others is refused
    pub refused_later :
        (e : Stop BrokenRule) → AreKept (take 4 (rules_for units m document)) → RefusesFirst (drop 4 (rules_for units m document)) e
        → RefusesFirst (rules_of document) e
    refused_later e kept refused =
        subst (λ rules. RefusesFirst rules e) (sym rules_stated) (later_all 4 (rules_for units m document) e kept refused)

    -- where the rules for these numbers are kept, so are those of the document
    pub kept_with_units : AreKept (rules_for units m document) → AreKept (rules_of document)
    kept_with_units kept = subst AreKept (sym rules_stated) kept

    -- where the rules of the document are kept, so are those for these numbers
    pub kept_for_units : AreKept (rules_of document) → AreKept (rules_for units m document)
    kept_for_units kept = subst AreKept rules_stated kept
