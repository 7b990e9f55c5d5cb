-- The rules of a document by what they speak of.
use Rattle.std.proofs.Common.{◌≡◌, ℕ, Some, sym, ap, subst}
use Rattle.std.specs.Prelude.{unwrap_or}
use Rattle.toml.specs.Data.{Members}
use Rattle.sift_base.specs.declared.stop.Stop.{Stop}
use Rattle.sift_document.specs.Testing.{RefusesFirst}
use Rattle.sift_document.specs.declared.entries.BrokenRule.{BrokenRule}
use Rattle.sift_document.specs.laws.Order.{AreAllKept, StopsIn, kept_each, kept_joined, stopped_in}
use Rattle.sift_scenario.specs.Mission.{IsLawful, rules_of}
use Rattle.sift_scenario.specs.Root.{root_rules, units_of, version_of}
use Rattle.sift_scenario.proofs.Named.{themes_for}

module _ (document : Members) (units : ℕ) (is : units_of document ≡ Some units) where
  -- the number of units that is read is the one that is stated
  units_are : unwrap_or (units_of document) 0 ≡ units
  units_are = ap (λ o. unwrap_or o 0) is

  -- a rule of a theme is the first that is broken
  pub theme_refused : (k : ℕ) (e : Stop BrokenRule) → StopsIn k (themes_for units document) e → RefusesFirst (rules_of document) e
  theme_refused k e stops =
      stopped_in k (themes_for (unwrap_or (units_of document) 0) document) e (subst (λ (n : ℕ). StopsIn k (themes_for n document) e) (sym units_are) stops)

  -- the rules of each theme are kept
  pub themes_kept : AreAllKept (themes_for units document) → IsLawful document
  themes_kept kept =
      kept_joined (themes_for (unwrap_or (units_of document) 0) document) (subst (λ (n : ℕ). AreAllKept (themes_for n document)) (sym units_are) kept)

  -- where the document keeps all rules, the rules of each theme are kept
  pub kept_themes : IsLawful document → AreAllKept (themes_for units document)
  kept_themes lawful =
      subst (λ (n : ℕ). AreAllKept (themes_for n document)) units_are (kept_each (themes_for (unwrap_or (units_of document) 0) document) lawful)

-- the version that is read is the one that is stated
pub for_version : (document : Members) (version : ℕ) → version_of document ≡ Some version → (P : ℕ → Type 0) → P version → P (unwrap_or (version_of document) 0)
for_version document version is P holds = subst P (sym (ap (λ o. unwrap_or o 0) is)) holds

-- a rule of the root is the first that is broken, however many units there are
pub root_refused : (document : Members) (e : Stop BrokenRule) → RefusesFirst (root_rules document) e → RefusesFirst (rules_of document) e
root_refused document e refused = stopped_in 0 (themes_for (unwrap_or (units_of document) 0) document) e refused
