-- The nine rules of a document, in the order in which they are tested, and the plan that a document states.
use Rattle.std.specs.Prelude.{ℕ, ◌≡◌, ◌+◌, ◌<◌, List, [], ◌∷◌, length, map, take, Option, None, Some, unwrap_or}
use Rattle.toml.specs.Data.{Data, Members}
use Rattle.sift_document.specs.Document.{HasOnlyKeys, IsTableOf}
use Rattle.sift_document.specs.Rules.{HoldsOf, AreKept, BreaksEntries, BreaksFirst, OfNoEntry, Rule, rule}
use Rattle.sift_document.specs.declared.entries.BrokenRule.{BrokenRule}
use Rattle.sift_byz.specs.Plan.{IsInRange, LieData, ByzPlanData, TraitorsAreFew, teller_count}
use Rattle.sift_byz.specs.Stated.{HasPath, HasReceivers, HasWord, lie_in, lie_keys, lie_limit, lie_value, lies_of, m_of, root_keys, units_of, values_of}

-- ---- the rules

-- 5: `lie` is there, and is no array of at most 6,000 entries; or an entry is no table, or has an unknown key
abbrev pub BreaksLies : Option Data → ℕ → Type 0
BreaksLies value place = BreaksEntries 0 lie_limit (λ at. IsTableOf lie_keys) value place

-- 9: up to the entry, more than m units stand last in a path
pub record BreaksFew (units m : ℕ) (lies : List LieData) (place : ℕ) : Type 0 where
  pub there : place < length lies
  pub many : m < teller_count units (take (place + 1) lies)

-- the rules where m of so many units may lie
abbrev pub rules_for : (units m : ℕ) → Members → List Rule
rules_for units m document =
    -- a key of the root is unknown
    rule 1 (OfNoEntry (¬ HasOnlyKeys root_keys document))
    -- `m` is missing, or is no integer from 0 to 2
    ∷ rule 2 (OfNoEntry (m_of document ≡ None))
    -- `units` is missing, or is no integer from 3m + 1 to 10
    ∷ rule 3 (OfNoEntry (units_of m document ≡ None))
    -- `values` is missing, or is no array of as many word values as units
    ∷ rule 4 (OfNoEntry (values_of units document ≡ None))
    ∷ rule 5 (BreaksLies (lie_value document))
    -- `path` of an entry is missing, or is no string of 1 to m + 1 different digits below `units`
    ∷ rule 6 (λ place. HoldsOf (lies_of document) place (λ lie. ¬ HasPath units m lie))
    -- with its path, `to` of an entry is missing, or is no string of some ascending digits below `units`, none of them in the path
    ∷ rule 7 (λ place. HoldsOf (lies_of document) place (λ lie. ¬ HasReceivers units m lie))
    -- `value` of an entry is there, and is no word value
    ∷ rule 8 (λ place. HoldsOf (lies_of document) place (λ lie. ¬ HasWord lie))
    ∷ rule 9 (BreaksFew units m (map lie_in (lies_of document)))
    ∷ []

-- the rules of a document, where a number that isn't stated is read as 0
abbrev pub rules_of : Members → List Rule
rules_of document = let m = unwrap_or (m_of document) 0 in rules_for (unwrap_or (units_of m document) 0) m document

-- ---- what a document is answered with

-- the document keeps all rules, and states this plan
pub record IsByzPlanOf (document : Members) (plan : ByzPlanData) : Type 0 where
  pub lawful : AreKept (rules_of document)
  pub m : m_of document ≡ Some plan.m
  pub units : units_of plan.m document ≡ Some plan.units
  pub values : values_of plan.units document ≡ Some plan.values
  pub lies : plan.lies ≡ map lie_in (lies_of document)

-- the document breaks this rule first, and this is the first place at which it does
abbrev pub IsRefusedWith : Members → BrokenRule → Type 0
IsRefusedWith document broken = BreaksFirst (rules_of document) broken.number broken.place

-- ---- laws

-- a document states at most one plan
abbrev pub OneByzPlan : Type 0
OneByzPlan = (document : Members) (one other : ByzPlanData) → IsByzPlanOf document one → IsByzPlanOf document other → one ≡ other

-- a document that states a plan isn't refused
abbrev pub ByzPlansAreAccepted : Type 0
ByzPlansAreAccepted = (document : Members) (plan : ByzPlanData) (broken : BrokenRule) → IsByzPlanOf document plan → ¬ IsRefusedWith document broken

-- a document is refused in one way
abbrev pub OneRefusal : Type 0
OneRefusal = (document : Members) (one other : BrokenRule) → IsRefusedWith document one → IsRefusedWith document other → one ≡ other

-- a plan that a document states is within the limits, and its traitors are few
abbrev pub StatedByzPlansAreLawful : Type 0
StatedByzPlansAreLawful = (document : Members) (plan : ByzPlanData) → IsByzPlanOf document plan → IsInRange plan × TraitorsAreFew plan
