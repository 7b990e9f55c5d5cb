-- What the rules of the entries of `lie` ask. No public clause cites this module.
use Rattle.std.specs.Prelude.{◌≤◌, ℕ, List, ⊤}
use Rattle.toml.specs.Data.{Data}
use Rattle.sift_document.specs.Document.{IsTableOf}
use Rattle.sift_document.specs.Rules.{HoldsOf}
use Rattle.sift_byz.specs.declared.lies.EntryRule.{EntryRule}
use Rattle.sift_byz.specs.declared.lies.EntryRule.TheVariants.{Keys, Path, Receivers}
use Rattle.sift_byz.specs.Plan.{most_traitors, most_units}
use Rattle.sift_byz.specs.Stated.{HasPath, HasReceivers, lie_keys}

-- what a rule asks of each entry of `lie`
abbrev pub Keeps : EntryRule → Data → Type 0
Keeps Keys lie = IsTableOf lie_keys lie
Keeps (Path units m) lie = HasPath units m lie
Keeps (Receivers units m) lie = HasReceivers units m lie

-- the number of that rule
abbrev pub number_of : EntryRule → ℕ
number_of Keys = 5
number_of (Path units m) = 6
number_of (Receivers units m) = 7

-- there may be so many units, and so many traitors among them
pub record MayBe (units m : ℕ) : Type 0 where
  pub few_units : units ≤ most_units
  pub few_traitors : m ≤ most_traitors

-- the numbers that it speaks of are within their limits
abbrev pub IsLimited : EntryRule → Type 0
IsLimited Keys = ⊤
IsLimited (Path units m) = m ≤ most_traitors
IsLimited (Receivers units m) = MayBe units m

-- an entry doesn't keep the rule
abbrev pub BreaksEntry : EntryRule → List Data → ℕ → Type 0
BreaksEntry rule lies place = HoldsOf lies place (λ lie. ¬ Keeps rule lie)
