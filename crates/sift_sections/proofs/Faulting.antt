-- The faults of a document: how they are read.
use Rattle.std.proofs.Common.{◌≡◌, ◌<◌, ℕ, List, length, get_or, map, Option, Some, None, IfNone, IfSome, Result, Ok, Err, Bool, true, false, refl, sym, ap, subst, ◌∙◌}
use Rattle.toml.specs.Data.{Data, Members, get_member}
use Rattle.std.proofs.lemmas.List.{length-map}
use Rattle.std.proofs.lemmas.Option.{slice_get-get_or, slice_get-map}
use Rattle.std.specs.List.{slice_get}
use Rattle.std.specs.Bool.{IsTrue}
use Rattle.std.specs.Option.{is_some}
use Rattle.std.specs.Prelude.{option_map, unwrap_or}
use Rattle.sift_base.specs.declared.stop.Stop.{Stop}
use Rattle.sift_script.specs.Script.{Change, Failing, Fault}
use Rattle.sift_document.specs.Document.{IsTableOf, tables_in}
use Rattle.sift_document.specs.Rules.{AreKept, BreaksEntries, IsKept, rule}
use Rattle.sift_document.specs.Testing.{RefusesFirst, Tests, TestsEach}
use Rattle.sift_document.specs.declared.entries.BrokenRule.{BrokenRule}
use Rattle.sift_document.specs.laws.Order.{later, stopped}
use Rattle.sift_document.specs.laws.Places.{map_map, taken}
use Rattle.sift_sections.specs.Fault.{StandsAlone, changes_of, fault_in, fault_limit, fault_rules, from_of, stated_storm, unit_of}
use Rattle.sift_sections.specs.Reading.{AreFaultsRead}
use Rattle.sift_sections.specs.declared.fault.Head.{Head}
use Rattle.sift_sections.specs.laws.Values.{read_values}
use Rattle.sift_sections.specs.laws.Named.{BreaksHeads, BreaksItems, BreaksStorms, BreaksWays, each_fault_rules, failing_from, fault_keys}

-- ---- the rules of the faults

-- the value is an array of tables, so the first broken rule of the faults in these tables is that of the value
pub faults_refused :
    (value : Data) (faults : List Members) → faults ≡ tables_in (Some value)
    → IsKept (rule 26 (BreaksEntries 0 fault_limit (λ place. IsTableOf fault_keys) (Some value)))
    → (e : Stop BrokenRule) → RefusesFirst (each_fault_rules faults) e → RefusesFirst (fault_rules (Some value)) e
faults_refused value faults same whole e refused =
    later _ (each_fault_rules (tables_in (Some value))) e whole (subst (λ (ts : List Members). RefusesFirst (each_fault_rules ts) e) same refused)

-- and what tests their rules tests those of the value
pub faults_tested :
    {A : Type 0} (value : Data) (faults : List Members) → faults ≡ tables_in (Some value)
    → IsKept (rule 26 (BreaksEntries 0 fault_limit (λ place. IsTableOf fault_keys) (Some value)))
    → (r : Result A (Stop BrokenRule)) → TestsEach (each_fault_rules faults) r → TestsEach (fault_rules (Some value)) r
faults_tested value faults same whole (Ok x) kept = (whole, subst (λ (ts : List Members). AreKept (each_fault_rules ts)) same kept)
faults_tested value faults same whole (Err e) refused = faults_refused value faults same whole e refused

-- where the other rules are kept, what tests the last of them tests all
pub storms_tested :
    {A : Type 0} (faults : List Members) → IsKept (rule 27 (BreaksHeads faults)) → IsKept (rule 28 (BreaksWays faults)) → IsKept (rule 29 (BreaksItems faults))
    → (r : Result A (Stop BrokenRule)) → Tests 30 (BreaksStorms faults) r → TestsEach (each_fault_rules faults) r
storms_tested faults headed ways said (Ok x) kept = (headed, (ways, (said, (kept, tt))))
storms_tested faults headed ways said (Err e) refused = stopped 3 (each_fault_rules faults) e (headed, (ways, (said, refused)))

-- ---- faults, one after another

-- what was read of the tables of the faults, their heads and what they say, is theirs
pub faults_read :
    {A B : Type 0} (shown : A → Members) (changes : B → List Change) (tables : List A) (heads : List Head) (said : List B)
    → map (λ head. Some head.unit) heads ≡ map (λ table. unit_of (shown table)) tables
    → map (λ head. Some head.from) heads ≡ map (λ table. from_of (shown table)) tables
    → map (λ items. Some (changes items)) said ≡ map (λ table. changes_of (shown table)) tables
    → AreFaultsRead (map shown tables) heads (map changes said)
faults_read shown changes tables heads said units from read = record {
  units = units ∙ read_values shown unit_of tables;
  from = from ∙ read_values shown from_of tables;
  changes = sym (map_map (λ (c : List Change). Some c) changes said) ∙ read ∙ read_values shown changes_of tables;
}

-- there are as many heads, and as many lists of changes, as faults
pub faults_long : (faults : List Members) (heads : List Head) (said : List (List Change)) → AreFaultsRead faults heads said → (length heads ≡ length faults) × (length said ≡ length faults)
faults_long faults heads said read = (
  sym (length-map heads (λ head. Some head.unit)) ∙ ap length read.units ∙ length-map faults unit_of,
  sym (length-map said (λ (c : List Change). Some c)) ∙ ap length read.changes ∙ length-map faults changes_of,
)

-- where two lists are read as the same, so are their entries at a place
read_there :
    {A B C : Type 0} (f : A → C) (g : B → C) (xs : List A) (ys : List B) (i : ℕ) (x : A) (y : B)
    → map f xs ≡ map g ys → slice_get xs i ≡ Some x → slice_get ys i ≡ Some y → f x ≡ g y
read_there f g xs ys i x y same there there' =
    let both : Some (f x) ≡ Some (g y) =
    sym (slice_get-map f xs i ∙ ap (option_map f) there) ∙ ap (λ zs. slice_get zs i) same ∙ slice_get-map g ys i ∙ ap (option_map g) there' in
    cc both

-- ---- one fault

-- the plan that is made of a fault that has these changes is the one that it states
plan_stated :
    (storm : Option (Option Failing)) (changes : List Change) (plan : Failing)
    → Some plan ≡ option_map (λ o. failing_from o changes) storm → failing_from (unwrap_or storm None) changes ≡ plan
plan_stated None changes plan is = cc
plan_stated (Some storm) changes plan is = cc is

-- and its `storm` states a storm, where it has one
pub planned_storm : {A : Type 0} (storm : Option (Option Failing)) (f : Option Failing → A) (plan : A) → Some plan ≡ option_map f storm → storm ≡ None → ⊥
planned_storm None f plan is none = cc
planned_storm (Some storm) f plan is none = cc

-- where there is no plan it states none
pub unplanned_storm : {A : Type 0} (storm : Option (Option Failing)) (f : Option Failing → A) → None ≡ option_map f storm → storm ≡ None
unplanned_storm None f is = refl
unplanned_storm (Some storm) f is = cc

-- the fault at a place is that of its head and its plan
fault_made :
    (faults : List Members) (heads : List Head) (said : List (List Change)) (i : ℕ) (fault : Members) (head : Head) (changes : List Change) (plan : Failing)
    → AreFaultsRead faults heads said → slice_get faults i ≡ Some fault → slice_get heads i ≡ Some head → slice_get said i ≡ Some changes
    → Some plan ≡ option_map (λ storm. failing_from storm changes) (stated_storm fault)
    → (let made : Fault = record { unit = head.unit; from = head.from; plan = plan } in made) ≡ fault_in fault
fault_made faults heads said i fault head changes plan read there head_there said_there planned =
    let unit = read_there (λ (h : Head). Some h.unit) unit_of heads faults i head fault read.units head_there there in
    let from = read_there (λ (h : Head). Some h.from) from_of heads faults i head fault read.from head_there there in
    let changed = read_there (λ (c : List Change). Some c) changes_of said faults i changes fault read.changes said_there there in
    rw (← unit, ← from, ← changed, plan_stated (stated_storm fault) changes plan planned) refl

-- what stands past the last head
abbrev pub no_head : Head
no_head = record { unit = 0; from = 0 }

module _
    {A C : Type 0} (shown : A → Members) (changes : C → List Change) (tables : List A) (heads : List Head) (said : List C)
    (read : AreFaultsRead (map shown tables) heads (map changes said)) where
  -- there are as many heads, and as many tables, as lists of changes
  pub as_many : (length heads ≡ length said) × (length tables ≡ length said)
  as_many =
      let long = faults_long (map shown tables) heads (map changes said) read in
      let changed = sym long.1 ∙ length-map said changes in (
        long.0 ∙ changed,
        sym (length-map tables shown) ∙ changed,
      )

  -- so the fault of a head and a plan is the one that the table at their place states
  pub fault_taken :
      (i : ℕ) (table : A) (items : C) (plan : Failing) → i < length said → table ≡ get_or tables i table → items ≡ get_or said i items
      → Some plan ≡ option_map (λ storm. failing_from storm (changes items)) (stated_storm (shown table))
      → (let made : Fault = record { unit = (get_or heads i no_head).unit; from = (get_or heads i no_head).from; plan = plan } in made) ≡ fault_in (shown table)
  fault_taken i table items plan low table_is items_is planned =
      fault_made (map shown tables) heads (map changes said) i (shown table) (get_or heads i no_head) (changes items) plan read
      (taken shown tables i table (rw as_many.1 low) table_is) (slice_get-get_or heads i no_head (rw as_many.0 low)) (taken changes said i items low items_is) planned

-- ---- what was found, or not

-- what holds where something was found, and it was
pub if_found : {A : Type 0} (P : Type 0) (o : Option A) → is_some o ≡ true → IfSome o (λ _. P) → P
if_found P (Some x) found holds = holds
if_found P None found holds = cc found

-- what holds where nothing was, and nothing was
pub if_missing : {A : Type 0} (P : Type 0) (o : Option A) → is_some o ≡ false → IfNone o P → P
if_missing P (Some x) missing holds = cc missing
if_missing P None missing holds = holds

-- what holds just where something was found, and the test of that
pub found_where :
    {A : Type 0} (P : Type 0) (o : Option A) (test : Bool) → test ≡ is_some o → IfSome o (λ _. P) → IfNone o (P → ⊥)
    → (IsTrue test → P) × (P → IsTrue test)
found_where P (Some x) test is found none = (λ yes. found, λ holds. is)
found_where P None test is found none = (λ yes. let wrong : false ≡ true = sym is ∙ yes in cc wrong, λ holds. absurd (none holds))

-- ---- how a fault fails

-- a value at a key, and none at another
module _ (key other : List ℕ) (IsRight : Data → Type 0) (fault : Members) (value : Data) where
  pub alone_where :
      Some value ≡ get_member key fault → None ≡ get_member other fault
      → (IsRight value → StandsAlone key other IsRight fault) × (StandsAlone key other IsRight fault → IsRight value)
  alone_where there none = (
    λ right. record { value = value; there = sym there; right = right; alone = sym none },
    λ alone.
        let both : Some alone.value ≡ Some value = sym (there ∙ alone.there) in
        let same : alone.value ≡ value = cc both in subst IsRight same alone.right,
  )

-- where nothing stands at a key, nothing stands there alone
pub not_alone : (key other : List ℕ) (IsRight : Data → Type 0) (fault : Members) → None ≡ get_member key fault → StandsAlone key other IsRight fault → ⊥
not_alone key other IsRight fault none alone = let wrong : Some alone.value ≡ None = sym alone.there ∙ sym none in cc wrong
