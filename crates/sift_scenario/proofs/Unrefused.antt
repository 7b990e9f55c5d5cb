-- A task that has an allowed tree isn't refused.
use Rattle.std.proofs.Common.{◌≡◌, ◌≢◌, ◌<◌, ◌≤◌, inl, inr, ℕ, List, length, get_or, take, Some, Err, refl, sym, ap, subst, ◌∙◌, arith}
use Rattle.sift_base.specs.declared.stop.Stop.TheVariants as stop
use Rattle.std.proofs.lemmas.List.{get_or-take, length-take-le}
use Rattle.std.proofs.lemmas.Option.{get_or_from_slice_get, slice_get-get_or, slice_get_read, slice_get_within}
use Rattle.std.specs.List.{slice_get}
use Rattle.sift_compile.specs.Length.{code_limit, task_length, task_steps}
use Rattle.sift_lang.specs.Tree.{TaskTree, end}
use Rattle.sift_parse.proofs.lemmas.OneAnswer.{task_is_answered}
use Rattle.sift_parse.specs.Outcome.{IsTaskOf, Tells}
use Rattle.sift_parse.specs.Roll.{Roll}
use Rattle.sift_parse.specs.declared.task.ParseStop.{ParseStop}
use Rattle.sift_parse.specs.declared.task.ParseStop.TheVariants as parse
use Rattle.sift_document.specs.Rules.{EachMatches}
use Rattle.sift_scenario.proofs.UniqueForms.{one_tree, same_entries}
use Rattle.sift_scenario.specs.Program.{AreAllowed, IsTreeOf, steps_left, turn_of}
use Rattle.sift_scenario.specs.Refusal.{IsFirstRefused, IsFormRefused, IsNoTask, IsOver, refusal_of}
use Rattle.sift_scenario.specs.Task.{Form}
use Rattle.sift_scenario.specs.declared.mission.Refused.{Refused}

-- a text that is a task isn't refused
task_unrefused : (roll : Roll) (bytes : List ℕ) (tree : TaskTree) (parsed : ParseStop) → parsed ≢ parse.NoMemory → IsTaskOf roll bytes tree → Tells roll bytes (Err parsed) → ⊥
task_unrefused roll bytes tree parsed some task told = task_is_answered roll bytes tree (Err parsed) (λ same. some (cc same)) task told

-- what stands at one place of forms is one form
pub one_entry : (forms : List Form) (t : ℕ) (a b : Form) → slice_get forms t ≡ Some a → slice_get forms t ≡ Some b → a ≡ b
one_entry forms t a b one other = let both : Some a ≡ Some b = sym one ∙ other in cc both

-- a text that is no task isn't so for want of memory
pub no_want : (roll : Roll) (task : ℕ) (form : Form) (e : Refused) (fault : IsNoTask roll task form e) → fault.parsed ≢ parse.NoMemory
no_want roll task form e fault want = let none : refusal_of task parse.NoMemory ≡ stop.Refused e = rw want at fault.refused_is in cc none

-- what may not be isn't refused for its text, where it has a tree
pub tree_unrefused : (roll : Roll) (task : ℕ) (form : Form) (tree : TaskTree) (e : Refused) → IsTreeOf roll form tree → IsNoTask roll task form e → ⊥
tree_unrefused roll task form tree e is fault =
    task_unrefused roll fault.bytes tree fault.parsed (no_want roll task form e fault) (subst (λ (f : Form). IsTreeOf roll f tree) fault.form_is is) fault.told

-- what is within the limits isn't over one
within_unrefused : (left task : ℕ) (tree : TaskTree) (e : Refused) → (task_length tree ≤ code_limit) × (task_steps tree ≤ left) → IsOver left task tree e → ⊥
within_unrefused left task tree e within (inl long) = omega (arith, long.0, within.0)
within_unrefused left task tree e within (inr slow) = omega (arith, slow.1, within.1)

-- a task that has an allowed tree isn't refused
form_unrefused :
    (roll : Roll) (left task : ℕ) (form : Form) (tree : TaskTree) (e : Refused)
    → IsTreeOf roll form tree → (task_length tree ≤ code_limit) × (task_steps tree ≤ left) → IsFormRefused roll left task form e → ⊥
form_unrefused roll left task form tree e is allowed (inl fault) = tree_unrefused roll task form tree e is fault
form_unrefused roll left task form tree e is allowed (inr over) =
    let same = one_tree roll form over.0 tree over.1 is in
    within_unrefused left task tree e allowed (subst (λ (t : TaskTree). IsOver left task t e) same over.2)

-- trees of the first tasks are the first of the trees
pub first_trees :
    (roll : Roll) (forms : List Form) (some all : List TaskTree)
    → EachMatches (λ t form tree. IsTreeOf (turn_of t roll) form tree) forms some
    → EachMatches (λ t form tree. IsTreeOf (turn_of t roll) form tree) forms all → length some ≤ length all → some ≡ take (length some) all
first_trees roll forms some all one other few = same_entries TaskTree some (take (length some) all) (sym (length-take-le (length some) all few)) (λ k a b there_a there_b.
    let low = slice_get_within some k a there_a in
    let here : slice_get all k ≡ Some b = slice_get_read all _ k b refl (omega (arith, low, few))
    (sym (sym (get_or-take (length some) all k b low) ∙ get_or_from_slice_get (take (length some) all) k b b there_b)) in
    let at_a = one k a there_a in
    let at_b = other k b here in
    one_tree (turn_of k roll) at_b.entry a b (subst (λ (f : Form). IsTreeOf (turn_of k roll) f a) (one_entry forms k _ _ at_a.there at_b.there) at_a.holds) at_b.holds)

-- where as many trees or more are allowed as stand before a refusal, it doesn't stand
pub unrefused_among :
    (roll : Roll) (forms : List Form) (e : Refused) (first : IsFirstRefused roll forms e) (all : List TaskTree)
    → EachMatches (λ t form tree. IsTreeOf (turn_of t roll) form tree) forms all → AreAllowed all → first.task < length all → ⊥
unrefused_among roll forms e first all each allowed low =
    let none : TaskTree = record { outputs = 0; body = end } in
    let tree = get_or all first.task none in
    let there = slice_get-get_or all first.task none low in
    let found = each first.task tree there in
    let before : first.trees ≡ take (length first.trees) all = first_trees roll forms first.trees all first.earlier each (omega (arith, low, first.as_many)) in
    let so : take first.task all ≡ first.trees = ap (λ (n : ℕ). take n all) (sym first.as_many) ∙ sym before in
    let may : (task_length tree ≤ code_limit) × (task_steps tree ≤ steps_left first.trees) =
    subst (λ (ts : List TaskTree). (task_length tree ≤ code_limit) × (task_steps tree ≤ steps_left ts)) so (allowed first.task tree there) in
    let form = one_entry forms first.task _ _ first.here.there found.there in
    form_unrefused (turn_of first.task roll) (steps_left first.trees) first.task found.entry tree e found.holds may
    (subst (λ (f : Form). IsFormRefused (turn_of first.task roll) (steps_left first.trees) first.task f e) form first.here.holds)
