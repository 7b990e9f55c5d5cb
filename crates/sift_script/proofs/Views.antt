-- What the entries and items of the code stand for, entry by entry.
use Rattle.std.proofs.Common.{◌≡◌, ℕ, zero, suc, List, [], ◌∷◌, map, take, length, get_or, ◌+◌, ◌<◌, ◌++◌, ap, sym, ◌∙◌, refl, not, Bool, true, false, IsTrue, arith, below_more, subst}
use Rattle.std.proofs.lemmas.List.{get_or-map, length-map, take_more}
use Rattle.std.proofs.lemmas.Bool.{false≢true}
use Rattle.sift_base.specs.Shapes.{Shape, shape_of}
use Rattle.sift_base.specs.declared.slots.TaskShape.{TaskShape}
use Rattle.std.specs.List.{All}
use Rattle.sift_script.specs.Faults.{changes_in}
use Rattle.sift_script.specs.Rules.{fault_at, units_named}
use Rattle.sift_script.specs.Script.{Change, Fault, FaultScript, changing, change_of, fault_of}
use Rattle.sift_script.specs.declared.script.Entry.{Entry}
use Rattle.sift_script.specs.declared.script.Item.{Item}

-- the fault that stands past the end of a list
abbrev pub no_fault : Fault
no_fault = record { unit = 0; from = 0; plan = changing [] }

-- the units that entries name
pub units_named-entries : (entries : List Entry) (count : ℕ) → units_named (map fault_of entries) count ≡ map (λ entry. entry.unit) (take count entries)
units_named-entries [] zero = refl
units_named-entries [] (suc count) = refl
units_named-entries (entry ∷ entries) zero = refl
units_named-entries (entry ∷ entries) (suc count) = ap (λ units. entry.unit ∷ units) (units_named-entries entries count)

-- the fault of an entry
pub fault_of-at : (entries : List Entry) (at : ℕ) (entry : Entry) (d : Fault) → at < length entries → entry ≡ get_or entries at entry → get_or (map fault_of entries) at d ≡ fault_of entry
fault_of-at entries at entry d low is = get_or-map fault_of entries at entry d low ∙ ap fault_of (sym is)

-- the change of an item
pub change_at : (items : List Item) (i : ℕ) (item : Item) (d : Change) → i < length items → item ≡ get_or items i item → get_or (map change_of items) i d ≡ change_of item
change_at items i item d low is = get_or-map change_of items i item d low ∙ ap change_of (sym is)

module _ (P : Change → Type 0) (items : List Item) (i : ℕ) (item : Item) (low : i < length items) (is : item ≡ get_or items i item) where
  -- what holds of all changes before an item's and of that one
  pub change_more : ((k : ℕ) (d : Change) → k < i → P (get_or (map change_of items) k d)) → P (change_of item)
      → (k : ℕ) (d : Change) → k < i + 1 → P (get_or (map change_of items) k d)
  change_more before here k d less = below_more (λ j. P (get_or (map change_of items) j d)) i (λ j lower. before j d lower) (rw (change_at items i item d low is) here) k less

  -- what doesn't hold of one item's change doesn't hold of all
  pub not_each : ¬ P (change_of item) → ¬ All P (map change_of items)
  not_each other all = other (subst P (change_at items i item (change_of item) low is) (all i (change_of item) (rw length-map low)))

-- one number of output words more
pub outputs_more : (tasks : List TaskShape) (i : ℕ) (task : TaskShape) → i < length tasks → task ≡ get_or tasks i task
    → take (i + 1) (map (λ shape. shape.outputs) (map shape_of tasks)) ≡ take i (map (λ shape. shape.outputs) (map shape_of tasks)) ++ task.outputs ∷ []
outputs_more tasks i task low is =
    let shapes = map shape_of tasks in
    let inside : i < length shapes = omega (arith, length-map tasks shape_of) in
    let shape : get_or shapes i (shape_of task) ≡ shape_of task = get_or-map shape_of tasks i task (shape_of task) low ∙ ap shape_of (sym is) in
    let outputs = get_or-map (λ (s : Shape). s.outputs) shapes i (shape_of task) task.outputs inside ∙ ap (λ s. s.outputs) shape in
    take_more (map (λ (s : Shape). s.outputs) shapes) i task.outputs (omega (arith, inside, length-map shapes (λ (s : Shape). s.outputs)))
    ∙ ap (λ n. take i (map (λ (s : Shape). s.outputs) shapes) ++ n ∷ []) outputs

-- a test and the fact that it isn't met
pub not_iff : (test answer : Bool) → test ≡ answer → (IsTrue (not answer) → test ≡ false) × (test ≡ false → IsTrue (not answer))
not_iff test true is = (λ e. absurd (false≢true e), λ e. absurd (false≢true (sym e ∙ is)))
not_iff test false is = (λ _. is, λ _. refl)

-- a test of the changes of a fault that is known, for an entry's
pub each_change : (Q : Fault → Change → Type 0) (script : FaultScript) (at : ℕ) (fault : Fault) (changes : List Change) (r : Bool)
    → fault_at script at ≡ fault → changes ≡ changes_in fault.plan → (IsTrue r → All (Q fault) changes) × (All (Q fault) changes → IsTrue r)
    → (IsTrue r → All (Q (fault_at script at)) (changes_in (fault_at script at).plan)) × (All (Q (fault_at script at)) (changes_in (fault_at script at).plan) → IsTrue r)
each_change Q script at fault changes r same these answer =
    let Answers : Fault → List Change → Type 0 = λ f cs. (IsTrue r → All (Q f) cs) × (All (Q f) cs → IsTrue r) in
    let known : Answers fault (changes_in fault.plan) = subst (Answers fault) these answer in
    subst (λ (f : Fault). Answers f (changes_in f.plan)) (sym same) known
