-- A task has one form, and one tree or one refusal.
use Rattle.std.proofs.Common.{◌≡◌, ◌≢◌, ℕ, suc, List, [], ◌∷◌, length, Option, Some, None, refl, sym, ap, subst, ◌∙◌, arith}
use Rattle.std.specs.List.{slice_get}
use Rattle.std.specs.Prelude.{codes, option_and_then}
use Rattle.toml.specs.Data.{Data, Members, as_str, get_member}
use Rattle.sift_lang.specs.Tree.{TaskTree}
use Rattle.sift_parse.proofs.lemmas.OneAnswer.{one_task}
use Rattle.sift_parse.specs.Roll.{Roll}
use Rattle.sift_document.specs.Document.{read_at}
use Rattle.sift_scenario.specs.Program.{IsTreeOf, turn_of}
use Rattle.sift_scenario.proofs.Named.{AreTreesOf}
use Rattle.sift_scenario.specs.Task.{AreForms, Form, linear, text, HasForm}

-- where no value is, nothing is read
absent : (A : Type 0) (read : Data → Option A) (key : List ℕ) (task : Members) (x : A) → get_member key task ≡ None → read_at read key task ≢ Some x
absent A read key task x none is =
    let nothing : read_at read key task ≡ None = ap (option_and_then read) none in
    let wrong : Some x ≡ None = sym is ∙ nothing in
    cc wrong

-- a task has one form
pub one_form : (task : Members) (a b : Form) → HasForm task a → HasForm task b → a ≡ b
one_form task (linear f a) (linear g b) one other =
    let same : Some (f ∷ a ∷ []) ≡ Some (g ∷ b ∷ []) = sym one.0 ∙ other.0 in
    cc same
one_form task (text s) (text t) one other =
    let same : Some s ≡ Some t = sym one.0 ∙ other.0 in
    cc same
one_form task (linear f a) (text t) one other = absurd (absent (List ℕ) as_str (codes "text") task t one.2 other.0)
one_form task (text s) (linear g b) one other = absurd (absent (List ℕ) as_str (codes "text") task s other.2 one.0)

-- lists of one length are the same where each entry of the one is that of the other
pub same_entries : (A : Type 0) (xs ys : List A) → length xs ≡ length ys → ((k : ℕ) (x y : A) → slice_get xs k ≡ Some x → slice_get ys k ≡ Some y → x ≡ y) → xs ≡ ys
same_entries A [] [] long each = refl
same_entries A [] (y ∷ ys) long each = absurd (omega (arith, long))
same_entries A (x ∷ xs) [] long each = absurd (omega (arith, long))
same_entries A (x ∷ xs) (y ∷ ys) long each =
    let first : x ≡ y = each 0 x y refl refl in
    let rest = same_entries A xs ys (omega (arith, long)) (λ k u v. each (suc k) u v) in
    rw (first, rest) refl

-- tasks have one list of forms
pub one_forms : (tasks : List Members) (us vs : List Form) → AreForms tasks us → AreForms tasks vs → us ≡ vs
one_forms tasks us vs one other = same_entries Form us vs (one.as_many ∙ sym other.as_many) (λ k a b there_a there_b.
    let at_a = one.each k a there_a in
    let at_b = other.each k b there_b in
    let both : Some at_a.entry ≡ Some at_b.entry = sym at_a.there ∙ at_b.there in
    let same : at_a.entry ≡ at_b.entry = cc both in
    one_form at_b.entry a b (subst (λ (t : Members). HasForm t a) same at_a.holds) at_b.holds)

-- a form has one tree in a task's turn
pub one_tree : (roll : Roll) (form : Form) (a b : TaskTree) → IsTreeOf roll form a → IsTreeOf roll form b → a ≡ b
one_tree roll (linear f g) a b one other = one ∙ sym other
one_tree roll (text bytes) a b one other = one_task roll bytes a b one other

-- forms have one list of trees
pub one_trees : (roll : Roll) (forms : List Form) (us vs : List TaskTree) → AreTreesOf roll forms us → AreTreesOf roll forms vs → us ≡ vs
one_trees roll forms us vs one other = same_entries TaskTree us vs (one.as_many ∙ sym other.as_many) (λ k a b there_a there_b.
    let at_a = one.each k a there_a in
    let at_b = other.each k b there_b in
    let both : Some at_a.entry ≡ Some at_b.entry = sym at_a.there ∙ at_b.there in
    let same : at_a.entry ≡ at_b.entry = cc both in
    one_tree (turn_of k roll) at_b.entry a b (subst (λ (f : Form). IsTreeOf (turn_of k roll) f a) same at_a.holds) at_b.holds)
