-- Which slots and words an item speaks of.
use Rattle.std.proofs.Common.{◌≡◌, ℕ, zero, suc, ◌+◌, sum, List, [], ◌∷◌, map, take, true, eqb-true, eq-eqb, ap, sym, ◌∙◌, refl, subst}
use Rattle.std.proofs.lemmas.Bool.{false≢true}
use Rattle.std.proofs.lemmas.List.Sums.{sum_by-cons}
use Rattle.sift_base.specs.Shapes.{Shape, words_in}
use Rattle.sift_base.specs.declared.slots.Slot.{Slot}
use Rattle.sift_base.specs.declared.slots.Slot.TheVariants.{Clock, Sense, RelaySense, Out, Report, RelayReport}
use Rattle.sift_script.specs.Faults.{is_same_slot}
use Rattle.sift_script.specs.Laws.{SlotsAreComparedWhole, WordsAreNumberedAlike}

-- slots that are the same are one
one_slot : (one other : Slot) → is_same_slot one other ≡ true → one ≡ other
one_slot Clock Clock same = refl
one_slot (Sense x) (Sense y) same = ap Sense (eqb-true x y same)
one_slot (RelaySense x) (RelaySense y) same = ap RelaySense (eqb-true x y same)
one_slot (Out v) (Out w) same = ap Out (eqb-true v w same)
one_slot Report Report same = refl
one_slot (RelayReport u) (RelayReport v) same = ap RelayReport (eqb-true u v same)
one_slot _ _ same = absurd (false≢true same)

-- a slot is the same as itself
itself : (slot : Slot) → is_same_slot slot slot ≡ true
itself Clock = refl
itself (Sense x) = eq-eqb x x refl
itself (RelaySense x) = eq-eqb x x refl
itself (Out w) = eq-eqb w w refl
itself Report = refl
itself (RelayReport u) = eq-eqb u u refl

-- the test of two slots tells that they are the same exactly where they are one slot
pub slots_are_compared_whole : SlotsAreComparedWhole
slots_are_compared_whole one other = (one_slot one other, λ is. subst (λ (slot : Slot). is_same_slot one slot ≡ true) is (itself one))

-- the words of the first tasks, so many, counted from their numbers
words_counted : (tasks : List Shape) (t : ℕ) → sum (take t (map (λ task. task.outputs) tasks)) ≡ words_in (take t tasks)
words_counted [] zero = refl
words_counted [] (suc t) = refl
words_counted (task ∷ tasks) zero = refl
words_counted (task ∷ tasks) (suc t) =
    sum_by-cons (λ n. n) task.outputs (take t (map (λ s. s.outputs) tasks)) ∙ ap (λ n. task.outputs + n) (words_counted tasks t)
    ∙ sym (sum_by-cons (λ s. s.outputs) task (take t tasks))

-- an item counts the words of the tasks before its own as a mission does
pub words_are_numbered_alike : WordsAreNumberedAlike
words_are_numbered_alike shapes t = words_counted shapes.tasks t
