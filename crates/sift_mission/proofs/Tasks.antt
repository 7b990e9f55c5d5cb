-- Which words belong to which task.
use Rattle.std.proofs.Common.{◌≡◌, ℕ, zero, suc, ◌+◌, ◌-◌, ◌<◌, ◌≤◌, List, [], ◌∷◌, length, take, get_or, Bool, true, inl, inr, refl, sym, ap, ◌∙◌, arith, nat_eq}
use Rattle.std.specs.List.{Contains, filter, list_any}
use Rattle.std.proofs.lemmas.Bool.{cases_Bool, cases_lt, eqb-true, lt-ltb, le-ltb, or_left, or_right}
use Rattle.sift_base.specs.Shapes.{Shape, words_in}
use Rattle.sift_base.specs.Units.{has}
use Rattle.sift_base.specs.laws.Shapes.{words_in-cons}
use Rattle.sift_table.specs.Timing.{task_of}

-- ---- words of tasks

-- a word below those of a task is one of an earlier task
pub among-before : (tasks : List Shape) (t w : ℕ) → w < words_in (take t tasks) → task_of tasks w < t
among-before tasks zero w low = absurd (omega arith)
among-before [] (suc t) w low = absurd (omega arith)
among-before (task ∷ tasks) (suc t) w low = elim (cases_lt w task.outputs) [
  | inl own ↦ rw (lt-ltb w task.outputs own) (omega arith)
  | inr past ↦ rw (le-ltb w task.outputs past)
      (omega (arith, among-before tasks t (w - task.outputs) (omega (arith, words_in-cons task (take t tasks)))))
]

-- each word is one of a task that is there
pub among-below : (tasks : List Shape) (w : ℕ) → w < words_in tasks → task_of tasks w < length tasks
among-below [] w low = absurd (omega arith)
among-below (task ∷ tasks) w low = elim (cases_lt w task.outputs) [
  | inl own ↦ rw (lt-ltb w task.outputs own) (omega arith)
  | inr past ↦ rw (le-ltb w task.outputs past) (omega (arith, among-below tasks (w - task.outputs) (omega (arith, words_in-cons task tasks))))
]

-- a word is one of its task's
pub among-own : (d : Shape) (tasks : List Shape) (w : ℕ) → w < words_in tasks
    → (words_in (take (task_of tasks w) tasks) ≤ w) × (w < words_in (take (task_of tasks w) tasks) + (get_or tasks (task_of tasks w) d).outputs)
among-own d [] w low = absurd (omega arith)
among-own d (task ∷ tasks) w low = elim (cases_lt w task.outputs) [
  | inl own ↦ rw (lt-ltb w task.outputs own) (omega arith, omega arith)
  | inr past ↦
      let rest = among-own d tasks (w - task.outputs) (omega (arith, words_in-cons task tasks)) in
      let more = words_in-cons task (take (task_of tasks (w - task.outputs)) tasks) in
      rw (le-ltb w task.outputs past) (omega (arith, rest.0, more), omega (arith, rest.1, more))
]

-- a word of an earlier task is an earlier word
pub among-earlier : (tasks : List Shape) (v w : ℕ) → task_of tasks v < task_of tasks w → v < w
among-earlier tasks v w less = elim (cases_lt v w) [ inl low ↦ low | inr high ↦ absurd (omega (arith, in_order tasks w v high)) ]
  where
    in_order : (shapes : List Shape) (x y : ℕ) → x ≤ y → task_of shapes x ≤ task_of shapes y
    in_order [] x y low = omega arith
    in_order (task ∷ rest) x y low = elim (cases_lt x task.outputs) [
      | inl own ↦ rw (lt-ltb x task.outputs own) (omega arith)
      | inr past ↦ rw (le-ltb x task.outputs past, le-ltb y task.outputs (omega arith)) (omega (arith, in_order rest (x - task.outputs) (y - task.outputs) (omega arith)))
    ]

-- ---- lists of tasks

-- a number that is left by a test is one of the list, and passes
pub has-filter : (test : ℕ → Bool) (xs : List ℕ) (x : ℕ) → has (filter test xs) x ≡ true → (has xs x ≡ true) × (test x ≡ true)
has-filter test [] x there = absurd cc
has-filter test (y ∷ xs) x there = elim (cases_Bool (test y)) [
  | inl passes ↦ elim (cases_Bool (nat_eq y x)) [
    | inl same ↦ (rw same refl, ap test (sym (eqb-true y x same)) ∙ passes)
    | inr other ↦ let rest = has-filter test xs x (rw (passes, other) at there) in (rw other rest.0, rest.1)
  ]
  | inr fails ↦ let rest = has-filter test xs x (rw fails at there) in (or_right (nat_eq y x) (has xs x) rest.0, rest.1)
]

-- some number of a list passes a test that one of its numbers passes
pub any-has : (test : ℕ → Bool) (xs : List ℕ) (x : ℕ) → has xs x ≡ true → test x ≡ true → list_any test xs ≡ true
any-has test [] x there passes = absurd cc
any-has test (y ∷ xs) x there passes = elim (cases_Bool (nat_eq y x)) [
  | inl same ↦ or_left (test y) (list_any test xs) (ap test (eqb-true y x same) ∙ passes)
  | inr other ↦ or_right (test y) (list_any test xs) (any-has test xs x (rw other at there) passes)
]

-- a number that a list has stands at a place of it
pub contains-has : (xs : List ℕ) (x : ℕ) → has xs x ≡ true → Contains xs x
contains-has [] x there = absurd cc
contains-has (y ∷ xs) x there = elim (cases_Bool (nat_eq y x)) [
  | inl same ↦ (0, omega arith, eqb-true y x same)
  | inr other ↦ let rest = contains-has xs x (rw other at there) in (suc rest.0, omega (arith, rest.1), rest.2)
]
