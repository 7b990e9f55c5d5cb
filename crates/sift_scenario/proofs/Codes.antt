-- Trees and codes of tasks, one after another.
use Rattle.std.proofs.Common.{◌≡◌, ◌<◌, ◌≤◌, ◌-◌, inl, inr, ℕ, List, [], ◌∷◌, ◌++◌, length, take, sym, ap, subst, arith, length-append}
use Rattle.std.proofs.lemmas.List.{take-append-le, take_at}
use Rattle.std.proofs.lemmas.List.Sums.{sum_by-append, sum_by-cons, sum_by_more_le}
use Rattle.std.proofs.Math.Nat.{min-eq_left}
use Rattle.std.proofs.lemmas.Option.{slice_get_within}
use Rattle.std.specs.List.{sum}
use Rattle.sift_code.specs.Bound.{kept}
use Rattle.sift_code.specs.Refusal.{Program}
use Rattle.sift_lang.specs.Sound.{IsSound}
use Rattle.sift_lang.specs.Tree.{TaskTree}
use Rattle.sift_document.specs.laws.Places.{pushed}
use Rattle.sift_compile.specs.Length.{code_limit, task_length, task_steps}
use Rattle.sift_compile.specs.Tasks.{AreCodesOf, IsCodeOf}
use Rattle.sift_parse.specs.Outcome.{AreNames}
use Rattle.sift_parse.specs.Roll.{first_word, Roll}
use Rattle.sift_parse.proofs.lemmas.Sound.{has_size, task_is_sound}
use Rattle.sift_scenario.specs.Program.{AreAllowed, IsTreeOf, steps_left}
use Rattle.sift_scenario.specs.Task.{Form, linear, text}
use Rattle.sift_scenario.proofs.Programs.{sound_tree}

-- a tree of a form is sound
pub sound_form : (r : Roll) (form : Form) (tree : TaskTree) → AreNames r → r.this < length r.sizes → IsTreeOf r form tree → IsSound (length r.sensors) (sum r.sizes) tree
sound_form r (linear factor addend) tree names here is =
    let some = names.some_words r.this 0 here in
    let room = sum_by_more_le (λ n. n) r.sizes r.this 0 here in
    rw is (sound_tree (length r.sensors) (first_word r r.this) (sum r.sizes) factor addend (omega (arith, some, room)))
sound_form r (text bytes) tree names here is = (task_is_sound r bytes tree (has_size r names here) is).sound

-- the trees before a place, where there is one more at the end
take_before : (ts : List TaskTree) (t : TaskTree) (k : ℕ) → k ≤ length ts → take k (ts ++ t ∷ []) ≡ take k ts
take_before ts t k low = take-append-le k ts (t ∷ []) low

-- one tree more is allowed
pub allowed_more : (ts : List TaskTree) (t : TaskTree) → AreAllowed ts → (task_length t ≤ code_limit) × (task_steps t ≤ steps_left ts) → AreAllowed (ts ++ t ∷ [])
allowed_more ts t each more k tree there = elim (pushed ts t k tree there) [
  | inl before ↦
      rw (take_before ts t k (let low = slice_get_within ts k tree before in omega (arith, low))) (each k tree before)
  | inr at_end ↦
      let whole : take k (ts ++ t ∷ []) ≡ ts = take_at ts (t ∷ []) k (sym at_end.0) in
      rw whole (subst (λ (u : TaskTree). (task_length u ≤ code_limit) × (task_steps u ≤ steps_left ts)) at_end.1 more)
]

-- the steps that are left after one tree more
pub left_more :
    (ts : List TaskTree) (t : TaskTree) (left bound steps : ℕ)
    → left ≡ steps_left ts → bound ≡ kept steps → steps ≡ task_steps t → task_steps t ≤ left
    → left - bound ≡ steps_left (ts ++ t ∷ [])
left_more ts t left bound steps so is same quick =
    let whole = sum_by-append task_steps ts (t ∷ []) in
    let last = sum_by-cons task_steps t [] in
    let whole_steps : kept (task_steps t) ≡ task_steps t = min-eq_left (omega (arith, quick, so)) in
    omega (arith, so, is, ap kept same, whole_steps, whole, last, quick)

-- the codes with one more
pub codes_more :
    (sensors words : ℕ) (ts : List TaskTree) (t : TaskTree) (old new : List Program) (code : Program)
    → AreCodesOf sensors words ts old → new ≡ old ++ code ∷ [] → IsCodeOf sensors words t code → AreCodesOf sensors words (ts ++ t ∷ []) new
codes_more sensors words ts t old new code so added is = rw added (record {
  as_many = omega (arith, so.as_many, length-append old (code ∷ []), length-append ts (t ∷ []));
  each = λ k tree p there stands. elim (pushed ts t k tree there) [
    | inl before ↦ elim (pushed old code k p stands) [
      | inl early ↦ so.each k tree p before early
      | inr late ↦ let low = slice_get_within ts k tree before in absurd (omega (arith, low, late.0, so.as_many))
    ]
    | inr at_end ↦ elim (pushed old code k p stands) [
      | inl early ↦ let low = slice_get_within old k p early in absurd (omega (arith, low, at_end.0, so.as_many))
      | inr late ↦
          subst (λ (c : Program). IsCodeOf sensors words tree c) late.1 (subst (λ (u : TaskTree). IsCodeOf sensors words u code) at_end.1 is)
    ]
  ];
})
