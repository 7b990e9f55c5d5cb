-- Nothing offends at a test or a jump of compiled code.
use Rattle.std.proofs.Common.{◌≡◌, ℕ, ◌+◌, ◌<◌, ◌≤◌, List, [], ◌∷◌, length, Some, ap, ◌∙◌, subst, arith, inl, inr}
use Rattle.std.specs.Prelude.{slice_get}
use Rattle.sift_code.specs.declared.instr.Instr.{Instr}
use Rattle.sift_code.specs.declared.instr.Instr.TheVariants.{JumpZ, Jump}
use Rattle.sift_code.specs.Enclosing.{enclosing}
use Rattle.sift_code.specs.Heights.{Arrival, trail_at, brought_to, followed}
use Rattle.sift_code.specs.Refusal.{Program, IsBadTarget, IsFree, stack_limit}
use Rattle.sift_lang.specs.Tree.{Term}
use Rattle.sift_lang.specs.Sound.{need}
use Rattle.sift_code.specs.laws.Heights.{trail_here}
use Rattle.sift_compile.specs.Code.{term_code}
use Rattle.sift_compile.proofs.Stands.{Stands}
use Rattle.sift_compile.proofs.Arrivals.{empty_at, IsClear, clear_meets, clear_quiet, behind_empty, Grown}
use Rattle.sift_compile.proofs.Free.{trail, AreFree, free_at}
use Rattle.sift_compile.proofs.Pushes.{AllPush, Pushes, Meets}
use Rattle.sift_compile.proofs.Operators.{some_code}

-- nothing offends from one place up to another, and the stack is empty there too
pub record Passes (program : Program) (p q : ℕ) (brought : List Arrival) : Type 0 where
  pub free : AreFree program p q
  pub arrivals : List Arrival
  pub empty : trail_at program.code q ≡ trail 0 arrivals
  pub grown : Grown q brought arrivals

module _ (program : Program) where
  -- nothing offends in this code at this place, whatever was brought to places outside it
  abbrev pub AllPass : ℕ → List Instr → Type 0
  AllPass p piece =
      (to : ℕ) (brought : List Arrival) → Stands program.code p piece → p + length piece ≤ length program.code
      → trail_at program.code p ≡ trail 0 brought → IsClear p to brought → p + length piece ≤ to
      → Passes program p (p + length piece) brought

  -- where nothing offends up to a place, and the stack is empty there, so it is up to any equal place
  pub passes_to : (p q r : ℕ) (brought : List Arrival) → q ≡ r → Passes program p q brought → Passes program p r brought
  passes_to p q r brought e passes = subst (λ x. Passes program p x brought) e passes

  -- a term, where the stack is empty and something follows
  pub test_pushes : (x : Term) → AllPush program x → (p to : ℕ) (brought : List Arrival) → Stands program.code p (term_code x)
      → trail_at program.code p ≡ trail 0 brought → IsClear p to brought → p + length (term_code x) < to → need x ≤ stack_limit
      → Pushes program p (p + length (term_code x)) 0 brought
  test_pushes x all p to brought stands here clear before low =
      all p 0 brought stands here (clear_meets p to p brought clear) (λ y from until. clear_quiet p to y brought clear from (omega (arith, until, before))) (omega (arith, low))

  -- nothing was brought to the place behind a term's code where arrivals keep clear from its start past its end
  pub some_quiet : (x : Term) (p to : ℕ) (brought : List Arrival) → IsClear p to brought → p + length (term_code x) < to → brought_to (p + length (term_code x)) brought ≡ []
  some_quiet x p to brought clear before = clear_quiet p to (p + length (term_code x)) brought clear (omega (arith, some_code x)) before

  bad_target : (p to : ℕ) → p < to → to ≤ length program.code → enclosing program.code to ≡ enclosing program.code p → IsBadTarget program.code p to → ⊥
  bad_target p to ahead inside same (inl back) = omega (arith, back, ahead)
  bad_target p to ahead inside same (inr (inl past)) = omega (arith, past, inside)
  bad_target p to ahead inside same (inr (inr others)) = others same

  -- nothing offends at a JumpZ ahead in the code and in the same loops where all heights that meet are 1
  pub jumpz_free : (p to : ℕ) (brought : List Arrival) → slice_get program.code p ≡ Some (JumpZ to)
      → trail_at program.code p ≡ trail 1 brought → Meets p 1 brought → p < to → to ≤ length program.code
      → enclosing program.code to ≡ enclosing program.code p → IsFree program p
  jumpz_free p to brought at here meets ahead inside same =
      free_at program p (JumpZ to) 1 brought at here (bad_target p to ahead inside same) meets (λ bad. bad) (omega arith) (omega arith) (λ bad. bad) (λ bad. bad)

  -- behind a JumpZ of the one word on the stack it is empty, and an empty one was brought to the target too
  pub jumpz_trail : (p to : ℕ) (brought : List Arrival) → slice_get program.code p ≡ Some (JumpZ to)
      → trail_at program.code p ≡ trail 1 brought → trail_at program.code (p + 1) ≡ trail 0 (empty_at to ∷ brought)
  jumpz_trail p to brought at here = trail_here program.code p (JumpZ to) at ∙ ap (followed (Some (JumpZ to)) (p + 1)) here

  -- nothing offends at a Jump ahead in the code and in the same loops where all stacks that meet are empty
  pub jump_free : (p to from until : ℕ) (brought : List Arrival) → slice_get program.code p ≡ Some (Jump to)
      → trail_at program.code p ≡ trail 0 brought → IsClear from until brought → p < to → to ≤ length program.code
      → enclosing program.code to ≡ enclosing program.code p → IsFree program p
  jump_free p to from until brought at here clear ahead inside same =
      free_at program p (Jump to) 0 brought at here (bad_target p to ahead inside same) (clear_meets from until p brought clear) (λ bad. bad) (omega arith) (omega arith) (λ bad. bad) (λ bad. bad)

  -- behind a Jump, where all stacks before are empty, the stack is empty, and an empty one was brought to its target
  pub jump_trail : (p to from until : ℕ) (brought : List Arrival) → slice_get program.code p ≡ Some (Jump to)
      → trail_at program.code p ≡ trail 0 brought → IsClear from until brought
      → trail_at program.code (p + 1) ≡ trail 0 (empty_at to ∷ brought)
  jump_trail p to from until brought at here clear =
      trail_here program.code p (Jump to) at
      ∙ ap (followed (Some (Jump to)) (p + 1)) here
      ∙ ap (λ h. trail h (empty_at to ∷ brought)) (behind_empty (brought_to (p + 1) brought) (clear_meets from until (p + 1) brought clear))
