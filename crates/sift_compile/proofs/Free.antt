-- Places of code at which nothing offends.
use Rattle.std.proofs.Common.{◌≡◌, ℕ, ◌+◌, ◌<◌, ◌≤◌, List, length, Some, refl, sym, ap, ◌∙◌, subst, arith, inl, inr}
use Rattle.std.specs.Prelude.{slice_get, ◌⊎◌}
use Rattle.std.specs.List.{All}
use Rattle.std.proofs.lemmas.Bool.{cases_lt}
use Rattle.std.proofs.lemmas.Option.{slice_get_within}
use Rattle.sift_code.specs.declared.instr.Instr.{Instr}
use Rattle.sift_code.specs.declared.instr.Instr.TheVariants.{JumpZ, Jump, Begin, End}
use Rattle.sift_code.specs.Enclosing.{enclosing}
use Rattle.sift_code.specs.Heights.{Arrival, Trail, trail_at, brought_to, height_at, height_after, next_height, brought_by, pops}
use Rattle.sift_code.specs.Refusal.{Program, IsBadJumpAt, IsUnequal, IsUnequalEnd, IsUnderflowAt, IsTallAt, IsCrowdedAt, IsTooDeep, IsBadOperandAt, IsFree, stack_limit}
use Rattle.sift_code.specs.laws.Heights.{trail_here}

-- on arrival this height is there, and this was brought
abbrev pub trail : ℕ → List Arrival → Trail
trail height brought = record { height = height; brought = brought }

-- an instruction for which jumps and loops don't matter
abbrev pub IsCalm : Instr → Type 0
IsCalm (JumpZ to) = ⊥
IsCalm (Jump to) = ⊥
IsCalm (Begin k) = ⊥
IsCalm End = ⊥
IsCalm i = Unit {0}

calm_jump : (code : List Instr) (p : ℕ) (i : Instr) → IsCalm i → IsBadJumpAt code p (Some i) → ⊥
calm_jump code p (JumpZ to) calm bad = calm
calm_jump code p (Jump to) calm bad = calm
calm_jump code p (Begin k) calm bad = calm
calm_jump code p End calm bad = calm
calm_jump code p i calm bad = bad

calm_end : (code : List Instr) (p : ℕ) (i : Instr) → IsCalm i → IsUnequalEnd code p (Some i) → ⊥
calm_end code p End calm bad = calm
calm_end code p i calm bad = bad

calm_begin : (loops : ℕ) (i : Instr) → IsCalm i → IsCrowdedAt loops (Some i) → ⊥
calm_begin loops (Begin k) calm bad = calm
calm_begin loops i calm bad = bad

calm_height : (i : Instr) (next : ℕ) (t : Trail) → IsCalm i → next_height i next t ≡ height_after i t.height
calm_height (Jump to) next t calm = absurd calm
calm_height i next t calm = refl

calm_brought : (i : Instr) (t : Trail) → IsCalm i → brought_by i t ≡ t.brought
calm_brought (JumpZ to) t calm = absurd calm
calm_brought (Jump to) t calm = absurd calm
calm_brought i t calm = refl

-- nothing offends at the places from one up to another
abbrev pub AreFree : Program → ℕ → ℕ → Type 0
AreFree program p q = (x : ℕ) → p ≤ x → x < q → IsFree program x

-- nothing offends from a place up to itself, since no place lies there
pub free_none : (program : Program) (p : ℕ) → AreFree program p p
free_none program p x from before = absurd (omega arith)

-- where nothing offends at a place, nothing offends from it up to the next
pub free_one : (program : Program) (p : ℕ) → IsFree program p → AreFree program p (p + 1)
free_one program p free x from before = let e : p ≡ x = omega arith in subst (IsFree program) e free

-- where nothing offends from one place up to another, nor from there up to a third, nothing does from the first up to the third
pub free_both : (program : Program) (p q r : ℕ) → AreFree program p q → AreFree program q r → AreFree program p r
free_both program p q r a b x from before = by (cases_lt x q)
  where
    by : (x < q) ⊎ (q ≤ x) → IsFree program x
    by (inl lt) = a x from lt
    by (inr le) = b x le before

module _ (program : Program) (p : ℕ) (i : Instr) (height : ℕ) (brought : List Arrival) (at : slice_get program.code p ≡ Some i) (here : trail_at program.code p ≡ trail height brought) where
  -- what is known of an instruction's place, one test after the other
  pub free_at : (IsBadJumpAt program.code p (Some i) → ⊥) → All (λ x. x ≡ height) (brought_to p brought)
      → (IsUnequalEnd program.code p (Some i) → ⊥) → pops i ≤ height → height_after i height ≤ stack_limit
      → (IsCrowdedAt (length (enclosing program.code p)) (Some i) → ⊥) → (IsBadOperandAt program.limits (Some i) → ⊥) → IsFree program p
  free_at good_jump meets equal_end filled shallow room named = record {
    jumps = λ bad. good_jump (subst (IsBadJumpAt program.code p) at bad);
    equal = λ bad. unequal bad;
    filled = λ bad. let b : height_at program.code p < pops i = subst (IsUnderflowAt (height_at program.code p)) at bad in omega (arith, b, high, filled);
    shallow = λ bad. deep bad;
    named = λ bad. named (subst (IsBadOperandAt program.limits) at bad);
  }
    where
      high : height_at program.code p ≡ height
      high = ap (λ (t : Trail). t.height) here

      unequal : IsUnequal program.code p → ⊥
      unequal (inl differ) = differ (subst (λ (t : Trail). All (λ x. x ≡ t.height) (brought_to p t.brought)) (sym here) meets)
      unequal (inr (inl bad)) = equal_end (subst (IsUnequalEnd program.code p) at bad)
      unequal (inr (inr last)) = let within : p < length program.code = slice_get_within program.code p i at in omega (arith, within, last.0)

      deep : IsTooDeep program.code p → ⊥
      deep (inl bad) = let b : stack_limit < height_after i (height_at program.code p) = subst (IsTallAt (height_at program.code p)) at bad in omega (arith, b, shallow, ap (height_after i) high)
      deep (inr bad) = room (subst (IsCrowdedAt (length (enclosing program.code p))) at bad)

  -- a calm instruction
  pub calm_free : IsCalm i → All (λ x. x ≡ height) (brought_to p brought) → pops i ≤ height → height_after i height ≤ stack_limit
      → (IsBadOperandAt program.limits (Some i) → ⊥) → IsFree program p
  calm_free calm meets filled shallow named =
      free_at (calm_jump program.code p i calm) meets (calm_end program.code p i calm) filled shallow (calm_begin (length (enclosing program.code p)) i calm) named

  -- behind a calm instruction the height is the one after it, and no more was brought than before it
  pub calm_trail : IsCalm i → trail_at program.code (p + 1) ≡ trail (height_after i height) brought
  calm_trail calm =
      trail_here program.code p i at
      ∙ ap (λ h. trail h (brought_by i (trail_at program.code p))) (calm_height i (p + 1) (trail_at program.code p) calm ∙ ap (λ (t : Trail). height_after i t.height) here)
      ∙ ap (trail (height_after i height)) (calm_brought i (trail_at program.code p) calm ∙ ap (λ (t : Trail). t.brought) here)
