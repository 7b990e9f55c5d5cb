-- What is known at each place of sound code.
use Rattle.std.proofs.Common.{◌≡◌, ℕ, ◌+◌, ◌<◌, ◌≤◌, List, ◌∷◌, length, drop, Option, Some, None, refl, sym, subst, arith, inl, inr, get_or}
use Rattle.std.specs.Prelude.{slice_get}
use Rattle.std.proofs.lemmas.Option.{slice_get_within, slice_get-get_or}
use Rattle.sift_code.specs.declared.instr.Instr.{Instr}
use Rattle.sift_code.specs.declared.instr.Instr.TheVariants.{JumpZ, Jump, Begin, End}
use Rattle.sift_code.specs.Machine.{through_end}
use Rattle.sift_code.specs.Enclosing.{enclosing}
use Rattle.sift_code.specs.Heights.{trail_at, height_at, height_after, pops}
use Rattle.sift_code.specs.Refusal.{Program, IsBadTarget, IsBadJumpAt, IsUnequalEnd, IsUnequalRound, IsUnderflowAt, IsTallAt, IsCrowdedAt, IsBadOperandAt, IsFree, IsSound, stack_limit, loop_limit}
use Rattle.sift_code.specs.laws.Enclosing.{same_enclosing}
use Rattle.sift_code.specs.laws.Heights.{same_number, Carries, jumpz_carries, jump_carries}
use Rattle.sift_code.proofs.Costs.{IsBraced}

-- a jump may go there, and this is the height there
pub record Lands (code : List Instr) (p to height : ℕ) : Type 0 where
  pub ahead : p < to
  pub within : to ≤ length code
  pub same_loops : enclosing code to ≡ enclosing code p
  pub same_height : height_at code to ≡ height

less_or : (m n : ℕ) → (m ≤ n → ⊥) → n < m
less_or m n h = omega arith

some_or : (o : Option ℕ) → (o ≡ None → ⊥) → (n : ℕ) × (o ≡ Some n)
some_or None h = absurd (h refl)
some_or (Some n) h = (n, refl)

module _ (program : Program) (sound : IsSound program) where
  free : (p : ℕ) (i : Instr) → slice_get program.code p ≡ Some i → IsFree program p
  free p i at = let within : p < length program.code = slice_get_within program.code p i at in sound p (omega arith)

  no_bad_jump : (p : ℕ) (i : Instr) → slice_get program.code p ≡ Some i → IsBadJumpAt program.code p (Some i) → ⊥
  no_bad_jump p i at bad = (free p i at).jumps (subst (λ o. IsBadJumpAt program.code p o) (sym at) bad)

  -- there is enough on the stack
  pub filled : (p : ℕ) (i : Instr) → slice_get program.code p ≡ Some i → pops i ≤ height_at program.code p
  filled p i at =
      let h : (height_at program.code p < pops i) → ⊥ = λ bad. (free p i at).filled (subst (λ o. IsUnderflowAt (height_at program.code p) o) (sym at) bad) in
      omega arith

  -- the stack isn't too high after the instruction
  pub shallow : (p : ℕ) (i : Instr) → slice_get program.code p ≡ Some i → height_after i (height_at program.code p) ≤ stack_limit
  shallow p i at =
      let h : (stack_limit < height_after i (height_at program.code p)) → ⊥ = λ bad. (free p i at).shallow (inl (subst (λ o. IsTallAt (height_at program.code p) o) (sym at) bad)) in
      omega arith

  -- a Begin is at most the 32nd open
  pub uncrowded : (p k : ℕ) → slice_get program.code p ≡ Some (Begin k) → length (enclosing program.code p) < loop_limit
  uncrowded p k at =
      let h : (loop_limit ≤ length (enclosing program.code p)) → ⊥ = λ bad. (free p (Begin k) at).shallow (inr (subst (λ o. IsCrowdedAt (length (enclosing program.code p)) o) (sym at) bad)) in
      omega arith

  -- the operand is there
  pub named : (p : ℕ) (i : Instr) → slice_get program.code p ≡ Some i → IsBadOperandAt program.limits (Some i) → ⊥
  named p i at bad = (free p i at).named (subst (λ o. IsBadOperandAt program.limits o) (sym at) bad)

  -- each Begin and End has its match
  pub braced : IsBraced program.code
  braced = record {
    begins = λ p k at. some_or (through_end 0 (drop (p + 1) program.code)) (λ none. no_bad_jump p (Begin k) at none);
    ends = λ p at none. no_bad_jump p End at none;
  }

  -- the heights at the start and the end of a round are the same
  pub same_round : (p start : ℕ) (outer : List ℕ) → slice_get program.code p ≡ Some End → enclosing program.code p ≡ start ∷ outer
      → height_at program.code p ≡ height_at program.code start
  same_round p start outer at inside =
      same_number (height_at program.code p) (height_at program.code start)
      (λ differ. (free p End at).equal (inr (inl (subst (λ o. IsUnequalEnd program.code p o) (sym at) (subst (λ l. IsUnequalRound program.code p l) (sym inside) differ)))))

  brought_same : (to height : ℕ) → to ≤ length program.code → Carries (trail_at program.code to).brought to height → height ≡ height_at program.code to
  brought_same to height within carries =
      same_number height (height_at program.code to) (λ differ. (sound to within).equal (inl (λ all. differ (carries (height_at program.code to) all))))

  target_lands : (p to height : ℕ) → (IsBadTarget program.code p to → ⊥) → (p < to → Carries (trail_at program.code to).brought to height) → Lands program.code p to height
  target_lands p to height good carries =
      let ahead = less_or to p (λ back. good (inl back)) in
      let inside : to ≤ length program.code = (let h : (length program.code < to) → ⊥ = λ past. good (inr (inl past)) in omega arith) in
      record { ahead = ahead; within = inside; same_loops = same_enclosing program.code to p (λ others. good (inr (inr others))); same_height = sym (brought_same to height inside (carries ahead)) }

  -- a JumpZ lands ahead, in the code and in the same loops, where the height is that after it
  pub jumpz_lands : (p to : ℕ) → slice_get program.code p ≡ Some (JumpZ to) → Lands program.code p to (height_after (JumpZ to) (height_at program.code p))
  jumpz_lands p to at = target_lands p to _ (no_bad_jump p (JumpZ to) at) (jumpz_carries program.code p to at)

  -- a Jump lands ahead, in the code and in the same loops, where the height is that before it
  pub jump_lands : (p to : ℕ) → slice_get program.code p ≡ Some (Jump to) → Lands program.code p to (height_at program.code p)
  jump_lands p to at = target_lands p to _ (no_bad_jump p (Jump to) at) (jump_carries program.code p to at)

-- there is an instruction at a place below the length
pub at_place : (code : List Instr) (p : ℕ) → p < length code → (i : Instr) × (slice_get code p ≡ Some i)
at_place code p within = (get_or code p End, slice_get-get_or code p End within)
