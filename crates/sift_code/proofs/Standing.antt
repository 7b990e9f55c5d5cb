-- A machine at an instruction of sound code.
use Rattle.std.proofs.Common.{◌≡◌, ℕ, ◌+◌, ◌-◌, ◌≤◌, List, length, Some, sym, ap, ◌∙◌, arith}
use Rattle.std.specs.Prelude.{slice_get}
use Rattle.sift_code.specs.declared.instr.Instr.{Instr}
use Rattle.sift_code.specs.declared.instr.Instr.TheVariants.{Push, Load, Store, Sense, Now, Last, Out, Mid, JumpZ, Jump, Begin, End}
use Rattle.sift_code.specs.declared.machine.Machine.{Machine}
use Rattle.sift_code.specs.Machine.{Loop, State, Inputs, effect, effect_of}
use Rattle.sift_code.specs.Enclosing.{enclosing}
use Rattle.sift_code.specs.Heights.{height_at, pops, pushes}
use Rattle.sift_code.specs.Refusal.{Program, IsSound, IsBadOperandAt}
use Rattle.sift_code.specs.Work.{Stands, Steps, stack_of, locals_of, loops_of, state_of}
use Rattle.sift_code.proofs.Costs.{nested_here}
use Rattle.sift_code.proofs.Sound.{braced, filled, shallow, named}
use Rattle.sift_code.proofs.Progress.{IsPlain}
use Rattle.sift_code.proofs.Places.{length-stack_of}

-- a machine
abbrev pub machine : ℕ → ℕ → ℕ → Machine
machine place height depth = record { place = place; height = height; depth = depth }

-- a state
abbrev pub state : ℕ → List ℕ → List Loop → List ℕ → List ℕ → State
state place stack loops locals outs = record { place = place; stack = stack; loops = loops; locals = locals; outs = outs }

-- equal parts make equal states
same_state : (p q : ℕ) (s t : List ℕ) (l k : List Loop) (m n o r : List ℕ) → p ≡ q → s ≡ t → l ≡ k → m ≡ n → o ≡ r → state p s l m o ≡ state q t k n r
same_state p q s t l k m n o r places stacks loops locals outs = cc

-- a machine stands at this instruction of sound code, in words enough
pub record Fetched (program : Program) (m : Machine) (ws outs : List ℕ) (i : Instr) : Type 0 where
  pub sound : IsSound program
  pub stands : Stands program m ws outs
  pub at : slice_get program.code m.place ≡ Some i
  pub wide : 352 ≤ length ws

-- it stands at the instruction that was fetched
pub fetched : {program : Program} {m : Machine} {ws outs : List ℕ} {i j : Instr} → 352 ≤ length ws → Stands program m ws outs
    → IsSound program → slice_get program.code m.place ≡ Some i → i ≡ j → Fetched program m ws outs j
fetched wide stands sound at is =
    record { sound = sound; stands = stands; at = at ∙ ap Some is; wide = wide }

-- there are enough words on the stack, and it has room for what comes
pub heights : {program : Program} {m : Machine} {ws outs : List ℕ} {i : Instr} → Fetched program m ws outs i → (pops i ≤ m.height) × (m.height - pops i + pushes i ≤ 256)
heights {program} {m} {ws} {outs} {i} f =
    let high : m.height ≡ height_at program.code m.place = sym (length-stack_of m.height ws) ∙ f.stands.agrees.height in
    rw high (filled program f.sound m.place i f.at, shallow program f.sound m.place i f.at)

pops_few : (i : Instr) → pops i ≤ 3
pops_few (Push w) = omega arith
pops_few (Load l) = omega arith
pops_few (Store l) = omega arith
pops_few (Sense x) = omega arith
pops_few (Now w) = omega arith
pops_few (Last w) = omega arith
pops_few (Out j) = omega arith
pops_few Mid = omega arith
pops_few (JumpZ to) = omega arith
pops_few (Jump to) = omega arith
pops_few (Begin k) = omega arith
pops_few End = omega arith
pops_few _ = omega arith

-- the stack lies in the words that a run works in
pub inside : {program : Program} {m : Machine} {ws outs : List ℕ} {i : Instr} → Fetched program m ws outs i → m.height ≤ 352
inside {program} {m} {ws} {outs} {i} f = let h = heights f in omega (arith, h.0, h.1, pops_few i)

-- what it names is there
pub operand : {program : Program} {m : Machine} {ws outs : List ℕ} {i : Instr} → Fetched program m ws outs i → IsBadOperandAt program.limits (Some i) → ⊥
operand {program} {m} {i = i} f = named program f.sound m.place i f.at

module _ {program : Program} (inputs : Inputs) {m : Machine} {ws outs : List ℕ} {i : Instr} (f : Fetched program m ws outs i) where
  -- an instruction does this, and this is how the words hold it
  pub stepped_to : (n : Machine) (vs puts : List ℕ) (p : ℕ) (stack : List ℕ) (loops : List Loop) (locals o : List ℕ)
      → effect i program.code inputs (state_of program.code m ws outs) ≡ Some (state p stack loops locals o)
      → n.depth ≡ length (enclosing program.code n.place) → p ≡ n.place → stack ≡ stack_of n.height vs
      → loops ≡ loops_of (enclosing program.code n.place) vs → locals ≡ locals_of vs → o ≡ puts → Steps program inputs m ws outs n vs puts
  stepped_to n vs puts p stack loops locals o does depth place stacks loops_are locals_are outs_are =
      record {
        stepped = ap (λ x. effect_of x program.code inputs (state_of program.code m ws outs)) f.at ∙ (does ∙ ap Some (same_state _ _ _ _ _ _ _ _ _ _ place stacks loops_are locals_are outs_are));
        depth = depth;
      }

  -- an instruction that only goes on to the next place leaves the loops
  pub plain : (n : Machine) (vs puts stack locals o : List ℕ) → IsPlain i → effect i program.code inputs (state_of program.code m ws outs)
      ≡ Some (state (m.place + 1) stack (loops_of (enclosing program.code m.place) ws) locals o) → n.place ≡ m.place + 1 → n.depth ≡ m.depth
      → stack ≡ stack_of n.height vs → loops_of (enclosing program.code m.place) vs ≡ loops_of (enclosing program.code m.place) ws
      → locals ≡ locals_of vs → o ≡ puts → Steps program inputs m ws outs n vs puts
  plain n vs puts stack locals o is_plain does place depth stacks loops locals_are outs_are =
      let inside : enclosing program.code n.place ≡ enclosing program.code m.place = ap (enclosing program.code) place
      ∙ (nested_here program.code (braced program f.sound) m.place i f.at
      ∙ is_plain.nests (m.place + 1) (enclosing program.code m.place)) in
      stepped_to n vs puts (m.place + 1) stack (loops_of (enclosing program.code m.place) ws) locals o does (depth
      ∙ (f.stands.depth ∙ ap (length {A = ℕ}) (sym inside))) (sym place) stacks (sym loops
      ∙ ap (λ e. loops_of e vs) (sym inside)) locals_are outs_are
