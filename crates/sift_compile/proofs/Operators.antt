-- Instructions that push one word.
use Rattle.std.proofs.Common.{◌≡◌, ℕ, ◌≤◌, [], ◌∷◌, ◌++◌, length, Some, refl, arith, length-append}
use Rattle.sift_code.specs.declared.instr.Instr.{Instr}
use Rattle.sift_code.specs.declared.instr.Instr.TheVariants as instr
use Rattle.sift_code.specs.Heights.{pops, pushes}
use Rattle.sift_code.specs.Refusal.{IsBadOperandAt, Limits}
use Rattle.sift_lang.specs.declared.tree.Op.{Op}
use Rattle.sift_lang.specs.declared.tree.Op.TheVariants.{Add, Sub, Mul, Div, Rem, And, Or, Xor, Shl, Shr, Lt, Eq}
use Rattle.sift_lang.specs.Tree.{Term, number, local, sense, this_frame, last_frame, minus, binary, middle}
use Rattle.sift_lang.specs.Sound.{need}
use Rattle.sift_compile.specs.Code.{operator_code, term_code}
use Rattle.sift_compile.proofs.Free.{IsCalm}

-- an instruction that pops some words and pushes one
pub record IsOperator (limits : Limits) (i : Instr) (popped : ℕ) : Type 0 where
  pub calm : IsCalm i
  pub pops_are : pops i ≡ popped
  pub pushes_one : pushes i ≡ 1
  pub named : IsBadOperandAt limits (Some i) → ⊥

-- the instruction of an operator pops two words and pushes one; it is no jump, no Begin and no End, and has no bad operand
pub operator_of : (limits : Limits) (o : Op) → IsOperator limits (operator_code o) 2
operator_of limits Add = record { calm = tt; pops_are = refl; pushes_one = refl; named = λ bad. bad }
operator_of limits Sub = record { calm = tt; pops_are = refl; pushes_one = refl; named = λ bad. bad }
operator_of limits Mul = record { calm = tt; pops_are = refl; pushes_one = refl; named = λ bad. bad }
operator_of limits Div = record { calm = tt; pops_are = refl; pushes_one = refl; named = λ bad. bad }
operator_of limits Rem = record { calm = tt; pops_are = refl; pushes_one = refl; named = λ bad. bad }
operator_of limits And = record { calm = tt; pops_are = refl; pushes_one = refl; named = λ bad. bad }
operator_of limits Or = record { calm = tt; pops_are = refl; pushes_one = refl; named = λ bad. bad }
operator_of limits Xor = record { calm = tt; pops_are = refl; pushes_one = refl; named = λ bad. bad }
operator_of limits Shl = record { calm = tt; pops_are = refl; pushes_one = refl; named = λ bad. bad }
operator_of limits Shr = record { calm = tt; pops_are = refl; pushes_one = refl; named = λ bad. bad }
operator_of limits Lt = record { calm = tt; pops_are = refl; pushes_one = refl; named = λ bad. bad }
operator_of limits Eq = record { calm = tt; pops_are = refl; pushes_one = refl; named = λ bad. bad }

-- a term needs at least one word on the stack
pub needs_some : (t : Term) → 1 ≤ need t
needs_some (number n) = omega arith
needs_some (local l) = omega arith
needs_some (sense x) = omega arith
needs_some (this_frame w) = omega arith
needs_some (last_frame w) = omega arith
needs_some (minus t) = omega arith
needs_some (binary o t u) = omega (arith, needs_some t)
needs_some (middle t u v) = omega (arith, needs_some t)

-- a term has some code
pub some_code : (t : Term) → 1 ≤ length (term_code t)
some_code (number n) = omega arith
some_code (local l) = omega arith
some_code (sense x) = omega arith
some_code (this_frame w) = omega arith
some_code (last_frame w) = omega arith
some_code (minus t) = omega arith
some_code (binary o t u) =
    omega (arith, some_code t, length-append (term_code t) (term_code u ++ operator_code o ∷ []))
some_code (middle t u v) =
    omega (arith, some_code t, length-append (term_code t) (term_code u ++ (term_code v ++ instr.Mid ∷ [])))
