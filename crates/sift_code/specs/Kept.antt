-- What checked code keeps, and how its bound is found. No public clause cites this module.
use Rattle.std.specs.Prelude.{◌≡◌, ◌≤◌, ℕ, zero, suc, ◌+◌, List, [], ◌∷◌, ◌++◌, length, Option, Some, drop, slice_get}
use Rattle.sift_code.specs.declared.instr.Instr.{Instr}
use Rattle.sift_code.specs.declared.instr.Instr.TheVariants.{Begin, End}
use Rattle.sift_code.specs.Heights.{stack_through}
use Rattle.sift_code.specs.Bound.{product, bound_of, kept}
use Rattle.sift_code.specs.Refusal.{Limits, IsSound, within}

-- the rounds of the loops that are open behind an instruction
abbrev pub rounds_behind : Option Instr → List ℕ → List ℕ
rounds_behind (Some (Begin k)) rounds = k ∷ rounds
rounds_behind (Some End) rounds = drop 1 rounds
rounds_behind _ rounds = rounds

-- the rounds of the loops that are open on arrival at a place
abbrev pub rounds_at : List Instr → ℕ → List ℕ
rounds_at code zero = []
rounds_at code (suc p) = rounds_behind (slice_get code p) (rounds_at code p)

-- the part of the bound that is due to the instructions before a place
abbrev pub bound_before : List Instr → ℕ → ℕ
bound_before code zero = 0
bound_before code (suc p) = bound_before code p + product (rounds_at code p)

-- the products that are kept outside each open loop, the outermost first
abbrev pub products_outside : List ℕ → List ℕ
products_outside [] = []
products_outside (k ∷ ks) = products_outside ks ++ kept (product ks) ∷ []

-- sound code of at most 8 output words, with its two numbers
pub record IsChecked (code : List Instr) (limits : Limits) (stack bound : ℕ) : Type 0 where
  pub sound : IsSound (within code limits)
  pub few : limits.outputs ≤ 8
  pub stack_is : stack ≡ stack_through code (length code)
  pub bound_is : bound ≡ kept (bound_of code)
