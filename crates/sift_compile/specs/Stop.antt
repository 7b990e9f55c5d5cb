-- Which code is allowed, and why a task isn't compiled.
use Rattle.std.specs.Prelude.{◌≡◌, ℕ, ◌<◌, ◌≤◌, List, length}
use Rattle.sift_code.specs.declared.instr.Instr.{Instr}
use Rattle.sift_code.specs.Bound.{bound_of, kept}
use Rattle.sift_compile.specs.Length.{code_limit}
use Rattle.sift_compile.specs.declared.compiler.CompileStop.{CompileStop}
use Rattle.sift_compile.specs.declared.compiler.CompileStop.TheVariants.{CodeTooLong, TooManySteps, NoMemory}

-- the code is short enough, and its bound is within the budget
pub record IsAllowed (budget : ℕ) (code : List Instr) : Type 0 where
  pub short : length code ≤ code_limit
  pub quick : bound_of code ≤ budget

-- the code isn't allowed, and this tells why: it is too long, or else its bound is over the budget
abbrev pub IsOver : ℕ → List Instr → CompileStop → Type 0
IsOver budget code (CodeTooLong len) = (code_limit < length code) × (len ≡ kept (length code))
IsOver budget code (TooManySteps bound) =
    (length code ≤ code_limit) × (budget < bound_of code) × (bound ≡ kept (bound_of code))
IsOver budget code NoMemory = ⊥

-- the code isn't compiled for this reason: it isn't allowed, or memory was wanting
abbrev pub Stops : ℕ → List Instr → CompileStop → Type 0
Stops budget code NoMemory = Unit {0}
Stops budget code stop = IsOver budget code stop
