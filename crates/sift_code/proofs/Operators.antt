-- Instructions of two operands.
use Rattle.std.proofs.Common.{◌≡◌, ℕ, List, refl, arith}
use Rattle.std.specs.Prelude.{bit_and, bit_or, bit_xor}
use Rattle.sift_base.specs.Word.{add, sub, mul, div, rem, shl, shr, lt, eq}
use Rattle.sift_code.specs.declared.instr.Instr.{Instr}
use Rattle.sift_code.specs.declared.instr.Instr.TheVariants.{Push, Load, Store, Sense, Now, Last, Out, Add, Sub, Mul, Div, Rem, And, Or, Xor, Shl, Shr, Lt, Eq, Mid, JumpZ, Jump, Begin, End}
use Rattle.sift_code.specs.Machine.{State, Inputs, on_with, combined, effect}
use Rattle.sift_code.specs.Heights.{pops, pushes}
use Rattle.sift_code.proofs.Progress.{IsPlain}

-- what an instruction of two operands makes of them, and the first for another instruction
abbrev pub op_of : Instr → ℕ → ℕ → ℕ
op_of Add = add
op_of Sub = sub
op_of Mul = mul
op_of Div = div
op_of Rem = rem
op_of And = bit_and
op_of Or = bit_or
op_of Xor = bit_xor
op_of Shl = shl
op_of Shr = shr
op_of Lt = lt
op_of Eq = eq
op_of _ = λ a b. a

-- an instruction of two operands
pub record IsCombining (i : Instr) : Type 0 where
  pub plainly : IsPlain i
  pub pops_two : pops i ≡ 2
  pub pushes_one : pushes i ≡ 1
  pub combines_so : (code : List Instr) (inputs : Inputs) (s : State) → effect i code inputs s ≡ on_with s (combined (op_of i) s.stack)

-- what pops two is an instruction of two operands
pub combining : (i : Instr) → pops i ≡ 2 → IsCombining i
combining (Push x) two = absurd (omega (arith, two))
combining (Load x) two = absurd (omega (arith, two))
combining (Store x) two = absurd (omega (arith, two))
combining (Sense x) two = absurd (omega (arith, two))
combining (Now x) two = absurd (omega (arith, two))
combining (Last x) two = absurd (omega (arith, two))
combining (Out x) two = absurd (omega (arith, two))
combining Mid two = absurd (omega (arith, two))
combining (JumpZ x) two = absurd (omega (arith, two))
combining (Jump x) two = absurd (omega (arith, two))
combining (Begin x) two = absurd (omega (arith, two))
combining End two = absurd (omega (arith, two))
combining Add two =
    record {
      plainly = (record { nests = λ next loops. refl; costs = λ cs. refl; heights = λ next trail. refl });
      pops_two = refl;
      pushes_one = refl;
      combines_so = λ code inputs s. refl;
    }
combining Sub two =
    record {
      plainly = (record { nests = λ next loops. refl; costs = λ cs. refl; heights = λ next trail. refl });
      pops_two = refl;
      pushes_one = refl;
      combines_so = λ code inputs s. refl;
    }
combining Mul two =
    record {
      plainly = (record { nests = λ next loops. refl; costs = λ cs. refl; heights = λ next trail. refl });
      pops_two = refl;
      pushes_one = refl;
      combines_so = λ code inputs s. refl;
    }
combining Div two =
    record {
      plainly = (record { nests = λ next loops. refl; costs = λ cs. refl; heights = λ next trail. refl });
      pops_two = refl;
      pushes_one = refl;
      combines_so = λ code inputs s. refl;
    }
combining Rem two =
    record {
      plainly = (record { nests = λ next loops. refl; costs = λ cs. refl; heights = λ next trail. refl });
      pops_two = refl;
      pushes_one = refl;
      combines_so = λ code inputs s. refl;
    }
combining And two =
    record {
      plainly = (record { nests = λ next loops. refl; costs = λ cs. refl; heights = λ next trail. refl });
      pops_two = refl;
      pushes_one = refl;
      combines_so = λ code inputs s. refl;
    }
combining Or two =
    record {
      plainly = (record { nests = λ next loops. refl; costs = λ cs. refl; heights = λ next trail. refl });
      pops_two = refl;
      pushes_one = refl;
      combines_so = λ code inputs s. refl;
    }
combining Xor two =
    record {
      plainly = (record { nests = λ next loops. refl; costs = λ cs. refl; heights = λ next trail. refl });
      pops_two = refl;
      pushes_one = refl;
      combines_so = λ code inputs s. refl;
    }
combining Shl two =
    record {
      plainly = (record { nests = λ next loops. refl; costs = λ cs. refl; heights = λ next trail. refl });
      pops_two = refl;
      pushes_one = refl;
      combines_so = λ code inputs s. refl;
    }
combining Shr two =
    record {
      plainly = (record { nests = λ next loops. refl; costs = λ cs. refl; heights = λ next trail. refl });
      pops_two = refl;
      pushes_one = refl;
      combines_so = λ code inputs s. refl;
    }
combining Lt two =
    record {
      plainly = (record { nests = λ next loops. refl; costs = λ cs. refl; heights = λ next trail. refl });
      pops_two = refl;
      pushes_one = refl;
      combines_so = λ code inputs s. refl;
    }
combining Eq two =
    record {
      plainly = (record { nests = λ next loops. refl; costs = λ cs. refl; heights = λ next trail. refl });
      pops_two = refl;
      pushes_one = refl;
      combines_so = λ code inputs s. refl;
    }
