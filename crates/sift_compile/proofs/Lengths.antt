-- How long compiled code is, wherever it stands.
use Rattle.std.proofs.Common.{◌≡◌, ℕ, ◌+◌, List, [], ◌∷◌, ◌++◌, length, refl, arith, length-append}
use Rattle.sift_code.specs.declared.instr.Instr.{Instr}
use Rattle.sift_code.specs.declared.instr.Instr.TheVariants as instr
use Rattle.sift_lang.specs.Tree.{Term, number, local, sense, this_frame, last_frame, minus, binary, middle, Statement, bind, assign, output, choose, choose_else, repeat, Block, end, step}
use Rattle.sift_lang.specs.Sound.{locals_after}
use Rattle.sift_compile.specs.Code.{operator_code, term_code, behind, choose_code, choose_else_code, statement_code, block_code}
use Rattle.sift_compile.specs.Length.{term_length, statement_length, block_length}

-- the code of a term has as many instructions as its tree tells
pub length-term_code : (t : Term) → length (term_code t) ≡ term_length t
length-term_code (number n) = refl
length-term_code (local l) = refl
length-term_code (sense x) = refl
length-term_code (this_frame w) = refl
length-term_code (last_frame w) = refl
length-term_code (minus t) = omega (arith, length-term_code t, length-append (term_code t) (instr.Sub ∷ []))
length-term_code (binary o t u) =
    omega (arith, length-term_code t, length-term_code u, length-append (term_code t) (term_code u ++ operator_code o ∷ []), length-append (term_code u) (operator_code o ∷ []))
length-term_code (middle t u v) =
    omega (
      arith,
      length-term_code t,
      length-term_code u,
      length-term_code v,
      length-append (term_code t) (term_code u ++ (term_code v ++ instr.Mid ∷ [])),
      length-append (term_code u) (term_code v ++ instr.Mid ∷ []),
      length-append (term_code v) (instr.Mid ∷ []),
    )

length-use : (t : Term) (i : Instr) → length (term_code t ++ i ∷ []) ≡ term_length t + 1
length-use t i = omega (arith, length-term_code t, length-append (term_code t) (i ∷ []))

pub length-choose : (at : ℕ) (t : Term) (first : List Instr) → length (choose_code at (term_code t) first) ≡ term_length t + length first + 1
length-choose at t first =
    omega (arith, length-term_code t, length-append (term_code t) (instr.JumpZ (behind at (term_code t) + length first) ∷ first))

pub length-choose_else : (at : ℕ) (t : Term) (first second : List Instr) → length (choose_else_code at (term_code t) first second) ≡ term_length t + length first + length second + 2
length-choose_else at t first second =
    let other = behind (behind at (term_code t)) first in
    omega (
      arith,
      length-term_code t,
      length-append (term_code t) (instr.JumpZ other ∷ (first ++ instr.Jump (other + length second) ∷ second)),
      length-append first (instr.Jump (other + length second) ∷ second),
    )

mutual
  pub length-statement_code : (at locals : ℕ) (statement : Statement) → length (statement_code at locals statement) ≡ statement_length statement
  length-statement_code at locals (bind t) = length-use t (instr.Store locals)
  length-statement_code at locals (assign l t) = length-use t (instr.Store l)
  length-statement_code at locals (output j t) = length-use t (instr.Out j)
  length-statement_code at locals (choose t first) =
      omega (arith, length-choose at t (block_code (behind at (term_code t)) locals first), length-block_code (behind at (term_code t)) locals first)
  length-statement_code at locals (choose_else t first second) =
      let cf = block_code (behind at (term_code t)) locals first in
      let there = behind (behind at (term_code t)) cf in
      omega (arith, length-choose_else at t cf (block_code there locals second), length-block_code (behind at (term_code t)) locals first, length-block_code there locals second)
  length-statement_code at locals (repeat k body) =
      omega (arith, length-block_code (at + 1) locals body, length-append (block_code (at + 1) locals body) (instr.End ∷ []))

  -- the code of a block has as many instructions as its tree tells, wherever it begins and whatever locals live
  pub length-block_code : (at locals : ℕ) (block : Block) → length (block_code at locals block) ≡ block_length block
  length-block_code at locals end = refl
  length-block_code at locals (step statement rest) =
      let cs = statement_code at locals statement in
      omega (
        arith,
        length-statement_code at locals statement,
        length-block_code (at + length cs) (locals_after locals statement) rest,
        length-append cs (block_code (at + length cs) (locals_after locals statement) rest),
      )
