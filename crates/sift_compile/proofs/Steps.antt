-- How many steps compiled code takes at most, wherever it stands.
use Rattle.std.proofs.Common.{◌≡◌, ℕ, ◌+◌, ◌*◌, List, [], ◌∷◌, ◌++◌, length, refl, ap, arith, append_assoc, append-nil}
use Rattle.sift_code.specs.Bound.{product, sum_within}
use Rattle.sift_code.specs.declared.instr.Instr.{Instr}
use Rattle.sift_code.specs.declared.instr.Instr.TheVariants as instr
use Rattle.sift_lang.specs.declared.tree.Op.{Op}
use Rattle.sift_lang.specs.declared.tree.Op.TheVariants as op
use Rattle.sift_lang.specs.Tree.{Term, number, local, sense, this_frame, last_frame, minus, binary, middle, Statement, bind, assign, output, choose, choose_else, repeat, Block, end, step, TaskTree}
use Rattle.sift_lang.specs.Sound.{locals_after}
use Rattle.sift_compile.proofs.Lengths.{length-block_code}
use Rattle.sift_compile.specs.Code.{operator_code, term_code, behind, statement_code, block_code}
use Rattle.sift_compile.specs.Correct.{IsMeasured}
use Rattle.sift_compile.specs.Length.{term_length, statement_takes, block_takes}

-- how many steps a statement takes at most
abbrev statement_steps : Statement → ℕ
statement_steps = statement_takes (λ rounds body. rounds * (body + 1) + 1)

-- how many a block takes at most
abbrev block_steps : Block → ℕ
block_steps = block_takes (λ rounds body. rounds * (body + 1) + 1)

-- an operator is one step
sum-operator : (rounds : List ℕ) (o : Op) (rest : List Instr)
    → sum_within rounds (operator_code o ∷ rest) ≡ product rounds + sum_within rounds rest
sum-operator rounds op.Add rest = refl
sum-operator rounds op.Sub rest = refl
sum-operator rounds op.Mul rest = refl
sum-operator rounds op.Div rest = refl
sum-operator rounds op.Rem rest = refl
sum-operator rounds op.And rest = refl
sum-operator rounds op.Or rest = refl
sum-operator rounds op.Xor rest = refl
sum-operator rounds op.Shl rest = refl
sum-operator rounds op.Shr rest = refl
sum-operator rounds op.Lt rest = refl
sum-operator rounds op.Eq rest = refl

-- the steps of a term's code, in each round
sum-term : (rounds : List ℕ) (t : Term) (rest : List Instr)
    → sum_within rounds (term_code t ++ rest) ≡ product rounds * term_length t + sum_within rounds rest
sum-term rounds (number n) rest = omega arith
sum-term rounds (local l) rest = omega arith
sum-term rounds (sense x) rest = omega arith
sum-term rounds (this_frame w) rest = omega arith
sum-term rounds (last_frame w) rest = omega arith
sum-term rounds (minus t) rest =
    let flat = ap (sum_within rounds) (append_assoc (term_code t) (instr.Sub ∷ []) rest) in
    omega (arith, flat, sum-term rounds t (instr.Sub ∷ rest))
sum-term rounds (binary o t u) rest =
    let other = term_code u ++ operator_code o ∷ [] in
    let flat = ap (sum_within rounds) (append_assoc (term_code t) other rest) in
    let flat' = ap (sum_within rounds) (append_assoc (term_code u) (operator_code o ∷ []) rest) in
    omega (arith, flat, flat', sum-term rounds t (other ++ rest), sum-term rounds u (operator_code o ∷ rest), sum-operator rounds o rest)
sum-term rounds (middle t u v) rest =
    let third = term_code v ++ instr.Mid ∷ [] in
    let second = term_code u ++ third in
    let flat = ap (sum_within rounds) (append_assoc (term_code t) second rest) in
    let flat' = ap (sum_within rounds) (append_assoc (term_code u) third rest) in
    let flat'' = ap (sum_within rounds) (append_assoc (term_code v) (instr.Mid ∷ []) rest) in
    omega (arith, flat, flat', flat'', sum-term rounds t (second ++ rest), sum-term rounds u (third ++ rest), sum-term rounds v (instr.Mid ∷ rest))

-- a term's code and one more instruction, which opens and ends no loop
abbrev IsPlain : Instr → Type 0
IsPlain i = (rounds : List ℕ) (rest : List Instr) → sum_within rounds (i ∷ rest) ≡ product rounds + sum_within rounds rest

-- the steps of a term's code, and of the instruction that uses its value
sum-use : (rounds : List ℕ) (t : Term) (i : Instr) (code rest : List Instr) → IsPlain i
    → sum_within rounds ((term_code t ++ i ∷ code) ++ rest)
    ≡ product rounds * (term_length t + 1) + sum_within rounds (code ++ rest)
sum-use rounds t i code rest plain =
    let flat = ap (sum_within rounds) (append_assoc (term_code t) (i ∷ code) rest) in
    omega (arith, flat, sum-term rounds t (i ∷ (code ++ rest)), plain rounds (code ++ rest))

mutual
  -- the steps of a statement's code, in each round
  sum-statement : (rounds : List ℕ) (at locals : ℕ) (statement : Statement) (rest : List Instr)
      → sum_within rounds (statement_code at locals statement ++ rest)
      ≡ product rounds * statement_steps statement + sum_within rounds rest
  sum-statement rounds at locals (bind t) rest = sum-use rounds t (instr.Store locals) [] rest (λ _ _. refl)
  sum-statement rounds at locals (assign l t) rest = sum-use rounds t (instr.Store l) [] rest (λ _ _. refl)
  sum-statement rounds at locals (output j t) rest = sum-use rounds t (instr.Out j) [] rest (λ _ _. refl)
  sum-statement rounds at locals (choose t first) rest =
      let p = behind at (term_code t) in
      let cf = block_code p locals first in
      let test = sum-use rounds t (instr.JumpZ (p + length cf)) cf rest (λ _ _. refl) in
      omega (arith, test, sum-block rounds p locals first rest)
  sum-statement rounds at locals (choose_else t first second) rest =
      let p = behind at (term_code t) in
      let cf = block_code p locals first in
      let q = behind p cf in
      let cs = block_code q locals second in
      let passed = instr.Jump (q + length cs) ∷ cs in
      let test = sum-use rounds t (instr.JumpZ q) (cf ++ passed) rest (λ _ _. refl) in
      let flat = ap (sum_within rounds) (append_assoc cf passed rest) in
      omega (arith, test, flat, sum-block rounds p locals first (passed ++ rest), sum-block rounds q locals second rest)
  sum-statement rounds at locals (repeat k body) rest =
      let cb = block_code (at + 1) locals body in
      let flat = ap (sum_within (k ∷ rounds)) (append_assoc cb (instr.End ∷ []) rest) in
      omega (arith, flat, sum-block (k ∷ rounds) (at + 1) locals body (instr.End ∷ rest))

  -- the steps of a block's code, in each round
  sum-block : (rounds : List ℕ) (at locals : ℕ) (block : Block) (rest : List Instr)
      → sum_within rounds (block_code at locals block ++ rest)
      ≡ product rounds * block_steps block + sum_within rounds rest
  sum-block rounds at locals end rest = omega arith
  sum-block rounds at locals (step statement more) rest =
      let cs = statement_code at locals statement in
      let cm = block_code (at + length cs) (locals_after locals statement) more in
      let flat = ap (sum_within rounds) (append_assoc cs cm rest) in
      omega (
        arith,
        flat,
        sum-statement rounds at locals statement (cm ++ rest),
        sum-block rounds (at + length cs) (locals_after locals statement) more rest,
      )

-- the length of a task's code and the bound of its steps are those that its tree tells
pub code_is_measured : (task : TaskTree) → IsMeasured task
code_is_measured task =
    let whole = ap (sum_within []) (append-nil (block_code 0 0 task.body)) in record {
      long = length-block_code 0 0 task.body;
      quick = omega (arith, whole, sum-block [] 0 0 task.body []);
    }
