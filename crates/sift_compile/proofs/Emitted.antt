-- What was emitted, piece after piece.
use Rattle.std.proofs.Common.{◌≡◌, ℕ, ◌+◌, ◌≤◌, List, [], ◌∷◌, ◌++◌, length, ap, ◌∙◌, arith, append_assoc, length-append}
use Rattle.sift_code.specs.declared.instr.Instr.{Instr}
use Rattle.sift_code.specs.declared.instr.Instr.TheVariants.{JumpZ, Jump, Begin, End}
use Rattle.sift_lang.specs.Tree.{Term, Statement, choose, choose_else, repeat, Block, step}
use Rattle.sift_code.specs.Bound.{kept}
use Rattle.sift_compile.specs.declared.compiler.TheConstants.{CODE_LIMIT}
use Rattle.sift_compile.specs.Code.{term_code, behind, statement_code, block_code}
use Rattle.sift_compile.specs.Length.{term_length, statement_length, block_length, IsSoundFor, AreSoundFor}
use Rattle.sift_compile.proofs.Lengths.{length-term_code, length-block_code}

-- code with a term's code behind it is longer by the length of the term
pub term_long : (old code : List Instr) (t : Term) → code ≡ old ++ term_code t → length code ≡ length old + term_length t
term_long old code t is =
    omega (arith, ap (length {A = Instr}) is, length-append old (term_code t), length-term_code t)

-- code with an instruction behind it is longer by 1
pub instr_long : (old code : List Instr) (i : Instr) → code ≡ old ++ i ∷ [] → length code ≡ length old + 1
instr_long old code i is = omega (arith, ap (length {A = Instr}) is, length-append old (i ∷ []))

-- code with a block's code behind it is longer by the length of the block
pub block_long : (old code : List Instr) (at locals : ℕ) (block : Block) → code ≡ old ++ block_code at locals block → length code ≡ length old + block_length block
block_long old code at locals block is =
    omega (arith, ap (length {A = Instr}) is, length-append old (block_code at locals block), length-block_code at locals block)

-- a number that is allowed is kept as it is
pub kept_same : (n : ℕ) → n ≤ CODE_LIMIT → kept n ≡ n
kept_same n few = omega (arith, few)

-- code with a test's code and its jump behind it is longer by the length of the test and 1
pub test_long : (old code : List Instr) (t : Term) (to : ℕ) → code ≡ old ++ (term_code t ++ JumpZ to ∷ []) → length code ≡ length old + term_length t + 1
test_long old code t to is =
    omega (arith, ap (length {A = Instr}) is, length-append old (term_code t ++ JumpZ to ∷ []), length-append (term_code t) (JumpZ to ∷ []), length-term_code t)

test_behind : (old code : List Instr) (t : Term) (to : ℕ) → code ≡ old ++ (term_code t ++ JumpZ to ∷ []) → length code ≡ behind (length old) (term_code t)
test_behind old code t to is = omega (arith, test_long old code t to is, length-term_code t)

-- an `if` without an `else`
pub choose_emitted : (old c1 c2 : List Instr) (t : Term) (first : Block) (locals passed : ℕ)
    → c1 ≡ old ++ (term_code t ++ JumpZ (behind (length old) (term_code t) + passed) ∷ []) → passed ≡ block_length first
    → c2 ≡ c1 ++ block_code (length c1) locals first → c2 ≡ old ++ statement_code (length old) locals (choose t first)
choose_emitted old c1 c2 t first locals passed e1 is e2 =
    let ct = term_code t in
    let p = behind (length old) ct in
    let cf = block_code p locals first in
    let l1 = test_behind old c1 t (p + passed) e1 in
    let there : p + passed ≡ p + length cf = omega (arith, is, length-block_code p locals first) in
    let all : c2 ≡ (old ++ (ct ++ JumpZ (p + passed) ∷ [])) ++ cf = e2 ∙ (ap (λ n. c1 ++ block_code n locals first) l1 ∙ ap (λ l. l ++ cf) e1) in
    let flat : (old ++ (ct ++ JumpZ (p + passed) ∷ [])) ++ cf ≡ old ++ (ct ++ JumpZ (p + passed) ∷ cf) = simp append_assoc in
    all ∙ (flat ∙ ap (λ n. old ++ (ct ++ JumpZ n ∷ cf)) there)

-- an `if` with an `else`
pub choose_else_emitted : (old c1 c2 c3 c4 : List Instr) (t : Term) (first second : Block) (locals passed past : ℕ)
    → c1 ≡ old ++ (term_code t ++ JumpZ (behind (length old) (term_code t) + passed) ∷ []) → passed ≡ block_length first + 1
    → c2 ≡ c1 ++ block_code (length c1) locals first → c3 ≡ c2 ++ Jump (length c2 + 1 + past) ∷ [] → past ≡ block_length second
    → c4 ≡ c3 ++ block_code (length c3) locals second → c4 ≡ old ++ statement_code (length old) locals (choose_else t first second)
choose_else_emitted old c1 c2 c3 c4 t first second locals passed past e1 is e2 e3 are e4 =
    let ct = term_code t in
    let p = behind (length old) ct in
    let cf = block_code p locals first in
    let q = behind p cf in
    let cs = block_code q locals second in
    let l1 = test_behind old c1 t (p + passed) e1 in
    let e2' : c2 ≡ c1 ++ cf = e2 ∙ ap (λ n. c1 ++ block_code n locals first) l1 in
    let l2 : length c2 ≡ p + length cf = ap (length {A = Instr}) e2' ∙ (length-append c1 cf ∙ ap (λ n. n + length cf) l1) in
    let l3 : length c3 ≡ q = omega (arith, l2, instr_long c2 c3 (Jump (length c2 + 1 + past)) e3) in
    let e4' : c4 ≡ c3 ++ cs = e4 ∙ ap (λ n. c3 ++ block_code n locals second) l3 in
    let there : p + passed ≡ q = omega (arith, is, length-block_code p locals first) in
    let end : length c2 + 1 + past ≡ q + length cs = omega (arith, are, l2, length-block_code q locals second) in
    let all : c4 ≡ (((old ++ (ct ++ JumpZ (p + passed) ∷ [])) ++ cf) ++ Jump (length c2 + 1 + past) ∷ []) ++ cs = e4'
    ∙ ap (λ l. l ++ cs) (e3 ∙ ap (λ l. l ++ Jump (length c2 + 1 + past) ∷ []) (e2' ∙ ap (λ l. l ++ cf) e1)) in
    let flat : (((old ++ (ct ++ JumpZ (p + passed) ∷ [])) ++ cf) ++ Jump (length c2 + 1 + past) ∷ []) ++ cs
    ≡ old ++ (ct ++ JumpZ (p + passed) ∷ (cf ++ Jump (length c2 + 1 + past) ∷ cs)) = simp append_assoc in
    all ∙ (flat ∙ (ap (λ n. old ++ (ct ++ JumpZ n ∷ (cf ++ Jump (length c2 + 1 + past) ∷ cs))) there ∙ ap (λ n. old ++ (ct ++ JumpZ q ∷ (cf ++ Jump n ∷ cs))) end))

-- a `repeat`
pub repeat_emitted : (old c1 c2 c3 : List Instr) (k : ℕ) (body : Block) (locals : ℕ) → c1 ≡ old ++ Begin k ∷ []
    → c2 ≡ c1 ++ block_code (length c1) locals body → c3 ≡ c2 ++ End ∷ [] → c3 ≡ old ++ statement_code (length old) locals (repeat k body)
repeat_emitted old c1 c2 c3 k body locals e1 e2 e3 =
    let cb = block_code (length old + 1) locals body in
    let e2' : c2 ≡ c1 ++ cb = e2 ∙ ap (λ n. c1 ++ block_code n locals body) (instr_long old c1 (Begin k) e1) in
    let all : c3 ≡ ((old ++ Begin k ∷ []) ++ cb) ++ End ∷ [] = e3 ∙ ap (λ l. l ++ End ∷ []) (e2' ∙ ap (λ l. l ++ cb) e1) in
    let flat : ((old ++ Begin k ∷ []) ++ cb) ++ End ∷ [] ≡ old ++ Begin k ∷ (cb ++ End ∷ []) = simp append_assoc in
    all ∙ flat

-- where the rest of a block begins with a statement there is room for it, and it is sound
pub rest_room : (old code : List Instr) (at now locals live : ℕ) (whole rest : Block) (statement : Statement) (limit : ℕ)
    → code ++ block_code now live (step statement rest) ≡ old ++ block_code at locals whole → length old + block_length whole ≤ limit
    → length code + statement_length statement ≤ limit
rest_room old code at now locals live whole rest statement limit is room =
    omega (
      arith,
      room,
      ap (length {A = Instr}) is,
      length-append code (block_code now live (step statement rest)),
      length-append old (block_code at locals whole),
      length-block_code at locals whole,
      length-block_code now live (step statement rest),
    )

-- the first statement of a sound block is sound, where as many locals live
pub rest_sound : (live : ℕ) (statement : Statement) (rest : Block) → AreSoundFor live (step statement rest) → IsSoundFor live statement
rest_sound live statement rest sound = (sound.0, sound.1.0)
