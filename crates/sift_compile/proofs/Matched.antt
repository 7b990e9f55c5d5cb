-- In compiled code each Begin has its End.
use Rattle.std.proofs.Common.{◌≡◌, ℕ, zero, suc, ◌+◌, List, [], ◌∷◌, ◌++◌, length, drop, Option, Some, None, refl, sym, ap, ◌∙◌, arith, append_assoc, length-append}
use Rattle.sift_code.specs.declared.instr.Instr.{Instr}
use Rattle.sift_code.specs.declared.instr.Instr.TheVariants.{Begin, End}
use Rattle.sift_code.specs.Machine.{one_more, through_end}
use Rattle.sift_code.specs.Nest.{onward}
use Rattle.sift_lang.specs.declared.tree.Op.{Op}
use Rattle.sift_lang.specs.declared.tree.Op.TheVariants.{Add, Sub, Mul, Div, Rem, And, Or, Xor, Shl, Shr, Lt, Eq}
use Rattle.sift_lang.specs.Tree.{Term, number, local, sense, this_frame, last_frame, minus, binary, middle, Statement, bind, assign, output, choose, choose_else, repeat, Block, end, step}
use Rattle.sift_lang.specs.Sound.{locals_after}
use Rattle.sift_compile.proofs.Stands.{Stands}
use Rattle.sift_compile.specs.Code.{operator_code, term_code, choose_code, choose_else_code, statement_code, block_code}

-- neither a Begin nor an End
abbrev pub IsPlain : Instr → Type 0
IsPlain (Begin k) = ⊥
IsPlain End = ⊥
IsPlain i = Unit {0}

-- the loops that are open before the code are closed behind it
pub record IsMatched (code : List Instr) : Type 0 where
  pub by : (depth : ℕ) (rest : List Instr) → through_end depth (code ++ rest) ≡ onward (length code) (through_end depth rest)

through_plain : (i : Instr) (depth : ℕ) (rest : List Instr) → IsPlain i → through_end depth (i ∷ rest) ≡ one_more (through_end depth rest)
through_plain (Begin k) depth rest plain = absurd plain
through_plain End depth rest plain = absurd plain
through_plain i zero rest plain = refl
through_plain i (suc depth) rest plain = refl

through_begin : (k depth : ℕ) (rest : List Instr) → through_end depth (Begin k ∷ rest) ≡ one_more (through_end (suc depth) rest)
through_begin k zero rest = refl
through_begin k (suc depth) rest = refl

onward_none : (o : Option ℕ) → o ≡ onward 0 o
onward_none None = refl
onward_none (Some n) = ap Some (omega arith)

onward_more : (n : ℕ) (o : Option ℕ) → one_more (onward n o) ≡ onward (n + 1) o
onward_more n None = refl
onward_more n (Some m) = ap Some (omega arith)

onward_add : (m n : ℕ) (o : Option ℕ) → onward m (onward n o) ≡ onward (m + n) o
onward_add m n None = refl
onward_add m n (Some k) = ap Some (omega arith)

onward_loop : (n : ℕ) (o : Option ℕ) → one_more (onward n (one_more o)) ≡ onward (n + 2) o
onward_loop n None = refl
onward_loop n (Some m) = ap Some (omega arith)

pub matched_none : IsMatched []
matched_none = record { by = λ depth rest. onward_none (through_end depth rest) }

pub matched_more : (i : Instr) (code : List Instr) → IsPlain i → IsMatched code → IsMatched (i ∷ code)
matched_more i code plain matched =
    let n : length code + 1 ≡ length (i ∷ code) = omega arith in
    record {
      by = λ depth rest. through_plain i depth (code ++ rest) plain
          ∙ (ap one_more (matched.by depth rest)
          ∙ (onward_more (length code) (through_end depth rest) ∙ ap (λ n. onward n (through_end depth rest)) n));
    }

pub matched_one : (i : Instr) → IsPlain i → IsMatched (i ∷ [])
matched_one i plain = matched_more i [] plain matched_none

pub matched_both : (a b : List Instr) → IsMatched a → IsMatched b → IsMatched (a ++ b)
matched_both a b ma mb =
    record {
      by = λ depth rest. ap (through_end depth) (append_assoc a b rest)
          ∙ (ma.by depth (b ++ rest)
          ∙ (ap (onward (length a)) (mb.by depth rest)
          ∙ (onward_add (length a) (length b) (through_end depth rest) ∙ ap (λ n. onward n (through_end depth rest)) (sym (length-append a b)))));
    }

pub matched_loop : (k : ℕ) (body : List Instr) → IsMatched body → IsMatched (Begin k ∷ (body ++ End ∷ []))
matched_loop k body matched =
    let n : length body + 2 ≡ length (Begin k ∷ (body ++ End ∷ [])) = omega (arith, length-append body (End ∷ [])) in
    record {
      by = λ depth rest. through_begin k depth ((body ++ End ∷ []) ++ rest)
          ∙ (ap (λ l. one_more (through_end (suc depth) l)) (append_assoc body (End ∷ []) rest)
          ∙ (ap one_more (matched.by (suc depth) (End ∷ rest))
          ∙ (onward_loop (length body) (through_end depth rest) ∙ ap (λ n. onward n (through_end depth rest)) n)));
    }

-- a loop whose body is matched is closed by the End behind it
pub closes : (code : List Instr) (p : ℕ) (body : List Instr) → IsMatched body → Stands code p (body ++ End ∷ []) → through_end 0 (drop p code) ≡ Some (length body + 1)
closes code p body matched stands =
    ap (through_end 0) (stands.is ∙ append_assoc body (End ∷ []) stands.back) ∙ matched.by 0 (End ∷ stands.back)

-- ---- compiled code

-- the instruction of an operator is neither a Begin nor an End
pub plain_operator : (o : Op) → IsPlain (operator_code o)
plain_operator Add = tt
plain_operator Sub = tt
plain_operator Mul = tt
plain_operator Div = tt
plain_operator Rem = tt
plain_operator And = tt
plain_operator Or = tt
plain_operator Xor = tt
plain_operator Shl = tt
plain_operator Shr = tt
plain_operator Lt = tt
plain_operator Eq = tt

pub matched_term : (t : Term) → IsMatched (term_code t)
matched_term (number n) = matched_one _ tt
matched_term (local l) = matched_one _ tt
matched_term (sense x) = matched_one _ tt
matched_term (this_frame w) = matched_one _ tt
matched_term (last_frame w) = matched_one _ tt
matched_term (minus t) = matched_more _ _ tt (matched_both (term_code t) _ (matched_term t) (matched_one _ tt))
matched_term (binary o t u) =
    matched_both (term_code t) _ (matched_term t) (matched_both (term_code u) _ (matched_term u) (matched_one _ (plain_operator o)))
matched_term (middle t u v) =
    matched_both (term_code t) _ (matched_term t) (matched_both (term_code u) _ (matched_term u) (matched_both (term_code v) _ (matched_term v) (matched_one _ tt)))

-- a term and the instruction that takes its value
matched_use : (t : Term) (i : Instr) → IsPlain i → IsMatched (term_code t ++ i ∷ [])
matched_use t i plain = matched_both (term_code t) _ (matched_term t) (matched_one i plain)

matched_choose : (at : ℕ) (t : Term) (first : List Instr) → IsMatched first → IsMatched (choose_code at (term_code t) first)
matched_choose at t first matched = matched_both (term_code t) _ (matched_term t) (matched_more _ first tt matched)

matched_choose_else : (at : ℕ) (t : Term) (first second : List Instr) → IsMatched first → IsMatched second → IsMatched (choose_else_code at (term_code t) first second)
matched_choose_else at t first second a b =
    matched_both (term_code t) _ (matched_term t) (matched_more _ _ tt (matched_both first _ a (matched_more _ second tt b)))

mutual
  pub matched_statement : (at locals : ℕ) (statement : Statement) → IsMatched (statement_code at locals statement)
  matched_statement at locals (bind t) = matched_use t _ tt
  matched_statement at locals (assign l t) = matched_use t _ tt
  matched_statement at locals (output j t) = matched_use t _ tt
  matched_statement at locals (choose t first) = matched_choose at t _ (matched_block _ locals first)
  matched_statement at locals (choose_else t first second) =
      matched_choose_else at t _ _ (matched_block _ locals first) (matched_block _ locals second)
  matched_statement at locals (repeat k body) = matched_loop k _ (matched_block (at + 1) locals body)

  -- the code of a block closes all loops that it opens, and no others
  pub matched_block : (at locals : ℕ) (block : Block) → IsMatched (block_code at locals block)
  matched_block at locals end = matched_none
  matched_block at locals (step statement rest) =
      matched_both (statement_code at locals statement) _ (matched_statement at locals statement) (matched_block _ (locals_after locals statement) rest)
