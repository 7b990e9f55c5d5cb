-- The same loops enclose both ends of compiled code.
use Rattle.std.proofs.Common.{◌≡◌, ℕ, ◌+◌, List, [], ◌∷◌, ◌++◌, length, drop, Some, refl, ap, ◌∙◌, arith, length-append}
use Rattle.sift_code.specs.declared.instr.Instr.{Instr}
use Rattle.sift_code.specs.declared.instr.Instr.TheVariants.{Begin, End}
use Rattle.sift_code.specs.Enclosing.{opened, opened_by, enclosing}
use Rattle.sift_lang.specs.Tree.{Term, number, local, sense, this_frame, last_frame, minus, binary, middle, Statement, bind, assign, output, choose, choose_else, repeat, Block, end, step}
use Rattle.sift_lang.specs.Sound.{locals_after}
use Rattle.sift_code.specs.laws.Enclosing.{enclosing_here}
use Rattle.sift_compile.specs.Code.{term_code, choose_code, choose_else_code, statement_code, block_code}
use Rattle.sift_compile.proofs.Stands.{Stands, stands_front, stands_back, stands_on, stands_here, stands_next}
use Rattle.sift_compile.proofs.Matched.{IsPlain, IsMatched, closes, plain_operator, matched_block}

-- wherever the code stands, the same loops enclose the places before and behind it
pub record KeepsLoops (piece : List Instr) : Type 0 where
  pub by : (code : List Instr) (p : ℕ) → Stands code p piece → enclosing code (p + length piece) ≡ enclosing code p

opened_plain : (i : Instr) (next : ℕ) (code : List Instr) (loops : List ℕ) → IsPlain i → opened (Some i) next code loops ≡ loops
opened_plain (Begin k) next code loops plain = absurd plain
opened_plain End next code loops plain = absurd plain
opened_plain i next code loops plain = refl

pub keeps_none : KeepsLoops []
keeps_none = record { by = λ code p stands. let e : p + 0 ≡ p = omega arith in ap (enclosing code) e }

pub keeps_both : (a b : List Instr) → KeepsLoops a → KeepsLoops b → KeepsLoops (a ++ b)
keeps_both a b ka kb =
    record {
      by = λ code p stands. let e : p + length (a ++ b) ≡ p + length a + length b = omega (arith, length-append a b) in
          ap (enclosing code) e ∙ (kb.by code (p + length a) (stands_back code p a b stands) ∙ ka.by code p (stands_front code p a b stands));
    }

pub keeps_one : (i : Instr) → IsPlain i → KeepsLoops (i ∷ [])
keeps_one i plain = record { by = λ code p stands. enclosing_here code p i (stands_here code p i [] stands) ∙ opened_plain i (p + 1) code (enclosing code p) plain }

pub keeps_more : (i : Instr) (b : List Instr) → IsPlain i → KeepsLoops b → KeepsLoops (i ∷ b)
keeps_more i b plain kb = keeps_both (i ∷ []) b (keeps_one i plain) kb

-- a loop encloses its body
pub loop_encloses : (code : List Instr) (p k : ℕ) (body : List Instr) → IsMatched body → Stands code p (Begin k ∷ (body ++ End ∷ []))
    → enclosing code (p + 1) ≡ (p + 1) ∷ enclosing code p
loop_encloses code p k body matched stands =
    enclosing_here code p (Begin k) (stands_here code p (Begin k) _ stands)
    ∙ ap (λ o. opened_by o (p + 1) (enclosing code p)) (closes code (p + 1) body matched (stands_on code p (Begin k) _ stands))

-- and its End
pub end_enclosed : (code : List Instr) (p k : ℕ) (body : List Instr) → IsMatched body → KeepsLoops body
    → Stands code p (Begin k ∷ (body ++ End ∷ [])) → enclosing code (p + 1 + length body) ≡ (p + 1) ∷ enclosing code p
end_enclosed code p k body matched keeps stands =
    keeps.by code (p + 1) (stands_front code (p + 1) body _ (stands_on code p (Begin k) _ stands)) ∙ loop_encloses code p k body matched stands

pub keeps_loop : (k : ℕ) (body : List Instr) → IsMatched body → KeepsLoops body → KeepsLoops (Begin k ∷ (body ++ End ∷ []))
keeps_loop k body matched keeps =
    record {
      by = λ code p stands. let e : p + length (Begin k ∷ (body ++ End ∷ [])) ≡ p + 1 + length body
          + 1 = omega (arith, length-append body (End ∷ [])) in ap (enclosing code) e
          ∙ (enclosing_here code (p + 1 + length body) End (stands_next code (p + 1) body [] End (stands_on code p (Begin k) _ stands))
          ∙ ap (drop 1) (end_enclosed code p k body matched keeps stands));
    }

-- ---- compiled code

-- the same loops enclose the places before and behind the code of a term
pub keeps_term : (t : Term) → KeepsLoops (term_code t)
keeps_term (number n) = keeps_one _ tt
keeps_term (local l) = keeps_one _ tt
keeps_term (sense x) = keeps_one _ tt
keeps_term (this_frame w) = keeps_one _ tt
keeps_term (last_frame w) = keeps_one _ tt
keeps_term (minus t) = keeps_more _ _ tt (keeps_both (term_code t) _ (keeps_term t) (keeps_one _ tt))
keeps_term (binary o t u) =
    keeps_both (term_code t) _ (keeps_term t) (keeps_both (term_code u) _ (keeps_term u) (keeps_one _ (plain_operator o)))
keeps_term (middle t u v) =
    keeps_both (term_code t) _ (keeps_term t) (keeps_both (term_code u) _ (keeps_term u) (keeps_both (term_code v) _ (keeps_term v) (keeps_one _ tt)))

keeps_use : (t : Term) (i : Instr) → IsPlain i → KeepsLoops (term_code t ++ i ∷ [])
keeps_use t i plain = keeps_both (term_code t) _ (keeps_term t) (keeps_one i plain)

-- the same loops enclose both ends of an `if` without an `else` where they enclose both ends of its block
pub keeps_choose : (at : ℕ) (t : Term) (first : List Instr) → KeepsLoops first → KeepsLoops (choose_code at (term_code t) first)
keeps_choose at t first keeps = keeps_both (term_code t) _ (keeps_term t) (keeps_more _ first tt keeps)

-- the same loops enclose both ends of an `if` with an `else` where they enclose both ends of each of its blocks
pub keeps_choose_else : (at : ℕ) (t : Term) (first second : List Instr) → KeepsLoops first → KeepsLoops second → KeepsLoops (choose_else_code at (term_code t) first second)
keeps_choose_else at t first second a b =
    keeps_both (term_code t) _ (keeps_term t) (keeps_more _ _ tt (keeps_both first _ a (keeps_more _ second tt b)))

mutual
  -- the same loops enclose both ends of a statement's code
  pub keeps_statement : (at locals : ℕ) (statement : Statement) → KeepsLoops (statement_code at locals statement)
  keeps_statement at locals (bind t) = keeps_use t _ tt
  keeps_statement at locals (assign l t) = keeps_use t _ tt
  keeps_statement at locals (output j t) = keeps_use t _ tt
  keeps_statement at locals (choose t first) = keeps_choose at t _ (keeps_block _ locals first)
  keeps_statement at locals (choose_else t first second) =
      keeps_choose_else at t _ _ (keeps_block _ locals first) (keeps_block _ locals second)
  keeps_statement at locals (repeat k body) = keeps_loop k _ (matched_block (at + 1) locals body) (keeps_block (at + 1) locals body)

  -- the same loops enclose both ends of a block's code
  pub keeps_block : (at locals : ℕ) (block : Block) → KeepsLoops (block_code at locals block)
  keeps_block at locals end = keeps_none
  keeps_block at locals (step statement rest) =
      keeps_both (statement_code at locals statement) _ (keeps_statement at locals statement) (keeps_block _ (locals_after locals statement) rest)
