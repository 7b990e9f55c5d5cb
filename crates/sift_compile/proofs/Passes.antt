-- Nothing offends in the code of a statement, from its parts.
use Rattle.std.proofs.Common.{◌≡◌, ℕ, ◌+◌, ◌<◌, ◌≤◌, List, [], ◌∷◌, ◌++◌, length, Some, refl, sym, ap, ◌∙◌, subst, arith, inl, inr, length-append}
use Rattle.std.specs.Prelude.{slice_get}
use Rattle.sift_code.specs.declared.instr.Instr.{Instr}
use Rattle.sift_code.specs.declared.instr.Instr.TheVariants.{JumpZ, Jump, Begin, End}
use Rattle.sift_code.specs.Enclosing.{enclosing}
use Rattle.sift_code.specs.Heights.{Trail, trail_at, height_at, followed, pops, pushes, height_after}
use Rattle.sift_code.specs.Refusal.{Program, IsBadOperandAt, IsUnequalRound, stack_limit, loop_limit}
use Rattle.sift_lang.specs.Tree.{Term}
use Rattle.sift_lang.specs.Sound.{need}
use Rattle.sift_code.specs.laws.Enclosing.{enclosing_here}
use Rattle.sift_code.specs.laws.Heights.{trail_here}
use Rattle.sift_compile.specs.Code.{term_code, behind, choose_code, choose_else_code}
use Rattle.sift_compile.proofs.Stands.{stands_front, stands_back, stands_on, stands_here, stands_next, stands_behind}
use Rattle.sift_compile.proofs.Matched.{IsMatched, closes}
use Rattle.sift_compile.proofs.Loops.{KeepsLoops, keeps_term, keeps_choose, keeps_choose_else, end_enclosed}
use Rattle.sift_compile.proofs.Arrivals.{empty_at, IsClear, clear_narrow, clear_meets, Grown, as_before, one_grown, grown_on, grown_later, clear_grown}
use Rattle.sift_compile.proofs.Free.{trail, IsCalm, free_none, free_one, free_both, free_at, calm_free, calm_trail}
use Rattle.sift_compile.proofs.Pushes.{AllPush, Meets, quiet_meets}
use Rattle.sift_compile.proofs.Jumps.{AllPass, passes_to, test_pushes, some_quiet, jumpz_free, jumpz_trail, jump_free, jump_trail}

module _ (program : Program) where
  -- an instruction that takes the one word on the stack
  pub record Takes (i : Instr) : Type 0 where
    pub calm : IsCalm i
    pub pops_one : pops i ≡ 1
    pub pushes_none : pushes i ≡ 0
    pub named : IsBadOperandAt program.limits (Some i) → ⊥

  -- nothing offends in a term's code and one instruction that takes its word, where the term needs no more than may be
  pub use_passes : (x : Term) (i : Instr) (p : ℕ) → AllPush program x → need x ≤ stack_limit → Takes i → AllPass program p (term_code x ++ i ∷ [])
  use_passes x i p all low takes to brought stands inside here clear before =
      let ct = term_code x in
      let q = p + length ct in
      let whole : q + 1 ≡ p + length (ct ++ i ∷ []) = omega (arith, length-append ct (i ∷ [])) in
      let part = test_pushes program x all p to brought (stands_front program.code p ct _ stands) here clear (omega (arith, whole, before)) low in
      let at = stands_next program.code p ct [] i stands in
      let meets : Meets q 1 brought = quiet_meets q 1 brought (some_quiet program x p to brought clear (omega (arith, whole, before))) in
      let after : height_after i 1 ≡ 0 = omega (arith, takes.pops_one, takes.pushes_none) in
      let free = calm_free program q i 1 brought at part.pushed takes.calm meets (omega (arith, takes.pops_one)) (omega (arith, after)) takes.named in
      passes_to program p (q + 1) _ brought whole (record {
        free = free_both program p q (q + 1) part.free (free_one program q free);
        arrivals = brought;
        empty = calm_trail program q i 1 brought at part.pushed takes.calm ∙ ap (λ h. trail h brought) after;
        grown = as_before (q + 1) brought;
      })

  -- nothing offends in the code of an `if` where nothing does in its test and in its block, which keeps the loops
  pub choose_passes : (x : Term) (first : List Instr) (p : ℕ) → AllPush program x → need x ≤ stack_limit → KeepsLoops first
      → AllPass program (behind p (term_code x)) first → AllPass program p (choose_code p (term_code x) first)
  choose_passes x first p all low keeps passes to brought stands inside here clear before =
      let ct = term_code x in
      let q = p + length ct in
      let end = behind p ct + length first in
      let whole : end ≡ p + length (choose_code p ct first) = omega (arith, length-append ct (JumpZ end ∷ first)) in
      let part = test_pushes program x all p to brought (stands_front program.code p ct _ stands) here clear (omega (arith, whole, before)) low in
      let at = stands_next program.code p ct first (JumpZ end) stands in
      let meets : Meets q 1 brought = quiet_meets q 1 brought (some_quiet program x p to brought clear (omega (arith, whole, before))) in
      let loops : enclosing program.code end ≡ enclosing program.code q = ap (enclosing program.code) whole
      ∙ ((keeps_choose p x first keeps).by program.code p stands
      ∙ sym ((keeps_term x).by program.code p (stands_front program.code p ct _ stands))) in
      let free = jumpz_free program q end brought at part.pushed meets (omega arith) (omega (arith, whole, inside)) loops in
      let now = empty_at end ∷ brought in
      let clear_now : IsClear (q + 1) end now = (refl, inr (omega arith), clear_narrow p to (q + 1) end brought (omega arith) (omega (arith, whole, before)) clear) in
      let body = passes end now (stands_behind program.code p ct first (JumpZ end) stands) (omega (arith, whole, inside)) (jumpz_trail program q end brought at part.pushed) clear_now (omega arith) in
      passes_to program p end _ brought whole (record {
        free = free_both program p q end part.free (free_both program q (q + 1) end (free_one program q free) body.free);
        arrivals = body.arrivals;
        empty = body.empty;
        grown = grown_on end brought now body.arrivals (one_grown end end brought brought (omega arith) (as_before end brought)) body.grown;
      })

  -- nothing offends in the code of an `if` with an `else` where nothing does in its test and in both its blocks
  pub choose_else_passes : (x : Term) (first second : List Instr) (p : ℕ) → AllPush program x → need x ≤ stack_limit → KeepsLoops first
      → KeepsLoops second → AllPass program (behind p (term_code x)) first → AllPass program (behind (behind p (term_code x)) first) second
      → AllPass program p (choose_else_code p (term_code x) first second)
  choose_else_passes x first second p all low keeps also passes others to brought stands inside here clear before =
      let ct = term_code x in
      let q = p + length ct in
      let r = behind p ct + length first in
      let other = behind (behind p ct) first in
      let end = other + length second in
      let whole : end ≡ p + length (choose_else_code p ct first second)
      = omega (arith, length-append ct (JumpZ other ∷ (first ++ Jump end ∷ second)), length-append first (Jump end ∷ second)) in
      let part = test_pushes program x all p to brought (stands_front program.code p ct _ stands) here clear (omega (arith, whole, before)) low in
      let at = stands_next program.code p ct _ (JumpZ other) stands in
      let meets : Meets q 1 brought = quiet_meets q 1 brought (some_quiet program x p to brought clear (omega (arith, whole, before))) in
      let rest = stands_behind program.code p ct _ (JumpZ other) stands in
      let at_jump = stands_next program.code (behind p ct) first second (Jump end) rest in
      let test_loops = (keeps_term x).by program.code p (stands_front program.code p ct _ stands) in
      let end_loops : enclosing program.code end ≡ enclosing program.code p = ap (enclosing program.code) whole ∙ (keeps_choose_else p x first second keeps also).by program.code p stands in
      let last = stands_behind program.code (behind p ct) first second (Jump end) rest in
      let other_loops : enclosing program.code other ≡ enclosing program.code p = sym (also.by program.code other last) ∙ end_loops in
      let free = jumpz_free program q other brought at part.pushed meets (omega arith) (omega (arith, whole, inside)) (other_loops ∙ sym test_loops) in
      let now = empty_at other ∷ brought in
      let clear_now : IsClear (q + 1) r now = (refl, inr (omega arith), clear_narrow p to (q + 1) r brought (omega arith) (omega (arith, whole, before)) clear) in
      let body = passes r now (stands_front program.code (behind p ct) first _ rest) (omega (arith, whole, inside)) (jumpz_trail program q other brought at part.pushed) clear_now (omega arith) in
      let clear_before : IsClear other end now = (refl, inl (omega arith), clear_narrow p to other end brought (omega arith) (omega (arith, whole, before)) clear) in
      let clear_then : IsClear other end body.arrivals = clear_grown r other end now body.arrivals (omega arith) body.grown clear_before in
      let first_loops : enclosing program.code r ≡ enclosing program.code p =
      keeps.by program.code (behind p ct) (stands_front program.code (behind p ct) first _ rest) ∙ (jump_loops q at ∙ test_loops) in
      let free_jump = jump_free program r end other end body.arrivals at_jump body.empty clear_then (omega arith) (omega (arith, whole, inside)) (end_loops ∙ sym first_loops) in
      let later = empty_at end ∷ body.arrivals in
      let clear_later : IsClear other end later = (refl, inr (omega arith), clear_then) in
      let more = others end later last (omega (arith, whole, inside)) (jump_trail program r end other end body.arrivals at_jump body.empty clear_then) clear_later (omega arith) in
      let grown_first : Grown end brought body.arrivals =
      grown_on end brought now body.arrivals (one_grown end other brought brought (omega arith) (as_before end brought))
      (grown_later r end now body.arrivals (omega arith) body.grown) in
      passes_to program p end _ brought whole (record {
        free = free_both program p q end part.free
            (free_both program q (q + 1) end (free_one program q free)
            (free_both program (q + 1) r end body.free (free_both program r (r + 1) end (free_one program r free_jump) more.free)));
        arrivals = more.arrivals;
        empty = more.empty;
        grown = grown_on end brought later more.arrivals (one_grown end end brought body.arrivals (omega arith) grown_first) more.grown;
      })
    where
      jump_loops : (q : ℕ) → slice_get program.code q ≡ Some (JumpZ (behind (behind p (term_code x)) first)) → enclosing program.code (q + 1) ≡ enclosing program.code q
      jump_loops q at = enclosing_here program.code q (JumpZ (behind (behind p (term_code x)) first)) at

  -- nothing offends in the code of a `repeat` where nothing does in its body, and one loop more may be open
  pub repeat_passes : (k : ℕ) (body : List Instr) (p : ℕ) → length (enclosing program.code p) < loop_limit → IsMatched body
      → KeepsLoops body → AllPass program (p + 1) body → AllPass program p (Begin k ∷ (body ++ End ∷ []))
  repeat_passes k body p room matched keeps passes to brought stands inside here clear before =
      let q = p + 1 + length body in
      let whole : q + 1 ≡ p + length (Begin k ∷ (body ++ End ∷ [])) = omega (arith, length-append body (End ∷ [])) in
      let at = stands_here program.code p (Begin k) _ stands in
      let rest = stands_on program.code p (Begin k) _ stands in
      let at_end = stands_next program.code (p + 1) body [] End rest in
      let closed = closes program.code (p + 1) body matched rest in
      let free = free_at program p (Begin k) 0 brought at here (λ bad. let e = sym closed ∙ bad in cc) (clear_meets p to p brought clear)
      (λ bad. bad) (omega arith) (omega arith) (λ bad. omega (arith, bad, room)) (λ bad. bad) in
      let entered : trail_at program.code (p + 1) ≡ trail 0 brought = trail_here program.code p (Begin k) at ∙ ap (followed (Some (Begin k)) (p + 1)) here in
      let clear_in : IsClear (p + 1) q brought = clear_narrow p to (p + 1) q brought (omega arith) (omega (arith, whole, before)) clear in
      let inner = passes q brought (stands_front program.code (p + 1) body _ rest) (omega (arith, whole, inside)) entered clear_in (omega arith) in
      let clear_end : IsClear q to inner.arrivals = clear_grown q q to brought inner.arrivals (omega arith) inner.grown (clear_narrow p to q to brought (omega arith) (omega arith) clear) in
      let loops = end_enclosed program.code p k body matched keeps stands in
      let same : height_at program.code q ≡ height_at program.code (p + 1) = ap (λ (t : Trail). t.height) inner.empty ∙ sym (ap (λ (t : Trail). t.height) entered) in
      let free_end = free_at program q End 0 inner.arrivals at_end inner.empty (λ bad. let e = sym loops ∙ bad in
      cc) (clear_meets q to q inner.arrivals clear_end) (λ bad. subst (IsUnequalRound program.code q) loops bad same) (omega arith)
      (omega arith) (λ bad. bad) (λ bad. bad) in
      passes_to program p (q + 1) _ brought whole (record {
        free = free_both program p (p + 1) (q + 1) (free_one program p free) (free_both program (p + 1) q (q + 1) inner.free (free_one program q free_end));
        arrivals = inner.arrivals;
        empty = trail_here program.code q End at_end ∙ ap (followed (Some End) (q + 1)) inner.empty;
        grown = grown_later q (q + 1) brought inner.arrivals (omega arith) inner.grown;
      })

  -- nothing offends in a piece of no code
  pub none_passes : (p : ℕ) → AllPass program p []
  none_passes p to brought stands inside here clear before =
      passes_to program p p _ brought (omega arith) (record { free = free_none program p; arrivals = brought; empty = here; grown = as_before p brought })

  -- nothing offends in two pieces of code, one behind the other, where nothing does in either
  pub both_pass : (p : ℕ) (a b : List Instr) → AllPass program p a → AllPass program (p + length a) b → AllPass program p (a ++ b)
  both_pass p a b pa pb to brought stands inside here clear before =
      let q = p + length a in
      let end = q + length b in
      let whole : end ≡ p + length (a ++ b) = omega (arith, length-append a b) in
      let first = pa to brought (stands_front program.code p a b stands) (omega (arith, whole, inside)) here clear (omega (arith, whole, before)) in
      let clear_then : IsClear q to first.arrivals = clear_grown q q to brought first.arrivals (omega arith) first.grown (clear_narrow p to q to brought (omega arith) (omega arith) clear) in
      let second = pb to first.arrivals (stands_back program.code p a b stands) (omega (arith, whole, inside)) first.empty clear_then (omega (arith, whole, before)) in
      passes_to program p end _ brought whole (record {
        free = free_both program p q end first.free second.free;
        arrivals = second.arrivals;
        empty = second.empty;
        grown = grown_on end brought first.arrivals second.arrivals (grown_later q end brought first.arrivals (omega arith) first.grown) second.grown;
      })
