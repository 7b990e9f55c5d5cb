-- Nothing offends in the code of a sound task.
use Rattle.std.proofs.Common.{◌≡◌, ℕ, ◌+◌, ◌<◌, ◌≤◌, List, [], ◌∷◌, ◌++◌, length, None, refl, sym, ap, ◌∙◌, subst, arith, inl, inr}
use Rattle.std.specs.Prelude.{slice_get, ◌⊎◌}
use Rattle.std.specs.List.{All}
use Rattle.std.proofs.lemmas.Bool.{cases_lt}
use Rattle.std.proofs.lemmas.Option.{slice_get_past}
use Rattle.sift_code.specs.declared.instr.Instr.{Instr}
use Rattle.sift_code.specs.declared.instr.Instr.TheVariants.{Store, Out, JumpZ, Jump, Begin}
use Rattle.sift_code.specs.Machine.{local_count}
use Rattle.sift_code.specs.Enclosing.{enclosing}
use Rattle.sift_code.specs.Heights.{Arrival, Trail, trail_at, brought_to, height_at}
use Rattle.sift_code.specs.Refusal.{Program, IsBadJumpAt, IsUnequal, IsUnequalEnd, IsUnderflowAt, IsTooDeep, IsTallAt, IsCrowdedAt, IsBadOperandAt, IsFree, loop_limit}
use Rattle.sift_code.specs.Refusal as Code
use Rattle.sift_lang.specs.Tree.{Term, number, local, sense, this_frame, last_frame, minus, binary, middle, Statement, bind, assign, output, choose, choose_else, repeat, Block, end, step, TaskTree}
use Rattle.sift_lang.specs.Sound.{NamesWithin, Bounds, IsSoundTerm, IsSoundStatement, IsSoundBlock, IsSound, locals_after, open_repeats, open_repeats_in}
use Rattle.sift_code.specs.laws.Enclosing.{enclosing_here}
use Rattle.sift_compile.specs.Code.{term_code, behind, statement_code, block_code, task_code, task_program}
use Rattle.sift_compile.proofs.Stands.{Stands, stands_front, stands_back, stands_on, stands_next, stands_behind, stands_whole}
use Rattle.sift_compile.proofs.Matched.{matched_block}
use Rattle.sift_compile.proofs.Loops.{keeps_term, keeps_statement, keeps_block, loop_encloses}
use Rattle.sift_compile.proofs.Arrivals.{clear_meets, clear_grown}
use Rattle.sift_compile.proofs.Free.{trail}
use Rattle.sift_compile.proofs.Pushes.{AllPush, term_pushes}
use Rattle.sift_compile.proofs.Jumps.{Passes, AllPass}
use Rattle.sift_compile.proofs.Passes.{Takes, use_passes, choose_passes, choose_else_passes, repeat_passes, none_passes, both_pass}

-- where more locals live, the names are still there
names_more : (sensors words m n : ℕ) (t : Term) → m ≤ n → NamesWithin sensors words m t → NamesWithin sensors words n t
names_more sensors words m n (number k) le names = tt
names_more sensors words m n (local l) le names = omega (arith, names, le)
names_more sensors words m n (sense x) le names = names
names_more sensors words m n (this_frame w) le names = names
names_more sensors words m n (last_frame w) le names = names
names_more sensors words m n (minus t) le names = names_more sensors words m n t le names
names_more sensors words m n (binary o t u) le names =
    (names_more sensors words m n t le names.0, names_more sensors words m n u le names.1)
names_more sensors words m n (middle t u v) le names =
    (names_more sensors words m n t le names.0, names_more sensors words m n u le names.1, names_more sensors words m n v le names.2)

few_after : (b : Bounds) (depth : ℕ) (statement : Statement) → depth ≤ local_count → IsSoundStatement b depth statement → locals_after depth statement ≤ local_count
few_after b depth (bind t) few sound = omega (arith, sound.1)
few_after b depth (assign l t) few sound = few
few_after b depth (output j t) few sound = few
few_after b depth (choose t first) few sound = few
few_after b depth (choose_else t first second) few sound = few
few_after b depth (repeat k body) few sound = few

module _ (b : Bounds) (program : Program) (outputs : program.limits ≡ (let l : Code.Limits = record { sensors = b.sensors; words = b.words; outputs = b.outputs } in l)) where
  pushes : (depth : ℕ) (t : Term) → depth ≤ local_count → IsSoundTerm b depth t → AllPush program t
  pushes depth t few sound =
      term_pushes program t
      (subst (λ (l : Code.Limits). NamesWithin l.sensors l.words local_count t) (sym outputs)
      (names_more b.sensors b.words depth local_count t few sound.names))

  store_takes : (l : ℕ) → l < local_count → Takes program (Store l)
  store_takes l within = record { calm = tt; pops_one = refl; pushes_none = refl; named = λ bad. omega (arith, bad, within) }

  out_takes : (j : ℕ) → j < b.outputs → Takes program (Out j)
  out_takes j within = record { calm = tt; pops_one = refl; pushes_none = refl; named = λ bad. omega (arith, bad, within, ap (λ (l : Code.Limits). l.outputs) outputs) }

  -- a jump is enclosed by the loops that enclose the place behind it
  jumpz_loops : (p : ℕ) (t : Term) (rest : List Instr) (to : ℕ) → Stands program.code p (term_code t ++ JumpZ to ∷ rest)
      → enclosing program.code (behind p (term_code t)) ≡ enclosing program.code p
  jumpz_loops p t rest to stands =
      enclosing_here program.code (p + length (term_code t)) (JumpZ to) (stands_next program.code p (term_code t) rest (JumpZ to) stands)
      ∙ (keeps_term t).by program.code p (stands_front program.code p (term_code t) _ stands)

  jump_loops : (p : ℕ) (first rest : List Instr) (to : ℕ) → Stands program.code p (first ++ Jump to ∷ rest)
      → enclosing program.code (behind p first) ≡ enclosing program.code (p + length first)
  jump_loops p first rest to stands =
      enclosing_here program.code (p + length first) (Jump to) (stands_next program.code p first rest (Jump to) stands)

  mutual
    statement_passes : (statement : Statement) (p depth : ℕ) → IsSoundStatement b depth statement → depth ≤ local_count
        → length (enclosing program.code p) + open_repeats statement ≤ loop_limit → Stands program.code p (statement_code p depth statement)
        → AllPass program p (statement_code p depth statement)
    statement_passes (bind t) p depth sound few shallow stands = use_passes program t (Store depth) p (pushes depth t few sound.0) sound.0.needs (store_takes depth sound.1)
    statement_passes (assign l t) p depth sound few shallow stands = use_passes program t (Store l) p (pushes depth t few sound.0) sound.0.needs (store_takes l (omega (arith, sound.1, few)))
    statement_passes (output j t) p depth sound few shallow stands = use_passes program t (Out j) p (pushes depth t few sound.0) sound.0.needs (out_takes j sound.1)
    statement_passes (choose t first) p depth sound few shallow stands =
        let ct = term_code t in
        let cf = block_code (behind p ct) depth first in
        let here = stands_behind program.code p ct _ _ stands in
        let loops : enclosing program.code (behind p ct) ≡ enclosing program.code p = jumpz_loops p t _ _ stands in
        choose_passes program t cf p (pushes depth t few sound.0) sound.0.needs (keeps_block (behind p ct) depth first)
        (block_passes first (behind p ct) depth sound.1 few (omega (arith, shallow, ap (length {A = ℕ}) loops)) here)
    statement_passes (choose_else t first second) p depth sound few shallow stands =
        let ct = term_code t in
        let cf = block_code (behind p ct) depth first in
        let cs = block_code (behind (behind p ct) cf) depth second in
        let here = stands_behind program.code p ct _ _ stands in
        let there = stands_behind program.code (behind p ct) cf cs _ here in
        let loops : enclosing program.code (behind p ct) ≡ enclosing program.code p = jumpz_loops p t _ _ stands in
        let first_loops = (keeps_block (behind p ct) depth first).by program.code (behind p ct) (stands_front program.code (behind p ct) cf _ here) in
        let other_loops : enclosing program.code (behind (behind p ct) cf) ≡ enclosing program.code p = jump_loops (behind p ct) cf cs _ here ∙ (first_loops ∙ loops) in
        choose_else_passes program t cf cs p (pushes depth t few sound.0) sound.0.needs (keeps_block (behind p ct) depth first)
        (keeps_block (behind (behind p ct) cf) depth second)
        (block_passes first (behind p ct) depth sound.1 few (omega (arith, shallow, ap (length {A = ℕ}) loops))
        (stands_front program.code (behind p ct) cf _ here))
        (block_passes second (behind (behind p ct) cf) depth sound.2 few
        (omega (arith, shallow, ap (length {A = ℕ}) other_loops)) there)
    statement_passes (repeat k body) p depth sound few shallow stands =
        let cb = block_code (p + 1) depth body in
        let loops = loop_encloses program.code p k cb (matched_block (p + 1) depth body) stands in
        let here = stands_front program.code (p + 1) cb _ (stands_on program.code p (Begin k) _ stands) in
        repeat_passes program k cb p (omega (arith, shallow)) (matched_block (p + 1) depth body) (keeps_block (p + 1) depth body)
        (block_passes body (p + 1) depth sound.1 few (omega (arith, shallow, ap (length {A = ℕ}) loops)) here)

    block_passes : (block : Block) (p depth : ℕ) → IsSoundBlock b depth block → depth ≤ local_count
        → length (enclosing program.code p) + open_repeats_in block ≤ loop_limit → Stands program.code p (block_code p depth block)
        → AllPass program p (block_code p depth block)
    block_passes end p depth sound few shallow stands = none_passes program p
    block_passes (step statement rest) p depth sound few shallow stands =
        let cs = statement_code p depth statement in
        let q = p + length cs in
        let here = stands_front program.code p cs _ stands in
        let loops = (keeps_statement p depth statement).by program.code p here in
        both_pass program p cs _ (statement_passes statement p depth sound.0 few (omega (arith, shallow)) here)
        (block_passes rest q (locals_after depth statement) sound.1 (few_after b depth statement few sound.0)
        (omega (arith, shallow, ap (length {A = ℕ}) loops)) (stands_back program.code p cs _ stands))

-- nothing offends at the code's end
end_free : (program : Program) (p : ℕ) (brought : List Arrival) → p ≡ length program.code → trail_at program.code p ≡ trail 0 brought
    → All (λ height. height ≡ 0) (brought_to p brought) → IsFree program p
end_free program p brought last here meets =
    record {
      jumps = λ bad. subst (IsBadJumpAt program.code p) none bad;
      equal = λ bad. unequal bad;
      filled = λ bad. subst (IsUnderflowAt (height_at program.code p)) none bad;
      shallow = λ bad. deep bad;
      named = λ bad. subst (IsBadOperandAt program.limits) none bad;
    }
  where
    none : slice_get program.code p ≡ None
    none = slice_get_past program.code p (omega (arith, last))

    unequal : IsUnequal program.code p → ⊥
    unequal (inl differ) = differ (subst (λ (t : Trail). All (λ x. x ≡ t.height) (brought_to p t.brought)) (sym here) meets)
    unequal (inr (inl bad)) = subst (IsUnequalEnd program.code p) none bad
    unequal (inr (inr left)) = left.1 (ap (λ (t : Trail). t.height) here)

    deep : IsTooDeep program.code p → ⊥
    deep (inl bad) = subst (IsTallAt (height_at program.code p)) none bad
    deep (inr bad) = subst (IsCrowdedAt (length (enclosing program.code p))) none bad

-- nothing offends in the code of a sound task
pub code_is_sound : (sensors words : ℕ) (task : TaskTree) → IsSound sensors words task → Code.IsSound (task_program sensors words task)
code_is_sound sensors words task sound p inside = by (cases_lt p (length code))
  where
    program : Program
    program = task_program sensors words task

    code : List Instr
    code = task_code task

    whole : Passes program 0 (0 + length code) []
    whole =
        let b : Bounds = record { sensors = sensors; words = words; outputs = task.outputs } in
        block_passes b program refl task.body 0 0 sound.sound_body (omega arith) (omega (arith, sound.few_repeats)) (stands_whole code)
        (length code) [] (stands_whole code) (omega arith) refl tt (omega arith)

    by : (p < length code) ⊎ (length code ≤ p) → IsFree program p
    by (inl before) = whole.free p (omega arith) (omega (arith, before))
    by (inr past) =
        let last : 0 + length code ≡ p = omega (arith, past, inside) in
        let clear = clear_grown (0 + length code) (0 + length code) (0 + length code) [] whole.arrivals (omega arith) whole.grown tt in
        end_free program p whole.arrivals (omega (arith, last)) (ap (trail_at code) (sym last) ∙ whole.empty) (clear_meets (0 + length code) (0 + length code) p whole.arrivals clear)
