-- Nothing offends in the code of a term.
use Rattle.std.proofs.Common.{◌≡◌, ℕ, ◌+◌, ◌<◌, ◌≤◌, List, [], ◌∷◌, ◌++◌, length, Some, refl, sym, ap, ◌∙◌, subst, arith, length-append}
use Rattle.std.specs.Prelude.{slice_get}
use Rattle.std.specs.List.{All}
use Rattle.std.proofs.lemmas.List.Elements.{All-nil}
use Rattle.sift_code.specs.declared.instr.Instr.{Instr}
use Rattle.sift_code.specs.declared.instr.Instr.TheVariants as instr
use Rattle.sift_code.specs.Machine.{local_count}
use Rattle.sift_code.specs.Heights.{Arrival, trail_at, brought_to, height_after, pushes}
use Rattle.sift_code.specs.Refusal.{Program, stack_limit}
use Rattle.sift_lang.specs.declared.tree.Op.{Op}
use Rattle.sift_lang.specs.Tree.{Term, number, local, sense, this_frame, last_frame, minus, binary, middle}
use Rattle.sift_lang.specs.Sound.{NamesWithin, need}
use Rattle.sift_compile.specs.Code.{operator_code, term_code}
use Rattle.sift_compile.proofs.Stands.{Stands, stands_front, stands_back, stands_on, stands_here}
use Rattle.sift_compile.proofs.Free.{trail, AreFree, free_one, free_both, calm_free, calm_trail}
use Rattle.sift_compile.proofs.Operators.{IsOperator, operator_of, needs_some, some_code}

-- nothing was brought to the places behind one, up to another
abbrev pub IsQuiet : ℕ → ℕ → List Arrival → Type 0
IsQuiet p q brought = (x : ℕ) → p < x → x ≤ q → brought_to x brought ≡ []

-- what meets at a place is this height
abbrev pub Meets : ℕ → ℕ → List Arrival → Type 0
Meets p height brought = All (λ x. x ≡ height) (brought_to p brought)

-- where nothing was brought to a place, no height that meets there is another than this
pub quiet_meets : (p height : ℕ) (brought : List Arrival) → brought_to p brought ≡ [] → Meets p height brought
quiet_meets p height brought e = subst (λ l. All (λ x. x ≡ height) l) (sym e) (All-nil (λ x. x ≡ height))

pub quiet_part : (p q r s : ℕ) (brought : List Arrival) → p ≤ r → s ≤ q → IsQuiet p q brought → IsQuiet r s brought
quiet_part p q r s brought a b quiet x from to = quiet x (omega arith) (omega arith)

-- nothing offends from one place up to another, and the stack is one word higher there
pub record Pushes (program : Program) (p q height : ℕ) (brought : List Arrival) : Type 0 where
  pub free : AreFree program p q
  pub pushed : trail_at program.code q ≡ trail (height + 1) brought

module _ (program : Program) where
  -- an operator, where its operands are on the stack
  operator_pushes : (i : Instr) (popped p height : ℕ) (brought : List Arrival) → IsOperator program.limits i popped
      → slice_get program.code p ≡ Some i → trail_at program.code p ≡ trail (height + popped) brought → Meets p (height + popped) brought
      → height + 1 ≤ stack_limit → Pushes program p (p + 1) height brought
  operator_pushes i popped p height brought is at here meets low =
      let after : height_after i (height + popped) ≡ height + 1 = omega (arith, is.pops_are, is.pushes_one) in
      record {
        free = free_one program p (calm_free program p i (height + popped) brought at here is.calm meets (omega (arith, is.pops_are)) (omega (arith, after)) is.named);
        pushed = calm_trail program p i (height + popped) brought at here is.calm ∙ ap (λ h. trail h brought) after;
      }

  -- what a term's code does, wherever it stands and whatever the height
  abbrev pub AllPush : Term → Type 0
  AllPush t =
      (p height : ℕ) (brought : List Arrival) → Stands program.code p (term_code t) → trail_at program.code p ≡ trail height brought
      → Meets p height brought → IsQuiet p (p + length (term_code t)) brought → height + need t ≤ stack_limit
      → Pushes program p (p + length (term_code t)) height brought

  -- the place at the end, under another name
  pushes_to : (p q r h : ℕ) (brought : List Arrival) → q ≡ r → Pushes program p q h brought → Pushes program p r h brought
  pushes_to p q r h brought e pushes = subst (λ x. Pushes program p x h brought) e pushes

  -- a term that is one instruction
  one_pushes : (i : Instr) (p height : ℕ) (brought : List Arrival) → IsOperator program.limits i 0 → Stands program.code p (i ∷ [])
      → trail_at program.code p ≡ trail height brought → Meets p height brought → height + 1 ≤ stack_limit
      → Pushes program p (p + 1) height brought
  one_pushes i p height brought is stands here meets low =
      let e : height ≡ height + 0 = omega arith in
      operator_pushes i 0 p height brought is (stands_here program.code p i [] stands) (here ∙ ap (λ h. trail h brought) e) (subst (λ h. Meets p h brought) e meets) low

  minus_pushes : (t : Term) → AllPush t → AllPush (minus t)
  minus_pushes t ih p height brought stands here meets quiet low =
      let ct = term_code t in
      let whole : p + 1 + length ct + 1 ≡ p + length (term_code (minus t)) = omega (arith, length-append ct (instr.Sub ∷ [])) in
      let zero = one_pushes (instr.Push 0) p height brought (record { calm = tt; pops_are = refl; pushes_one = refl; named = λ bad. bad })
      (stands_front program.code p (instr.Push 0 ∷ []) _ stands) here meets (omega (arith, low, needs_some t)) in
      let rest = stands_on program.code p (instr.Push 0) _ stands in
      let first = quiet_meets (p + 1) (height + 1) brought (quiet (p + 1) (omega arith) (omega (arith, whole))) in
      let part = ih (p + 1) (height + 1) brought (stands_front program.code (p + 1) ct _ rest) zero.pushed first
      (quiet_part p _ (p + 1) (p + 1 + length ct) brought (omega arith) (omega (arith, whole)) quiet) (omega (arith, low)) in
      let q = p + 1 + length ct in
      let e : height + 1 + 1 ≡ height + 2 = omega arith in
      let last = operator_pushes instr.Sub 2 q height brought (record { calm = tt; pops_are = refl; pushes_one = refl; named = λ bad. bad })
      (stands_here program.code q instr.Sub [] (stands_back program.code (p + 1) ct _ rest)) (part.pushed ∙ ap (λ h. trail h brought) e)
      (quiet_meets q (height + 2) brought (quiet q (omega arith) (omega (arith, whole)))) (omega (arith, low)) in
      pushes_to p (q + 1) _ height brought whole (record { free = free_both program p (p + 1) (q + 1) zero.free (free_both program (p + 1) q (q + 1) part.free last.free); pushed = last.pushed })

  binary_pushes : (o : Op) (t u : Term) → AllPush t → AllPush u → AllPush (binary o t u)
  binary_pushes o t u it iu p height brought stands here meets quiet low =
      let ct = term_code t in
      let cu = term_code u in
      let q = p + length ct in
      let r = q + length cu in
      let whole : r + 1 ≡ p + length (term_code (binary o t u)) = omega (arith, length-append ct (cu ++ operator_code o ∷ []), length-append cu (operator_code o ∷ [])) in
      let rest = stands_back program.code p ct _ stands in
      let first = it p height brought (stands_front program.code p ct _ stands) here meets (quiet_part p _ p q brought (omega arith) (omega (arith, whole)) quiet) (omega (arith, low)) in
      let second = iu q (height + 1) brought (stands_front program.code q cu _ rest) first.pushed
      (quiet_meets q (height + 1) brought (quiet q (omega (arith, some_code t)) (omega (arith, whole))))
      (quiet_part p _ q r brought (omega arith) (omega (arith, whole)) quiet) (omega (arith, low)) in
      let e : height + 1 + 1 ≡ height + 2 = omega arith in
      let last = operator_pushes (operator_code o) 2 r height brought (operator_of program.limits o)
      (stands_here program.code r (operator_code o) [] (stands_back program.code q cu _ rest)) (second.pushed
      ∙ ap (λ h. trail h brought) e) (quiet_meets r (height + 2) brought (quiet r (omega (arith, some_code t)) (omega (arith, whole))))
      (omega (arith, low, needs_some u)) in
      pushes_to p (r + 1) _ height brought whole (record { free = free_both program p q (r + 1) first.free (free_both program q r (r + 1) second.free last.free); pushed = last.pushed })

  middle_pushes : (t u v : Term) → AllPush t → AllPush u → AllPush v → AllPush (middle t u v)
  middle_pushes t u v it iu iv p height brought stands here meets quiet low =
      let ct = term_code t in
      let cu = term_code u in
      let cv = term_code v in
      let q = p + length ct in
      let r = q + length cu in
      let s = r + length cv in
      let whole : s + 1 ≡ p + length (term_code (middle t u v)) =
      omega (
        arith,
        length-append ct (cu ++ (cv ++ instr.Mid ∷ [])),
        length-append cu (cv ++ instr.Mid ∷ []),
        length-append cv (instr.Mid ∷ []),
      ) in
      let rest = stands_back program.code p ct _ stands in
      let end = stands_back program.code q cu _ rest in
      let first = it p height brought (stands_front program.code p ct _ stands) here meets (quiet_part p _ p q brought (omega arith) (omega (arith, whole)) quiet) (omega (arith, low)) in
      let second = iu q (height + 1) brought (stands_front program.code q cu _ rest) first.pushed
      (quiet_meets q (height + 1) brought (quiet q (omega (arith, some_code t)) (omega (arith, whole))))
      (quiet_part p _ q r brought (omega arith) (omega (arith, whole)) quiet) (omega (arith, low)) in
      let third = iv r (height + 1 + 1) brought (stands_front program.code r cv _ end) second.pushed
      (quiet_meets r (height + 1 + 1) brought (quiet r (omega (arith, some_code t)) (omega (arith, whole))))
      (quiet_part p _ r s brought (omega arith) (omega (arith, whole)) quiet) (omega (arith, low)) in
      let e : height + 1 + 1 + 1 ≡ height + 3 = omega arith in
      let last = operator_pushes instr.Mid 3 s height brought (record { calm = tt; pops_are = refl; pushes_one = refl; named = λ bad. bad })
      (stands_here program.code s instr.Mid [] (stands_back program.code r cv _ end)) (third.pushed ∙ ap (λ h. trail h brought) e)
      (quiet_meets s (height + 3) brought (quiet s (omega (arith, some_code t)) (omega (arith, whole))))
      (omega (arith, low, needs_some v)) in
      pushes_to p (s + 1) _ height brought whole
      (record {
        free = free_both program p q (s + 1) first.free
            (free_both program q r (s + 1) second.free (free_both program r s (s + 1) third.free last.free));
        pushed = last.pushed;
      })

  -- nothing offends in the code of a term that names what is there, and needs no more than may be
  pub term_pushes : (t : Term) → NamesWithin program.limits.sensors program.limits.words local_count t → AllPush t
  term_pushes (number n) names =
      λ p height brought stands here meets quiet low. one_pushes (instr.Push n) p height brought (record { calm = tt; pops_are = refl; pushes_one = refl; named = λ bad. bad }) stands here meets low
  term_pushes (local l) names =
      λ p height brought stands here meets quiet low. one_pushes (instr.Load l) p height brought
      (record { calm = tt; pops_are = refl; pushes_one = refl; named = λ bad. omega (arith, bad, names) }) stands here meets low
  term_pushes (sense x) names =
      λ p height brought stands here meets quiet low. one_pushes (instr.Sense x) p height brought
      (record { calm = tt; pops_are = refl; pushes_one = refl; named = λ bad. omega (arith, bad, names) }) stands here meets low
  term_pushes (this_frame w) names =
      λ p height brought stands here meets quiet low. one_pushes (instr.Now w) p height brought
      (record { calm = tt; pops_are = refl; pushes_one = refl; named = λ bad. omega (arith, bad, names) }) stands here meets low
  term_pushes (last_frame w) names =
      λ p height brought stands here meets quiet low. one_pushes (instr.Last w) p height brought
      (record { calm = tt; pops_are = refl; pushes_one = refl; named = λ bad. omega (arith, bad, names) }) stands here meets low
  term_pushes (minus t) names = minus_pushes t (term_pushes t names)
  term_pushes (binary o t u) names = binary_pushes o t u (term_pushes t names.0) (term_pushes u names.1)
  term_pushes (middle t u v) names = middle_pushes t u v (term_pushes t names.0) (term_pushes u names.1) (term_pushes v names.2)
