-- The code of a `repeat` makes as many rounds.
use Rattle.std.proofs.Common.{◌≡◌, ℕ, zero, suc, ◌+◌, List, [], ◌∷◌, ◌++◌, length, Some, refl, sym, ap, subst, arith, length-append}
use Rattle.std.specs.Fn.{iterate}
use Rattle.std.specs.Prelude.{slice_get}
use Rattle.sift_code.specs.declared.instr.Instr.{Instr}
use Rattle.sift_code.specs.declared.instr.Instr.TheVariants.{Begin, End}
use Rattle.sift_code.specs.Machine.{Loop, Inputs, skipped}
use Rattle.sift_lang.specs.Meaning.{State}
use Rattle.sift_lang.specs.laws.States.{HasSizes}
use Rattle.sift_compile.proofs.Stands.{Stands, stands_on, stands_here}
use Rattle.sift_compile.proofs.Comes.{comes_on, comes_by}
use Rattle.sift_compile.proofs.Matched.{IsMatched, closes}
use Rattle.sift_compile.proofs.Between.{at, Runs, Holds, runs_to, runs_from}

module _ (code : List Instr) (inputs : Inputs) where
  module _ (depth outputs p q : ℕ) (loops : List Loop) (round : State → State) (keeps : (t : State) → HasSizes depth outputs t
      → HasSizes depth outputs (round t)) (ends : slice_get code q ≡ Some End) (runs : (left : ℕ) (locals : List ℕ) (t : State)
      → Holds depth outputs locals t
      → Runs code inputs (at p (record { start = p; left = left } ∷ loops) locals t.outs) q (record { start = p; left = left } ∷ loops)
      (round t)) where
    -- so many rounds more than one
    rounds_run : (n : ℕ) (locals : List ℕ) (t : State) → Holds depth outputs locals t
        → Runs code inputs (at p (record { start = p; left = suc n } ∷ loops) locals t.outs) (q + 1) loops (iterate round n (round t))
    rounds_run zero locals t holds =
        let run = runs 1 locals t holds in
        let here = at q (record { start = p; left = 1 } ∷ loops) run.locals (round t).outs in
        let there = at (q + 1) loops run.locals (round t).outs in
        record { locals = run.locals; begins = run.begins; long = run.long; comes = comes_on code inputs _ here there run.comes (comes_by code inputs here there End ends refl) }
    rounds_run (suc n) locals t holds =
        let run = runs (suc (suc n)) locals t holds in
        let here = at q (record { start = p; left = suc (suc n) } ∷ loops) run.locals (round t).outs in
        let there = at p (record { start = p; left = suc n } ∷ loops) run.locals (round t).outs in
        let more = rounds_run n run.locals (round t) (record { begins = run.begins; long = run.long; sizes = keeps t holds.sizes }) in
        runs_from code inputs _ there _ loops _ (comes_on code inputs _ here there run.comes (comes_by code inputs here there End ends refl)) more

    -- a `repeat` runs to its end with what its rounds make of a state, where its body runs as one round
    pub repeat_run : (start : ℕ) (body : List Instr) (k : ℕ) (locals : List ℕ) (t : State) → start + 1 ≡ p → p + length body ≡ q
        → IsMatched body → Stands code start (Begin k ∷ (body ++ End ∷ [])) → Holds depth outputs locals t
        → Runs code inputs (at start loops locals t.outs) (start + length (Begin k ∷ (body ++ End ∷ []))) loops (iterate round k t)
    repeat_run start body zero locals t e f matched stands holds =
        let s = at start loops locals t.outs in
        let there = at (start + 1 + (length body + 1)) loops locals t.outs in
        let whole : start + 1 + (length body + 1) ≡ start + length (Begin 0 ∷ (body ++ End ∷ [])) = omega (arith, length-append body (End ∷ [])) in
        let skip = comes_by code inputs s there (Begin 0) (stands_here code start (Begin 0) _ stands)
        (ap (skipped s) (closes code (start + 1) body matched (stands_on code start (Begin 0) _ stands))) in
        runs_to code inputs s _ _ loops t whole (record { locals = locals; begins = holds.begins; long = holds.long; comes = skip })
    repeat_run start body (suc n) locals t e f matched stands holds =
        let s = at start loops locals t.outs in
        let there = at (start + 1) (record { start = start + 1; left = suc n } ∷ loops) locals t.outs in
        let whole : q + 1 ≡ start + length (Begin (suc n) ∷ (body ++ End ∷ [])) = omega (arith, length-append body (End ∷ [])) in
        let enter = comes_by code inputs s there (Begin (suc n)) (stands_here code start (Begin (suc n)) _ stands) refl in
        let rounds = subst (λ x. Runs code inputs (at x (record { start = x; left = suc n } ∷ loops) locals t.outs) (q + 1) loops (iterate round n (round t)))
        (sym e) (rounds_run n locals t holds) in
        runs_to code inputs s _ _ loops _ whole (runs_from code inputs s there _ loops _ enter rounds)
