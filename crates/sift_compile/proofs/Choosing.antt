-- The code of an `if` takes the first block where the word isn't 0.
use Rattle.std.proofs.Common.{◌≡◌, ℕ, zero, suc, ◌+◌, List, [], ◌∷◌, ◌++◌, length, refl, arith, length-append}
use Rattle.sift_code.specs.declared.instr.Instr.{Instr}
use Rattle.sift_code.specs.declared.instr.Instr.TheVariants.{JumpZ, Jump}
use Rattle.sift_code.specs.Machine.{Loop, Inputs, local_count}
use Rattle.sift_lang.specs.Meaning.{State, chosen}
use Rattle.sift_compile.specs.Code.{behind, choose_code, choose_else_code}
use Rattle.sift_compile.proofs.Stands.{Stands, stands_next, stands_behind}
use Rattle.sift_compile.proofs.Locals.{BeginWith}
use Rattle.sift_compile.proofs.Comes.{Comes, comes_on, comes_by}
use Rattle.sift_compile.proofs.Terms.{pushing}
use Rattle.sift_compile.proofs.Between.{at, Runs, tested_on, runs_to, runs_from}

module _ (code : List Instr) (inputs : Inputs) where
  module _ (p : ℕ) (loops : List Loop) (locals : List ℕ) (t : State) (ct first : List Instr) (u : State) where
    -- an `if` runs to its end with what its block leaves, or with what was there where the word of its test is 0
    pub choose_run : (v : ℕ) → BeginWith locals t.locals → length locals ≡ local_count → Stands code p (choose_code p ct first)
        → Comes code inputs (at p loops locals t.outs) (pushing (at p loops locals t.outs) ct v)
        → Runs code inputs (at (behind p ct) loops locals t.outs) (behind p ct + length first) loops u
        → Runs code inputs (at p loops locals t.outs) (p + length (choose_code p ct first)) loops (chosen v u t)
    choose_run zero begins long stands c run =
        let s = at p loops locals t.outs in
        let there = at (behind p ct + length first) loops locals t.outs in
        let whole : behind p ct + length first ≡ p + length (choose_code p ct first) = omega (arith, length-append ct (JumpZ (behind p ct + length first) ∷ first)) in
        let jump = comes_by code inputs (pushing s ct 0) there (JumpZ (behind p ct + length first)) (stands_next code p ct first _ stands) refl in
        runs_to code inputs s _ _ loops t whole (record { locals = locals; begins = begins; long = long; comes = comes_on code inputs s (pushing s ct 0) there c jump })
    choose_run (suc v) begins long stands c run =
        let s = at p loops locals t.outs in
        let there = at (behind p ct) loops locals t.outs in
        let whole : behind p ct + length first ≡ p + length (choose_code p ct first) = omega (arith, length-append ct (JumpZ (behind p ct + length first) ∷ first)) in
        let on = comes_by code inputs (pushing s ct (suc v)) there (JumpZ (behind p ct + length first))
        (stands_next code p ct first _ stands) (tested_on (behind p ct + length first) v (pushing s ct (suc v)) []) in
        runs_to code inputs s _ _ loops u whole (runs_from code inputs s there _ loops u (comes_on code inputs s (pushing s ct (suc v)) there c on) run)

    module _ (second : List Instr) (w : State) where
      -- an `if` with an `else` runs to its end with what its first block leaves, or its second where its word is 0
      pub choose_else_run : (v : ℕ) → Stands code p (choose_else_code p ct first second)
          → Comes code inputs (at p loops locals t.outs) (pushing (at p loops locals t.outs) ct v)
          → Runs code inputs (at (behind p ct) loops locals t.outs) (behind p ct + length first) loops u
          → Runs code inputs (at (behind (behind p ct) first) loops locals t.outs) (behind (behind p ct) first + length second) loops w
          → Runs code inputs (at p loops locals t.outs) (p + length (choose_else_code p ct first second)) loops (chosen v u w)
      choose_else_run zero stands c run_first run_second =
          let s = at p loops locals t.outs in
          let to = behind (behind p ct) first in
          let there = at to loops locals t.outs in
          let whole : to + length second ≡ p + length (choose_else_code p ct first second) =
          omega (
            arith,
            length-append ct (JumpZ to ∷ (first ++ Jump (to + length second) ∷ second)),
            length-append first (Jump (to + length second) ∷ second),
          ) in
          let jump = comes_by code inputs (pushing s ct 0) there (JumpZ to) (stands_next code p ct _ _ stands) refl in
          runs_to code inputs s _ _ loops w whole (runs_from code inputs s there _ loops w (comes_on code inputs s (pushing s ct 0) there c jump) run_second)
      choose_else_run (suc v) stands c run_first run_second =
          let s = at p loops locals t.outs in
          let to = behind (behind p ct) first in
          let there = at (behind p ct) loops locals t.outs in
          let after_first = at (behind p ct + length first) loops run_first.locals u.outs in
          let last = at (to + length second) loops run_first.locals u.outs in
          let whole : to + length second ≡ p + length (choose_else_code p ct first second) =
          omega (
            arith,
            length-append ct (JumpZ to ∷ (first ++ Jump (to + length second) ∷ second)),
            length-append first (Jump (to + length second) ∷ second),
          ) in
          let on = comes_by code inputs (pushing s ct (suc v)) there (JumpZ to) (stands_next code p ct _ _ stands) (tested_on to v (pushing s ct (suc v)) []) in
          let jump = comes_by code inputs after_first last (Jump (to + length second)) (stands_next code (behind p ct) first second _ (stands_behind code p ct _ _ stands)) refl in
          let past : Runs code inputs there (to + length second) loops u =
          record {
            locals = run_first.locals;
            begins = run_first.begins;
            long = run_first.long;
            comes = comes_on code inputs there after_first last run_first.comes jump;
          } in
          runs_to code inputs s _ _ loops u whole (runs_from code inputs s there _ loops u (comes_on code inputs s (pushing s ct (suc v)) there c on) past)
