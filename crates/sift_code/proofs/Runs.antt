-- A run of sound code on the words of a span, from its start to its end.
use Rattle.std.proofs.Common.{◌≡◌, ℕ, zero, suc, ◌<◌, Bool, true, false, List, length, replicate, refl, sym, ap, ◌∙◌, subst, arith, inl, inr, Some}
use Rattle.std.specs.Prelude.{if◌then◌else◌, ◌==◌}
use Rattle.std.proofs.lemmas.Bool.Decides.{eqb_tells}
use Rattle.sift_code.specs.declared.machine.Machine.{Machine}
use Rattle.sift_code.specs.Machine.{State, Inputs, start_state, step, after, exec, Done, Unfinished}
use Rattle.sift_code.specs.Bound.{bound_of}
use Rattle.sift_code.specs.Refusal.{Program, IsSound}
use Rattle.sift_code.specs.Ends.{Fits, RunsTo}
use Rattle.sift_code.specs.Work.{Agrees, Stands, Steps, locals_of, state_of}
use Rattle.sift_code.proofs.Progress.{left_of}
use Rattle.sift_code.proofs.Leading.{step_leads}
use Rattle.sift_code.proofs.lemmas.Ending.{start_agrees, sound_ends}
use Rattle.sift_code.proofs.Standing.{machine}

-- a run that goes on from here as a run from the start does
abbrev pub GoesOn : Program → Inputs → State → Type 0
GoesOn program inputs s =
    (n : ℕ) × (exec program.code inputs n s ≡ exec program.code inputs (bound_of program.code) (start_state program.limits.outputs))

-- where all is 0 a run starts
pub started_state : (program : Program) (ws outs : List ℕ) → locals_of ws ≡ replicate 32 0 → outs ≡ replicate program.limits.outputs 0
    → state_of program.code (machine 0 0 0) ws outs ≡ start_state program.limits.outputs
started_state program ws outs locals puts = rw (locals, puts) refl

module _ (program : Program) (sound : IsSound program) (inputs : Inputs) (fits : Fits inputs program.limits) where
  -- at place 0, with locals and output words of 0, a run stands as the code says, and goes on as one from the start
  pub starts : (ws outs : List ℕ) → locals_of ws ≡ replicate 32 0 → outs ≡ replicate program.limits.outputs 0
      → Stands program (machine 0 0 0) ws outs × GoesOn program inputs (state_of program.code (machine 0 0 0) ws outs)
  starts ws outs locals puts =
      let same = started_state program ws outs locals puts in (
        record {
          agrees = subst (Agrees program) (sym same) (start_agrees program sound inputs fits);
          depth = refl;
        },
        (bound_of program.code, ap (exec program.code inputs (bound_of program.code)) same),
      )

  -- one step on, the run stands as the code says, and less is left to do
  pub stands_on : (m n : Machine) (ws vs outs puts : List ℕ) → m.place < length program.code → Stands program m ws outs
      → Steps program inputs m ws outs n vs puts
      → Stands program n vs puts × (left_of program (state_of program.code n vs puts) < left_of program (state_of program.code m ws outs))
  stands_on m n ws vs outs puts within stands steps =
      let leads = step_leads program sound inputs fits (state_of program.code m ws outs) within stands.agrees in
      let both : Some leads.state ≡ Some (state_of program.code n vs puts) = sym leads.is ∙ steps.stepped in
      let same : leads.state ≡ state_of program.code n vs puts = cc in
      (record { agrees = subst (Agrees program) same leads.agrees; depth = steps.depth }, subst (λ s. left_of program s < left_of program (state_of program.code m ws outs)) same leads.less)

  -- one step on, the run goes on so
  pub goes_on : (s t : State) → s.place < length program.code → step program.code inputs s ≡ Some t → GoesOn program inputs s → GoesOn program inputs t
  goes_on s t within is g = by g.0 g.1
    where
      not_yet : (s.place == length program.code) ≡ false
      not_yet = elim (eqb_tells s.place (length program.code)) [ inl e ↦ absurd (omega (arith, e.1)) | inr d ↦ d.0 ]

      by : (n : ℕ) → exec program.code inputs n s ≡ exec program.code inputs (bound_of program.code) (start_state program.limits.outputs) → GoesOn program inputs t
      by zero e =
          let ends = sound_ends program sound inputs fits in
          let open_yet : exec program.code inputs zero s ≡ Unfinished = ap (λ (b : Bool). if b then Done s.outs else Unfinished) not_yet in
          let over : Unfinished ≡ Done ends.0 = sym open_yet ∙ (e ∙ ends.1) in
          cc
      by (suc n) e =
          let one : exec program.code inputs (suc n) s ≡ exec program.code inputs n t =
          ap (λ (b : Bool). if b then Done s.outs else after (exec program.code inputs n) (step program.code inputs s)) not_yet
          ∙ ap (after (exec program.code inputs n)) is in
          (n, sym one ∙ e)

  -- at the code's length the run is over
  pub over : (s : State) → s.place ≡ length program.code → GoesOn program inputs s → RunsTo program inputs s.outs
  over s there g = sym g.1 ∙ by g.0
    where
      yet : (s.place == length program.code) ≡ true
      yet = elim (eqb_tells s.place (length program.code)) [ inl e ↦ e.0 | inr d ↦ absurd (d.1 there) ]

      by : (n : ℕ) → exec program.code inputs n s ≡ Done s.outs
      by zero = ap (λ (b : Bool). if b then Done s.outs else Unfinished) yet
      by (suc n) = ap (λ (b : Bool). if b then Done s.outs else after (exec program.code inputs n) (step program.code inputs s)) yet
