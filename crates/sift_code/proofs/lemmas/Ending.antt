-- Sound code comes to its end within its bound.
use Rattle.std.proofs.Common.{◌≡◌, ℕ, zero, suc, ◌+◌, ◌*◌, ◌<◌, ◌≤◌, Bool, true, false, List, [], ◌∷◌, length, drop, refl, ap, ◌∙◌, arith, inl, inr}
use Rattle.std.specs.Prelude.{if◌then◌else◌, ◌==◌, ◌⊎◌, ◌≢◌}
use Rattle.std.proofs.lemmas.Bool.Decides.{eqb_tells}
use Rattle.std.proofs.lemmas.List.{length-replicate}
use Rattle.sift_code.specs.declared.instr.Instr.{Instr}
use Rattle.sift_code.specs.declared.instr.Instr.TheVariants.{Begin, End}
use Rattle.sift_code.specs.Machine.{State, Inputs, local_count, start_state, step, after, exec, Outcome, Done, Unfinished}
use Rattle.sift_code.specs.Bound.{product, sum_within, bound_of}
use Rattle.sift_code.specs.Refusal.{Program, IsSound}
use Rattle.sift_code.specs.Ends.{Fits, RunsTo, Ends}
use Rattle.sift_code.specs.Work.{Agrees}
use Rattle.sift_code.proofs.Costs.{head0, tail0, cost_step, costs, costs_here}
use Rattle.sift_code.proofs.Remaining.{remaining, some_left}
use Rattle.sift_code.proofs.Sound.{at_place}
use Rattle.sift_code.proofs.Progress.{left_of}
use Rattle.sift_code.proofs.Leading.{step_leads}

-- ---- what is left to do is at most the bound

-- the costs, each by the product of the rounds of its loops
abbrev weighted : List ℕ → List ℕ → ℕ
weighted [] cs = head0 cs
weighted (k ∷ ks) cs = product (k ∷ ks) * head0 cs + weighted ks (tail0 cs)

shared : (p k a b : ℕ) → p * (1 + k * a + b) ≡ p + (k * p * a + p * b)
shared p k a b = grind arith

weighted_step : (i : Instr) (rounds cs : List ℕ) (rest : List Instr) → ((rs : List ℕ) → weighted rs cs ≤ sum_within rs rest)
    → weighted rounds (cost_step i cs) ≤ sum_within rounds (i ∷ rest)
weighted_step (Begin k) [] cs rest ih = omega (arith, ih (k ∷ []), shared 1 k (head0 cs) (head0 (tail0 cs)))
weighted_step (Begin k) (r ∷ rs) cs rest ih = omega (arith, ih (k ∷ r ∷ rs), shared (product (r ∷ rs)) k (head0 cs) (head0 (tail0 cs)))
weighted_step End [] cs rest ih = omega arith
weighted_step End (r ∷ rs) cs rest ih = omega (arith, ih rs)
weighted_step _ [] cs rest ih = omega (arith, ih [])
weighted_step _ (r ∷ rs) cs rest ih = omega (arith, ih (r ∷ rs), shared (product (r ∷ rs)) 0 0 (head0 cs))

weighted_none : (ks : List ℕ) → weighted ks [] ≡ 0
weighted_none [] = refl
weighted_none (k ∷ ks) = omega (arith, weighted_none ks)

weighted_le : (rounds : List ℕ) (code : List Instr) → weighted rounds (costs code) ≤ sum_within rounds code
weighted_le [] [] = omega arith
weighted_le (k ∷ ks) [] = omega (arith, weighted_none ks)
weighted_le rounds (i ∷ rest) = weighted_step i rounds (costs rest) rest (λ rs. weighted_le rs rest)

-- ---- runs

-- a run is over with some output words
abbrev Comes : Outcome → Type 0
Comes o = (outs : List ℕ) × (o ≡ Done outs)

module _ (program : Program) (sound : IsSound program) (inputs : Inputs) (fits : Fits inputs program.limits) where
  more_to_do : (s : State) → s.place < length program.code → 1 ≤ left_of program s
  more_to_do s within =
      let at = at_place program.code s.place within in
      omega (arith, ap (λ cs. remaining program.code cs s.loops) (costs_here program.code s.place at.0 at.1), some_left program.code at.0 (costs (drop (s.place + 1) program.code)) s.loops)

  -- a state that agrees comes to the end in what is left to do
  comes : (n : ℕ) (s : State) → Agrees program s → left_of program s ≤ n → Comes (exec program.code inputs n s)
  comes zero s a le = by (eqb_tells s.place (length program.code))
    where
      by : ((s.place == length program.code) ≡ true) × (s.place ≡ length program.code)
          ⊎ (((s.place == length program.code) ≡ false) × (s.place ≢ length program.code)) → Comes (exec program.code inputs zero s)
      by (inl e) = (s.outs, ap (λ (t : Bool). if t then Done s.outs else Unfinished) e.0)
      by (inr d) = absurd (omega (arith, a.within, more_to_do s (omega (arith, a.within, d.1))))
  comes (suc n) s a le = by (λ t b l. comes n t b l) (eqb_tells s.place (length program.code))
    where
      by : ((t : State) → Agrees program t → left_of program t ≤ n → Comes (exec program.code inputs n t))
          → ((s.place == length program.code) ≡ true) × (s.place ≡ length program.code)
          ⊎ (((s.place == length program.code) ≡ false) × (s.place ≢ length program.code)) → Comes (exec program.code inputs (suc n) s)
      by go_on (inl e) = (s.outs, ap (λ (t : Bool). if t then Done s.outs else after (exec program.code inputs n) (step program.code inputs s)) e.0)
      by go_on (inr d) =
          let go = step_leads program sound inputs fits s (omega (arith, a.within, d.1)) a in
          let rest = go_on go.state go.agrees (omega (arith, go.less)) in
          (rest.0, ap (λ (t : Bool). if t then Done s.outs else after (exec program.code inputs n) (step program.code inputs s)) d.0 ∙ (ap (after (exec program.code inputs n)) go.is ∙ rest.1))

  -- the start agrees
  pub start_agrees : Agrees program (start_state program.limits.outputs)
  start_agrees = record { within = omega arith; height = refl; loops = refl; going = tt; locals = length-replicate {A = ℕ} local_count 0; outs = length-replicate {A = ℕ} program.limits.outputs 0 }

  runs_to_end : (outs : List ℕ) × RunsTo program inputs outs
  runs_to_end = comes (bound_of program.code) (start_state program.limits.outputs) start_agrees (weighted_le [] program.code)

-- sound code comes to its end
pub sound_ends : (program : Program) → IsSound program → Ends program
sound_ends program sound inputs fits = runs_to_end program sound inputs fits
