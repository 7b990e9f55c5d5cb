-- The machine comes from one state to another.
use Rattle.std.proofs.Common.{◌≡◌, ℕ, zero, suc, ◌<◌, Bool, true, false, List, length, Option, Some, None, refl, ap, ◌∙◌, arith, eq-eqb, inl, inr}
use Rattle.std.specs.Prelude.{slice_get, ◌==◌, if◌then◌else◌, ◌⊎◌, ◌≢◌}
use Rattle.std.proofs.lemmas.Bool.Decides.{eqb_tells}
use Rattle.std.proofs.lemmas.Option.{slice_get_within}
use Rattle.sift_code.specs.declared.instr.Instr.{Instr}
use Rattle.sift_code.specs.Machine.{State, Inputs, Done, Unfinished, after, exec, effect, effect_of, step}

-- from s the machine comes to t: each run from t is the end of one from s
pub record Comes (code : List Instr) (inputs : Inputs) (s t : State) : Type 0 where
  pub by : (k : ℕ) → (j : ℕ) × (exec code inputs j s ≡ exec code inputs k t)

module _ (code : List Instr) (inputs : Inputs) where
  -- the machine comes from each state to itself
  pub comes_nowhere : (s : State) → Comes code inputs s s
  comes_nowhere s = record { by = λ k. (k, refl) }

  -- a machine that comes from one state to a second, and from there to a third, comes from the first to the third
  pub comes_on : (s t u : State) → Comes code inputs s t → Comes code inputs t u → Comes code inputs s u
  comes_on s t u a b = record { by = λ k. let y = b.by k in let x = a.by y.0 in (x.0, x.1 ∙ y.1) }

  goes : (s t : State) (i : Instr) → slice_get code s.place ≡ Some i → effect i code inputs s ≡ Some t → (k : ℕ) → exec code inputs (suc k) s ≡ exec code inputs k t
  goes s t i at does k = by (eqb_tells s.place (length code))
    where
      by : ((s.place == length code) ≡ true) × (s.place ≡ length code) ⊎ (((s.place == length code) ≡ false) × (s.place ≢ length code))
          → exec code inputs (suc k) s ≡ exec code inputs k t
      by (inl e) = let within : s.place < length code = slice_get_within code s.place i at in absurd (omega (arith, within, e.1))
      by (inr d) =
          ap (λ (b : Bool). if b then Done s.outs else after (exec code inputs k) (step code inputs s)) d.0
          ∙ ap (λ o. after (exec code inputs k) (effect_of o code inputs s)) at
          ∙ ap (after (exec code inputs k)) does

  -- one instruction
  pub comes_by : (s t : State) (i : Instr) → slice_get code s.place ≡ Some i → effect i code inputs s ≡ Some t → Comes code inputs s t
  comes_by s t i at does = record { by = λ k. (suc k, goes s t i at does k) }

  -- two ends of one run are the same
  pub same_end : (m n : ℕ) (s : State) (a b : List ℕ) → exec code inputs m s ≡ Done a → exec code inputs n s ≡ Done b → a ≡ b
  same_end zero zero s a b is are = cc
  same_end zero (suc n) s a b is are = over_now (s.place == length code) is are
    where
      over_now : (t : Bool) → (if t then Done s.outs else Unfinished) ≡ Done a → (if t then Done s.outs else after (exec code inputs n) (step code inputs s)) ≡ Done b → a ≡ b
      over_now true e f = cc
      over_now false e f = cc
  same_end (suc m) zero s a b is are = over_now (s.place == length code) is are
    where
      over_now : (t : Bool) → (if t then Done s.outs else after (exec code inputs m) (step code inputs s)) ≡ Done a → (if t then Done s.outs else Unfinished) ≡ Done b → a ≡ b
      over_now true e f = cc
      over_now false e f = cc
  same_end (suc m) (suc n) s a b is are = both (λ t e f. same_end m n t a b e f) (s.place == length code) (step code inputs s) is are
    where
      both : ((t : State) → exec code inputs m t ≡ Done a → exec code inputs n t ≡ Done b → a ≡ b) → (t : Bool) (o : Option State)
          → (if t then Done s.outs else after (exec code inputs m) o) ≡ Done a
          → (if t then Done s.outs else after (exec code inputs n) o) ≡ Done b → a ≡ b
      both ih true o e f = cc
      both ih false None e f = cc
      both ih false (Some t) e f = ih t e f

  -- a run that comes to the code's end is done
  pub done_there : (s t : State) (outs : List ℕ) → Comes code inputs s t → t.place ≡ length code → (m : ℕ) → exec code inputs m s ≡ Done outs → outs ≡ t.outs
  done_there s t outs c there m is =
      let end = c.by 0 in
      let b : (t.place == length code) ≡ true = eq-eqb t.place (length code) there in
      same_end m end.0 s outs t.outs is (end.1 ∙ ap (λ (b : Bool). if b then Done t.outs else Unfinished) b)
