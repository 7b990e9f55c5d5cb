-- The machine between two statements.
use Rattle.std.proofs.Common.{◌≡◌, ℕ, suc, ◌+◌, ◌<◌, Bool, true, false, List, [], ◌∷◌, ◌++◌, length, Some, None, ap, ◌∙◌, subst, arith, length-append}
use Rattle.std.specs.Prelude.{slice_set, nat_lt, if◌then◌else◌, ◌==◌}
use Rattle.std.proofs.lemmas.Bool.Decides.{nat_tests}
use Rattle.sift_code.specs.declared.instr.Instr.{Instr}
use Rattle.sift_code.specs.Machine as Machine
use Rattle.sift_code.specs.Machine.{Loop, Inputs, local_count, effect, stored, put_out, tested}
use Rattle.sift_code.specs.Refusal.{Limits}
use Rattle.sift_lang.specs.Tree.{Statement}
use Rattle.sift_lang.specs.Meaning.{Readings, State, scoped, after}
use Rattle.sift_lang.specs.Sound.{Bounds, locals_after}
use Rattle.sift_lang.specs.laws.States.{HasSizes, sizes-after}
use Rattle.sift_compile.proofs.Stands.{Stands, stands_next}
use Rattle.sift_compile.proofs.Locals.{BeginWith, begin-take}
use Rattle.sift_compile.proofs.Comes.{Comes, comes_on, comes_by}
use Rattle.sift_compile.proofs.Terms.{pushing, comes_to}

-- the machine between two statements: nothing is on the stack
abbrev pub at : ℕ → List Loop → List ℕ → List ℕ → Machine.State
at place loops locals outs = record { place = place; stack = []; loops = loops; locals = locals; outs = outs }

-- the machine comes to a place with the locals and output words of a state of the language
pub record Runs (code : List Instr) (inputs : Inputs) (s : Machine.State) (q : ℕ) (loops : List Loop) (t : State) : Type 0 where
  pub locals : List ℕ
  pub begins : BeginWith locals t.locals
  pub long : length locals ≡ local_count
  pub comes : Comes code inputs s (at q loops locals t.outs)

-- the machine's locals hold those of the language's state
pub record Holds (depth outputs : ℕ) (locals : List ℕ) (t : State) : Type 0 where
  pub begins : BeginWith locals t.locals
  pub long : length locals ≡ local_count
  pub sizes : HasSizes depth outputs t

-- what the code of a task may name
abbrev pub limits_of : Bounds → Limits
limits_of b = record { sensors = b.sensors; words = b.words; outputs = b.outputs }

below : (k n : ℕ) → k < n → nat_lt k n ≡ true
below k n h = grind (arith, nat_tests)

-- a Store to a local that is there moves the upper word into it and goes on to the next place
pub stored_there : (l : ℕ) (s : Machine.State) (w : ℕ) (stack : List ℕ) → l < length s.locals
    → stored l s (w ∷ stack) ≡ Some (record s { place = s.place + 1; stack = stack; locals = slice_set s.locals l w })
stored_there l s w stack within =
    ap (λ (b : Bool). if b then Some (let t : Machine.State = record s { place = s.place + 1; stack = stack; locals = slice_set s.locals l w } in t) else None) (below l (length s.locals) within)

-- an Out to an output word that is there moves the upper word into it and goes on to the next place
pub put_there : (j : ℕ) (s : Machine.State) (w : ℕ) (stack : List ℕ) → j < length s.outs
    → put_out j s (w ∷ stack) ≡ Some (record s { place = s.place + 1; stack = stack; outs = slice_set s.outs j w })
put_there j s w stack within =
    ap (λ (b : Bool). if b then Some (let t : Machine.State = record s { place = s.place + 1; stack = stack; outs = slice_set s.outs j w } in t) else None) (below j (length s.outs) within)

positive : (v : ℕ) → (suc v == 0) ≡ false
positive v = grind (arith, nat_tests)

-- a word that isn't 0 leads on to the next place
pub tested_on : (to v : ℕ) (s : Machine.State) (stack : List ℕ) → tested to s (suc v ∷ stack) ≡ Some (record s { place = s.place + 1; stack = stack })
tested_on to v s stack = ap (λ (b : Bool). Some (let t : Machine.State = record s { place = (if b then to else s.place + 1); stack = stack } in t)) (positive v)

-- the sizes behind a statement
pub sizes_behind : (statement : Statement) (r : Readings) (depth outputs : ℕ) (t : State) → HasSizes depth outputs t → HasSizes (locals_after depth statement) outputs (after statement r t)
sizes_behind statement r depth outputs t has =
    let h = sizes-after statement r t in
    record { locals_are = h.locals_are ∙ ap (λ n. locals_after n statement) has.locals_are; outs_are = h.outs_are ∙ has.outs_are }

module _ (code : List Instr) (inputs : Inputs) where
  -- a machine that comes to a place with the locals and output words of a state comes so to any equal place
  pub runs_to : (s : Machine.State) (q r : ℕ) (loops : List Loop) (t : State) → q ≡ r → Runs code inputs s q loops t → Runs code inputs s r loops t
  runs_to s q r loops t e run = subst (λ p. Runs code inputs s p loops t) e run

  -- a machine that comes to a state from which it runs to a place runs to that place
  pub runs_from : (s u : Machine.State) (q : ℕ) (loops : List Loop) (t : State) → Comes code inputs s u → Runs code inputs u q loops t → Runs code inputs s q loops t
  runs_from s u q loops t c run = record { locals = run.locals; begins = run.begins; long = run.long; comes = comes_on code inputs s u _ c run.comes }

  -- without the locals of a block
  pub runs_scoped : (s : Machine.State) (q : ℕ) (loops : List Loop) (body : State → State) (t : State) → Runs code inputs s q loops (body t) → Runs code inputs s q loops (scoped body t)
  runs_scoped s q loops body t run =
      record { locals = run.locals; begins = begin-take (length t.locals) run.locals (body t).locals run.begins; long = run.long; comes = run.comes }

  -- a word, and an instruction that takes it
  pub use_run : (p : ℕ) (loops : List Loop) (locals outs new_locals new_outs : List ℕ) (ct : List Instr) (i : Instr) (v : ℕ)
      → Stands code p (ct ++ i ∷ []) → Comes code inputs (at p loops locals outs) (pushing (at p loops locals outs) ct v)
      → effect i code inputs (pushing (at p loops locals outs) ct v) ≡ Some (at (p + length ct + 1) loops new_locals new_outs)
      → Comes code inputs (at p loops locals outs) (at (p + length (ct ++ i ∷ [])) loops new_locals new_outs)
  use_run p loops locals outs new_locals new_outs ct i v stands c does =
      let s = at p loops locals outs in
      let t = at (p + length ct + 1) loops new_locals new_outs in
      let whole : t.place ≡ p + length (ct ++ i ∷ []) = omega (arith, length-append ct (i ∷ [])) in
      comes_to code inputs s t _ whole (comes_on code inputs s (pushing s ct v) t c (comes_by code inputs (pushing s ct v) t i (stands_next code p ct [] i stands) does))
