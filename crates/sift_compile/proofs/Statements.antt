-- The code of statements does what they mean.
use Rattle.std.proofs.Common.{ℕ, ◌+◌, ◌<◌, List, [], ◌∷◌, ◌++◌, length, refl, sym, ◌∙◌, subst, arith, length-append, length-set}
use Rattle.std.specs.Prelude.{slice_set}
use Rattle.sift_code.specs.declared.instr.Instr.{Instr}
use Rattle.sift_code.specs.declared.instr.Instr.TheVariants.{Store, Out, Begin, End}
use Rattle.sift_code.specs.Machine as Machine
use Rattle.sift_code.specs.Machine.{Loop, Inputs}
use Rattle.sift_code.specs.Ends.{Fits}
use Rattle.sift_lang.specs.Tree.{Term, Statement, bind, assign, output, choose, choose_else, repeat, Block, end, step}
use Rattle.sift_lang.specs.Meaning.{State, value_of, scoped, after, after_all}
use Rattle.sift_lang.specs.Sound.{Bounds, NamesWithin, IsSoundTerm, IsSoundStatement, IsSoundBlock, locals_after}
use Rattle.sift_lang.specs.laws.States.{HasSizes, sizes-round, adds-after_all}
use Rattle.sift_compile.specs.Code.{term_code, behind, statement_code, block_code}
use Rattle.sift_compile.proofs.Stands.{Stands, stands_front, stands_back, stands_on, stands_next, stands_behind}
use Rattle.sift_compile.proofs.Locals.{BeginWith, begin-set, begin-more, begin-long}
use Rattle.sift_compile.proofs.Comes.{Comes, comes_nowhere}
use Rattle.sift_compile.proofs.Matched.{matched_block}
use Rattle.sift_compile.proofs.Terms.{pushing, readings_from, term_runs}
use Rattle.sift_compile.proofs.Between.{at, Runs, Holds, limits_of, stored_there, put_there, sizes_behind, runs_to, runs_from, runs_scoped, use_run}
use Rattle.sift_compile.proofs.Choosing.{choose_run, choose_else_run}
use Rattle.sift_compile.proofs.Repeating.{repeat_run}

module _ (code : List Instr) (inputs : Inputs) where
  module _ (b : Bounds) (fits : Fits inputs (limits_of b)) where
    term_run : (x : Term) (p depth : ℕ) (loops : List Loop) (locals : List ℕ) (t : State) → IsSoundTerm b depth x
        → Holds depth b.outputs locals t → Stands code p (term_code x)
        → Comes code inputs (at p loops locals t.outs)
        (pushing (at p loops locals t.outs) (term_code x) (value_of x (readings_from inputs) t.locals))
    term_run x p depth loops locals t sound holds stands =
        term_runs code inputs (limits_of b) fits x t.locals (at p loops locals t.outs) (subst (λ n. NamesWithin b.sensors b.words n x) (sym holds.sizes.locals_are) sound.names) holds.begins stands

    -- a state in which a statement leaves as many locals
    holds_on : (depth : ℕ) (s : Machine.State) (q : ℕ) (loops : List Loop) (t : State) → (run : Runs code inputs s q loops t)
        → HasSizes depth b.outputs t → Holds depth b.outputs run.locals t
    holds_on depth s q loops t run sizes = record { begins = run.begins; long = run.long; sizes = sizes }

    -- a block in a scope of its own
    scope_run : (block : Block) (p depth : ℕ) (loops : List Loop) (locals : List ℕ) (t : State)
        → Runs code inputs (at p loops locals t.outs) (p + length (block_code p depth block)) loops
        (after_all block (readings_from inputs) t)
        → Runs code inputs (at p loops locals t.outs) (p + length (block_code p depth block)) loops
        (scoped (after_all block (readings_from inputs)) t)
    scope_run block p depth loops locals t run = runs_scoped code inputs _ _ loops (after_all block (readings_from inputs)) t run

    mutual
      pub statement_runs : (statement : Statement) (p depth : ℕ) (loops : List Loop) (locals : List ℕ) (t : State)
          → IsSoundStatement b depth statement → Holds depth b.outputs locals t → Stands code p (statement_code p depth statement)
          → Runs code inputs (at p loops locals t.outs) (p + length (statement_code p depth statement)) loops
          (after statement (readings_from inputs) t)
      statement_runs (bind x) p depth loops locals t sound holds stands =
          let v = value_of x (readings_from inputs) t.locals in
          let c = term_run x p depth loops locals t sound.0 holds (stands_front code p (term_code x) _ stands) in
          let room : depth < length locals = omega (arith, sound.1, holds.long) in
          let more = begin-more locals t.locals v holds.begins (omega (arith, room, holds.sizes.locals_are)) in
          record {
            locals = slice_set locals depth v;
            begins = subst (λ n. BeginWith (slice_set locals n v) (t.locals ++ v ∷ [])) holds.sizes.locals_are more;
            long = length-set locals depth v ∙ holds.long;
            comes = use_run code inputs p loops locals t.outs _ _ (term_code x) (Store depth) v stands c (stored_there depth (pushing (at p loops locals t.outs) (term_code x) v) v [] room);
          }
      statement_runs (assign l x) p depth loops locals t sound holds stands =
          let v = value_of x (readings_from inputs) t.locals in
          let c = term_run x p depth loops locals t sound.0 holds (stands_front code p (term_code x) _ stands) in
          let room : l < length locals = omega (arith, sound.1, holds.sizes.locals_are, begin-long locals t.locals holds.begins) in
          record {
            locals = slice_set locals l v;
            begins = begin-set locals t.locals l v holds.begins;
            long = length-set locals l v ∙ holds.long;
            comes = use_run code inputs p loops locals t.outs _ _ (term_code x) (Store l) v stands c (stored_there l (pushing (at p loops locals t.outs) (term_code x) v) v [] room);
          }
      statement_runs (output j x) p depth loops locals t sound holds stands =
          let v = value_of x (readings_from inputs) t.locals in
          let c = term_run x p depth loops locals t sound.0 holds (stands_front code p (term_code x) _ stands) in
          let room : j < length t.outs = omega (arith, sound.1, holds.sizes.outs_are) in
          record {
            locals = locals;
            begins = holds.begins;
            long = holds.long;
            comes = use_run code inputs p loops locals t.outs _ _ (term_code x) (Out j) v stands c (put_there j (pushing (at p loops locals t.outs) (term_code x) v) v [] room);
          }
      statement_runs (choose x first) p depth loops locals t sound holds stands =
          let ct = term_code x in
          let c = term_run x p depth loops locals t sound.0 holds (stands_front code p ct _ stands) in
          let run = block_runs first (behind p ct) depth loops locals t sound.1 holds (stands_behind code p ct _ _ stands) in
          choose_run code inputs p loops locals t ct (block_code (behind p ct) depth first) _
          (value_of x (readings_from inputs) t.locals) holds.begins holds.long stands c
          (scope_run first (behind p ct) depth loops locals t run)
      statement_runs (choose_else x first second) p depth loops locals t sound holds stands =
          let ct = term_code x in
          let cf = block_code (behind p ct) depth first in
          let cs = block_code (behind (behind p ct) cf) depth second in
          let c = term_run x p depth loops locals t sound.0 holds (stands_front code p ct _ stands) in
          let here = stands_behind code p ct _ _ stands in
          let run = block_runs first (behind p ct) depth loops locals t sound.1 holds (stands_front code (behind p ct) cf _ here) in
          let other = block_runs second (behind (behind p ct) cf) depth loops locals t sound.2 holds (stands_behind code (behind p ct) cf cs _ here) in
          choose_else_run code inputs p loops locals t ct cf _ cs _ (value_of x (readings_from inputs) t.locals) stands c
          (scope_run first (behind p ct) depth loops locals t run)
          (scope_run second (behind (behind p ct) cf) depth loops locals t other)
      statement_runs (repeat k body) p depth loops locals t sound holds stands =
          let cb = block_code (p + 1) depth body in
          let round = scoped (after_all body (readings_from inputs)) in
          let here = stands_on code p (Begin k) _ stands in
          repeat_run code inputs depth b.outputs (p + 1) (p + 1 + length cb) loops round
          (λ u has. sizes-round depth b.outputs (after_all body (readings_from inputs)) u has
          (adds-after_all body (readings_from inputs) u)) (stands_next code (p + 1) cb [] End here)
          (λ left now u h. scope_run body (p + 1) depth _ now u
          (block_runs body (p + 1) depth (record { start = p + 1; left = left } ∷ loops) now u sound.1 h
          (stands_front code (p + 1) cb _ here))) p cb k locals t refl refl (matched_block (p + 1) depth body) stands holds

      -- the code of a sound block runs to its end with the state that the block means
      pub block_runs : (block : Block) (p depth : ℕ) (loops : List Loop) (locals : List ℕ) (t : State) → IsSoundBlock b depth block
          → Holds depth b.outputs locals t → Stands code p (block_code p depth block)
          → Runs code inputs (at p loops locals t.outs) (p + length (block_code p depth block)) loops
          (after_all block (readings_from inputs) t)
      block_runs end p depth loops locals t sound holds stands =
          runs_to code inputs _ p _ loops t (omega arith) (record { locals = locals; begins = holds.begins; long = holds.long; comes = comes_nowhere code inputs _ })
      block_runs (step statement rest) p depth loops locals t sound holds stands =
          let cs = statement_code p depth statement in
          let q = p + length cs in
          let next = after statement (readings_from inputs) t in
          let run = statement_runs statement p depth loops locals t sound.0 holds (stands_front code p cs _ stands) in
          let h = holds_on (locals_after depth statement) _ q loops next run (sizes_behind statement (readings_from inputs) depth b.outputs t holds.sizes) in
          let more = block_runs rest q (locals_after depth statement) loops run.locals next sound.1 h (stands_back code p cs _ stands) in
          runs_to code inputs _ _ _ loops _ (omega (arith, length-append cs (block_code q (locals_after depth statement) rest))) (runs_from code inputs _ _ _ loops _ run.comes more)
