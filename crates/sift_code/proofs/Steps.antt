-- Each instruction that goes on to the next place is a step of the machine, on the words of a span.
use Rattle.std.proofs.Common.{◌≡◌, ℕ, ◌+◌, ◌-◌, ◌<◌, ◌≤◌, Bool, true, List, ◌∷◌, length, Option, Some, None, refl, sym, ap, ◌∙◌, arith}
use Rattle.std.specs.Prelude.{slice_index, slice_set, nat_lt, if◌then◌else◌}
use Rattle.std.proofs.lemmas.Bool.{lt-ltb}
use Rattle.sift_base.specs.Word.{mid}
use Rattle.sift_code.specs.declared.instr.Instr.{Instr}
use Rattle.sift_code.specs.declared.instr.Instr.TheVariants.{Store, Out, Mid}
use Rattle.sift_code.specs.declared.machine.Machine.{Machine}
use Rattle.sift_code.specs.Machine.{State, Inputs, on_with, pushed, combined, middled, stored, put_out, effect}
use Rattle.sift_code.specs.Enclosing.{enclosing}
use Rattle.sift_code.specs.Refusal.{Program}
use Rattle.sift_code.specs.Work.{Steps, stack_of, locals_of, loops_of, state_of}
use Rattle.sift_code.proofs.Progress.{IsPlain}
use Rattle.sift_code.proofs.Operators.{IsCombining, op_of}
use Rattle.sift_code.proofs.Places.{stack_of-set, stack_of-top, stack_of-two, stack_of-three, stack_of-push, stack_of-put, locals_of-below, locals_of-set, length-locals_of, loops_of-set}
use Rattle.sift_code.proofs.Standing.{machine, state, Fetched, heights, operand, plain}

module _ {program : Program} (inputs : Inputs) {m : Machine} {ws outs : List ℕ} where
  -- a word pushed
  pub pushes_word : {i : Instr} {n : Machine} {vs : List ℕ} (f : Fetched program m ws outs i) (o : Option ℕ) (w : ℕ) → IsPlain i
      → m.height < 256 → effect i program.code inputs (state_of program.code m ws outs)
      ≡ on_with (state_of program.code m ws outs) (pushed o (stack_of m.height ws)) → o ≡ Some w
      → n ≡ machine (m.place + 1) (m.height + 1) m.depth → vs ≡ slice_set ws m.height w
      → Steps program inputs m ws outs n vs outs
  pushes_word f o w plainly low does word machine_is words =
      let wide = f.wide in
      rw (machine_is, words) (plain inputs f (machine (m.place + 1) (m.height + 1) m.depth) (slice_set ws m.height w) outs (w ∷ stack_of m.height ws) (locals_of ws) outs plainly
      (does ∙ ap (λ x. on_with (state_of program.code m ws outs) (pushed x (stack_of m.height ws))) word) refl refl
      (sym (stack_of-push m.height ws w (omega arith))) (loops_of-set (enclosing program.code m.place) ws m.height w (λ j less e. omega arith))
      (sym (locals_of-below ws m.height w low)) refl)

  -- two words combined
  pub combines : {i : Instr} {n : Machine} {vs : List ℕ} (f : Fetched program m ws outs i) → IsCombining i
      → n ≡ machine (m.place + 1) (m.height - 1) m.depth → (made : ℕ)
      → made ≡ op_of i (slice_index ws (m.height - 2)) (slice_index ws (m.height - 1)) → vs ≡ slice_set ws (m.height - 2) made
      → Steps program inputs m ws outs n vs outs
  combines {i} f two machine_is made made_is words =
      let wide = f.wide in
      let h = heights f in
      let some : 2 ≤ m.height = omega (arith, h.0, two.pops_two) in
      let low : m.height ≤ 257 = omega (arith, h.1, two.pops_two, two.pushes_one) in
      let w = op_of i (slice_index ws (m.height - 2)) (slice_index ws (m.height - 1)) in
      let next = machine (m.place + 1) (m.height - 1) m.depth in
      rw (machine_is, words, made_is) (plain inputs f next (slice_set ws (m.height - 2) w) outs (w ∷ stack_of (m.height - 2) ws) (locals_of ws) outs two.plainly
      (two.combines_so program.code inputs (state_of program.code m ws outs) ∙ ap (λ x. on_with (state_of program.code m ws outs) (combined (op_of i) x)) (stack_of-two m.height ws some)) refl refl
      (sym (stack_of-put (m.height - 1) (m.height - 2) ws w (omega arith) (omega arith))) (loops_of-set (enclosing program.code m.place) ws (m.height - 2) w (λ j less e. omega arith))
      (sym (locals_of-below ws (m.height - 2) w (omega arith))) refl)

  -- the middle one of three words
  pub middles : {n : Machine} {vs : List ℕ} (f : Fetched program m ws outs Mid) → n ≡ machine (m.place + 1) (m.height - 2) m.depth
      → vs ≡ slice_set ws (m.height - 3)
      (mid (slice_index ws (m.height - 3)) (slice_index ws (m.height - 2)) (slice_index ws (m.height - 1)))
      → Steps program inputs m ws outs n vs outs
  middles f machine_is words =
      let wide = f.wide in
      let some : 3 ≤ m.height = (heights f).0 in
      let low : m.height ≤ 258 = (let h = heights f in omega (arith, h.1)) in
      let w = mid (slice_index ws (m.height - 3)) (slice_index ws (m.height - 2)) (slice_index ws (m.height - 1)) in
      rw (machine_is, words) (plain inputs f (machine (m.place + 1) (m.height - 2) m.depth) (slice_set ws (m.height - 3) w) outs (w ∷ stack_of (m.height - 3) ws) (locals_of ws) outs
      (record { nests = λ next loops. refl; costs = λ cs. refl; heights = λ next trail. refl })
      (ap (λ x. on_with (state_of program.code m ws outs) (middled x)) (stack_of-three m.height ws some)) refl refl
      (sym (stack_of-put (m.height - 2) (m.height - 3) ws w (omega arith) (omega arith))) (loops_of-set (enclosing program.code m.place) ws (m.height - 3) w (λ j less e. omega arith))
      (sym (locals_of-below ws (m.height - 3) w (omega arith))) refl)

  -- a word stored
  pub stores : {l : ℕ} {n : Machine} {vs : List ℕ} (f : Fetched program m ws outs (Store l)) (w : ℕ) → w ≡ slice_index ws (m.height - 1)
      → n ≡ machine (m.place + 1) (m.height - 1) m.depth → vs ≡ slice_set ws (256 + l) w → Steps program inputs m ws outs n vs outs
  stores {l} f w word machine_is words =
      let wide = f.wide in
      let there : l < 32 = (let named = operand f in omega (arith, named)) in
      let some : 1 ≤ m.height = (heights f).0 in
      let low : m.height - 1 ≤ 256 = (let h = heights f in omega (arith, h.1)) in
      let holds : nat_lt l (length (locals_of ws)) ≡ true = lt-ltb _ _ (omega (arith, there, length-locals_of ws (omega (arith, wide)))) in
      let top = slice_index ws (m.height - 1) in
      let next : State = state (m.place + 1) (stack_of (m.height - 1) ws) (loops_of (enclosing program.code m.place) ws) (slice_set (locals_of ws) l top) outs in
      rw (machine_is, words, word) (plain inputs f (machine (m.place + 1) (m.height - 1) m.depth) (slice_set ws (256 + l) top) outs (stack_of (m.height - 1) ws) (slice_set (locals_of ws) l top) outs
      (record { nests = λ next loops. refl; costs = λ cs. refl; heights = λ next trail. refl })
      (ap (stored l (state_of program.code m ws outs)) (stack_of-top m.height ws some)
      ∙ ap (λ (b : Bool). if b then Some next else None) holds) refl refl
      (sym (stack_of-set (m.height - 1) ws (256 + l) top (omega arith)))
      (loops_of-set (enclosing program.code m.place) ws (256 + l) top (λ j less e. omega arith))
      (sym (locals_of-set ws l top there)) refl)

  -- a word put out
  pub puts_out : {j : ℕ} {n : Machine} {puts : List ℕ} (f : Fetched program m ws outs (Out j)) (w : ℕ) → w ≡ slice_index ws (m.height - 1)
      → n ≡ machine (m.place + 1) (m.height - 1) m.depth → puts ≡ slice_set outs j w → Steps program inputs m ws outs n ws puts
  puts_out {j} f w word machine_is words =
      let there : j < length outs = (let named = operand f in omega (arith, named, f.stands.agrees.outs)) in
      let holds : nat_lt j (length outs) ≡ true = lt-ltb _ _ there in
      let top = slice_index ws (m.height - 1) in
      let next : State = state (m.place + 1) (stack_of (m.height - 1) ws) (loops_of (enclosing program.code m.place) ws) (locals_of ws) (slice_set outs j top) in
      rw (machine_is, words, word) (plain inputs f (machine (m.place + 1) (m.height - 1) m.depth) ws (slice_set outs j top) (stack_of (m.height - 1) ws) (locals_of ws) (slice_set outs j top)
      (record { nests = λ next loops. refl; costs = λ cs. refl; heights = λ next trail. refl })
      (ap (put_out j (state_of program.code m ws outs)) (stack_of-top m.height ws (heights f).0)
      ∙ ap (λ (b : Bool). if b then Some next else None) holds) refl refl refl refl refl refl)
