-- Each instruction of sound code leads on, and leaves less to do.
use Rattle.std.proofs.Common.{◌≡◌, ℕ, ◌+◌, ◌-◌, ◌<◌, ◌≤◌, Bool, true, List, [], ◌∷◌, length, drop, Option, Some, None, refl, sym, ap, ◌∙◌, subst, arith, get_or}
use Rattle.std.specs.Prelude.{slice_get, slice_set, nat_lt, if◌then◌else◌}
use Rattle.std.proofs.lemmas.Option.{slice_get_within, slice_get-get_or}
use Rattle.std.proofs.lemmas.Bool.Decides.{nat_tests}
use Rattle.std.proofs.lemmas.List.{length-set}
use Rattle.sift_base.specs.Word.{mid}
use Rattle.sift_code.specs.declared.instr.Instr.{Instr}
use Rattle.sift_code.specs.declared.instr.Instr.TheVariants.{Store, Out, Mid}
use Rattle.sift_code.specs.Machine.{State, Inputs, on_with, pushed, combined, middled, stored, put_out}
use Rattle.sift_code.specs.Enclosing.{enclosing}
use Rattle.sift_code.specs.Heights.{Trail, trail_at, height_at, height_after, next_height}
use Rattle.sift_code.specs.Refusal.{Program, IsSound}
use Rattle.sift_code.specs.Ends.{Fits}
use Rattle.sift_code.specs.Work.{Agrees, AreGoing, starts_of}
use Rattle.sift_code.specs.laws.Heights.{height_here}
use Rattle.sift_code.proofs.Costs.{head0, tail0, cost_step, costs, costs_here, nested, nested_here, between}
use Rattle.sift_code.proofs.Remaining.{remaining, remaining_more, remaining_falls}
use Rattle.sift_code.proofs.Sound.{braced, filled, named, Lands}

-- an instruction that only goes on to the next place
pub record IsPlain (i : Instr) : Type 0 where
  pub nests : (next : ℕ) (loops : List ℕ) → nested i next loops ≡ loops
  pub costs : (cs : List ℕ) → cost_step i cs ≡ (1 + head0 cs) ∷ tail0 cs
  pub heights : (next : ℕ) (trail : Trail) → next_height i next trail ≡ height_after i trail.height

-- what is left to do in a state
abbrev pub left_of : Program → State → ℕ
left_of program s = remaining program.code (costs (drop s.place program.code)) s.loops

-- an instruction led on to a state in which less is left to do
pub record Leads (program : Program) (s : State) (r : Option State) : Type 0 where
  pub state : State
  pub is : r ≡ Some state
  pub agrees : Agrees program state
  pub less : left_of program state < left_of program s

-- a list has a word at each place that isn't its length or past it
pub present : (xs : List ℕ) (n k : ℕ) → length xs ≡ n → (n ≤ k → ⊥) → slice_get xs k ≡ Some (get_or xs k 0)
present xs n k long h = slice_get-get_or xs k 0 (omega arith)

below : (k n : ℕ) → (n ≤ k → ⊥) → nat_lt k n ≡ true
below k n h = grind (arith, nat_tests)

module _ (program : Program) (sound : IsSound program) (inputs : Inputs) (fits : Fits inputs program.limits) where
  -- on to the next place
  pub on : (i : Instr) (s t : State) → IsPlain i → slice_get program.code s.place ≡ Some i → Agrees program s → t.place ≡ s.place + 1
      → length t.stack ≡ height_after i (length s.stack) → t.loops ≡ s.loops → length t.locals ≡ length s.locals
      → length t.outs ≡ length s.outs → Leads program s (Some t)
  on i s t plain at a place height loops locals outs =
      let within : s.place < length program.code = slice_get_within program.code s.place i at in
      let high : height_at program.code (s.place + 1) ≡ height_after i (height_at program.code s.place) =
      height_here program.code s.place i at ∙ plain.heights (s.place + 1) (trail_at program.code s.place) in
      let inside : enclosing program.code (s.place + 1) ≡ enclosing program.code s.place =
      nested_here program.code (braced program sound) s.place i at ∙ plain.nests (s.place + 1) (enclosing program.code s.place) in
      let cost : left_of program s ≡ 1 + remaining program.code (costs (drop (s.place + 1) program.code)) s.loops =
      ap (λ cs. remaining program.code cs s.loops) (costs_here program.code s.place i at
      ∙ plain.costs (costs (drop (s.place + 1) program.code)))
      ∙ remaining_more program.code (costs (drop (s.place + 1) program.code)) s.loops in
      let there : left_of program t ≡ remaining program.code (costs (drop (s.place + 1) program.code)) s.loops =
      ap (λ q. remaining program.code (costs (drop q program.code)) t.loops) place
      ∙ ap (λ ls. remaining program.code (costs (drop (s.place + 1) program.code)) ls) loops in
      record {
        state = t;
        is = refl;
        agrees = record {
          within = omega arith;
          height = height ∙ (ap (height_after i) a.height ∙ (sym high ∙ ap (height_at program.code) (sym place)));
          loops = ap starts_of loops ∙ (a.loops ∙ (sym inside ∙ ap (enclosing program.code) (sym place)));
          going = subst AreGoing (sym loops) a.going;
          locals = locals ∙ a.locals;
          outs = outs ∙ a.outs;
        };
        less = omega arith;
      }

  -- an instruction that pushes a word which is there leads on, with less left to do
  pub push : (i : Instr) (s : State) (o : Option ℕ) (w : ℕ) → IsPlain i → slice_get program.code s.place ≡ Some i → Agrees program s
      → ((h : ℕ) → height_after i h ≡ h + 1) → o ≡ Some w → Leads program s (on_with s (pushed o s.stack))
  push i s o w plain at a more e =
      subst (λ o'. Leads program s (on_with s (pushed o' s.stack))) (sym e)
      (on i s (record s { place = s.place + 1; stack = w ∷ s.stack }) plain at a refl (omega (arith, more (length s.stack))) refl refl refl)

  -- an instruction that makes one word of the two upper ones leads on, with less left to do
  pub combine : (i : Instr) (s : State) (op : ℕ → ℕ → ℕ) → IsPlain i → slice_get program.code s.place ≡ Some i → Agrees program s
      → ((h : ℕ) → height_after i h ≡ h - 2 + 1) → 2 ≤ height_at program.code s.place → Leads program s (on_with s (combined op s.stack))
  combine i s op plain at a less enough = by s.stack refl
    where
      by : (stack : List ℕ) → s.stack ≡ stack → Leads program s (on_with s (combined op stack))
      by [] e = absurd (omega (arith, a.height, ap (length {A = ℕ}) e))
      by (b ∷ []) e = absurd (omega (arith, a.height, ap (length {A = ℕ}) e))
      by (b ∷ c ∷ stack) e =
          on i s (record s { place = s.place + 1; stack = op c b ∷ stack }) plain at a refl (omega (arith, less (length s.stack), ap (length {A = ℕ}) e)) refl refl refl

  -- a Mid of sound code leads on, with less left to do
  pub middle : (s : State) → slice_get program.code s.place ≡ Some Mid → Agrees program s → Leads program s (on_with s (middled s.stack))
  middle s at a = by s.stack refl
    where
      enough : 3 ≤ height_at program.code s.place
      enough = filled program sound s.place Mid at

      by : (stack : List ℕ) → s.stack ≡ stack → Leads program s (on_with s (middled stack))
      by [] e = absurd (omega (arith, a.height, enough, ap (length {A = ℕ}) e))
      by (x ∷ []) e = absurd (omega (arith, a.height, enough, ap (length {A = ℕ}) e))
      by (x ∷ y ∷ []) e = absurd (omega (arith, a.height, enough, ap (length {A = ℕ}) e))
      by (x ∷ y ∷ z ∷ stack) e =
          on Mid s (record s { place = s.place + 1; stack = mid z y x ∷ stack })
          (record { nests = λ next loops. refl; costs = λ cs. refl; heights = λ next trail. refl }) at a refl
          (omega (arith, ap (length {A = ℕ}) e)) refl refl refl

  -- a Store of sound code leads on, with less left to do
  pub store : (l : ℕ) (s : State) → slice_get program.code s.place ≡ Some (Store l) → Agrees program s → Leads program s (stored l s s.stack)
  store l s at a = by s.stack refl
    where
      enough : 1 ≤ height_at program.code s.place
      enough = filled program sound s.place (Store l) at

      there : nat_lt l (length s.locals) ≡ true
      there = below l (length s.locals) (subst (λ n. n ≤ l → ⊥) (sym a.locals) (named program sound s.place (Store l) at))

      by : (stack : List ℕ) → s.stack ≡ stack → Leads program s (stored l s stack)
      by [] e = absurd (omega (arith, a.height, enough, ap (length {A = ℕ}) e))
      by (x ∷ stack) e =
          let t : State = record s { place = s.place + 1; stack = stack; locals = slice_set s.locals l x } in
          subst (λ (b : Bool). Leads program s (if b then Some t else None)) (sym there)
          (on (Store l) s t (record { nests = λ next loops. refl; costs = λ cs. refl; heights = λ next trail. refl }) at a refl
          (omega (arith, ap (length {A = ℕ}) e)) refl (length-set s.locals l x) refl)

  -- an Out of sound code leads on, with less left to do
  pub put : (j : ℕ) (s : State) → slice_get program.code s.place ≡ Some (Out j) → Agrees program s → Leads program s (put_out j s s.stack)
  put j s at a = by s.stack refl
    where
      enough : 1 ≤ height_at program.code s.place
      enough = filled program sound s.place (Out j) at

      there : nat_lt j (length s.outs) ≡ true
      there = below j (length s.outs) (subst (λ n. n ≤ j → ⊥) (sym a.outs) (named program sound s.place (Out j) at))

      by : (stack : List ℕ) → s.stack ≡ stack → Leads program s (put_out j s stack)
      by [] e = absurd (omega (arith, a.height, enough, ap (length {A = ℕ}) e))
      by (x ∷ stack) e =
          let t : State = record s { place = s.place + 1; stack = stack; outs = slice_set s.outs j x } in
          subst (λ (b : Bool). Leads program s (if b then Some t else None)) (sym there)
          (on (Out j) s t (record { nests = λ next loops. refl; costs = λ cs. refl; heights = λ next trail. refl }) at a refl
          (omega (arith, ap (length {A = ℕ}) e)) refl refl (length-set s.outs j x))

  -- a jump ahead
  pub jump : (i : Instr) (s : State) (to height : ℕ) (stack : List ℕ) → ((next : ℕ) (loops : List ℕ) → nested i next loops ≡ loops)
      → ((cs : List ℕ) → cost_step i cs ≡ (1 + head0 cs) ∷ tail0 cs) → slice_get program.code s.place ≡ Some i → Agrees program s
      → Lands program.code s.place to height → length stack ≡ height → Leads program s (Some (record s { place = to; stack = stack }))
  jump i s to height stack nests cost_is at a lands high =
      let inside : enclosing program.code (s.place + 1) ≡ enclosing program.code s.place =
      nested_here program.code (braced program sound) s.place i at ∙ nests (s.place + 1) (enclosing program.code s.place) in
      let falls = between program.code (braced program sound) (s.place + 1) to (omega (arith, lands.ahead)) lands.within (lands.same_loops ∙ sym inside) in
      let cost : left_of program s ≡ 1 + remaining program.code (costs (drop (s.place + 1) program.code)) s.loops =
      ap (λ cs. remaining program.code cs s.loops) (costs_here program.code s.place i at
      ∙ cost_is (costs (drop (s.place + 1) program.code)))
      ∙ remaining_more program.code (costs (drop (s.place + 1) program.code)) s.loops in
      record {
        state = record s { place = to; stack = stack };
        is = refl;
        agrees = record { within = lands.within; height = high ∙ sym lands.same_height; loops = a.loops ∙ sym lands.same_loops; going = a.going; locals = a.locals; outs = a.outs };
        less = omega (arith, remaining_falls program.code (costs (drop (s.place + 1) program.code)) (costs (drop to program.code)) s.loops falls);
      }
