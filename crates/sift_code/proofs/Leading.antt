-- Each instruction of sound code leads on: jumps, loops, and all of them together.
use Rattle.std.proofs.Common.{◌≡◌, ℕ, zero, suc, ◌+◌, ◌-◌, ◌*◌, ◌<◌, ◌≤◌, Bool, true, false, List, [], ◌∷◌, length, drop, Some, refl, sym, ap, ◌∙◌, subst, arith, get_or}
use Rattle.std.specs.Prelude.{bit_and, bit_or, bit_xor}
use Rattle.std.specs.Prelude.{slice_get, if◌then◌else◌, ◌==◌}
use Rattle.std.proofs.lemmas.Option.{slice_get_within, slice_get-get_or}
use Rattle.sift_base.specs.Word.{add, sub, mul, div, rem, shl, shr, lt, eq}
use Rattle.sift_code.specs.declared.instr.Instr.{Instr}
use Rattle.sift_code.specs.declared.instr.Instr.TheVariants.{Push, Load, Store, Sense, Now, Last, Out, Add, Sub, Mul, Div, Rem, And, Or, Xor, Shl, Shr, Lt, Eq, Mid, JumpZ, Jump, Begin, End}
use Rattle.sift_code.specs.Machine.{Loop, State, Inputs, local_count, effect, step, effect_of, tested, skipped, begun, round_ended, ended, through_end}
use Rattle.sift_code.specs.Enclosing.{enclosing}
use Rattle.sift_code.specs.Heights.{height_at}
use Rattle.sift_code.specs.Refusal.{Program, IsSound}
use Rattle.sift_code.specs.Ends.{Fits}
use Rattle.sift_code.specs.Work.{Agrees, AreGoing, starts_of}
use Rattle.sift_code.specs.laws.Enclosing.{opened_before}
use Rattle.sift_code.specs.laws.Heights.{height_here}
use Rattle.sift_code.proofs.Costs.{head0, tail0, cost_step, costs, costs_here, nested_here, between, past_end}
use Rattle.sift_code.proofs.Remaining.{remaining, remaining_none, remaining_begin, another_round}
use Rattle.sift_code.proofs.Sound.{braced, filled, named, same_round, jumpz_lands, jump_lands}
use Rattle.sift_code.proofs.Progress.{Leads, left_of, present, on, push, combine, middle, store, put, jump}

module _ (program : Program) (sound : IsSound program) (inputs : Inputs) (fits : Fits inputs program.limits) where
  test : (to : ℕ) (s : State) → slice_get program.code s.place ≡ Some (JumpZ to) → Agrees program s → Leads program s (tested to s s.stack)
  test to s at a = by s.stack refl
    where
      enough : 1 ≤ height_at program.code s.place
      enough = filled program sound s.place (JumpZ to) at

      whether : (b : Bool) (stack : List ℕ) → length stack ≡ length s.stack - 1 → Leads program s (Some (record s { place = (if b then to else s.place + 1); stack = stack }))
      whether true stack long =
          jump program sound inputs fits (JumpZ to) s to _ stack (λ next loops. refl) (λ cs. refl) at a (jumpz_lands program sound s.place to at) (omega (arith, a.height))
      whether false stack long =
          on program sound inputs fits (JumpZ to) s (record s { place = s.place + 1; stack = stack })
          (record { nests = λ next loops. refl; costs = λ cs. refl; heights = λ next trail. refl }) at a refl
          (omega arith) refl refl refl

      by : (stack : List ℕ) → s.stack ≡ stack → Leads program s (tested to s stack)
      by [] e = absurd (omega (arith, a.height, enough, ap (length {A = ℕ}) e))
      by (w ∷ stack) e = whether (w == 0) stack (omega (arith, ap (length {A = ℕ}) e))

  goto : (to : ℕ) (s : State) → slice_get program.code s.place ≡ Some (Jump to) → Agrees program s → Leads program s (Some (record s { place = to }))
  goto to s at a =
      jump program sound inputs fits (Jump to) s to _ s.stack (λ next loops. refl) (λ cs. refl) at a (jump_lands program sound s.place to at) a.height

  skip : (s : State) (n : ℕ) → slice_get program.code s.place ≡ Some (Begin 0) → Agrees program s
      → through_end 0 (drop (s.place + 1) program.code) ≡ Some n
      → Leads program s (skipped s (through_end 0 (drop (s.place + 1) program.code)))
  skip s n at a through =
      let past = past_end program.code (braced program sound) s.place 0 n at through in
      let within : past.last < length program.code = slice_get_within program.code past.last End past.ends in
      let started : height_at program.code (s.place + 1) ≡ height_at program.code s.place = height_here program.code s.place (Begin 0) at ∙ omega arith in
      let behind : height_at program.code (past.last + 1) ≡ height_at program.code past.last = height_here program.code past.last End past.ends ∙ omega arith in
      let round = same_round program sound past.last (s.place + 1) (enclosing program.code s.place) past.ends past.inside in
      let t : State = record s { place = s.place + 1 + n } in
      let cost : left_of program s ≡ 1 + remaining program.code (tail0 (costs (drop (s.place + 1) program.code))) s.loops =
      ap (λ cs. remaining program.code cs s.loops) (costs_here program.code s.place (Begin 0) at) ∙ remaining_none program.code (costs (drop (s.place + 1) program.code)) s.loops in
      record {
        state = t;
        is = ap (skipped s) through;
        agrees = record {
          within = omega (arith, past.next);
          height = a.height ∙ (sym started ∙ (sym round ∙ (sym behind ∙ ap (height_at program.code) (sym past.next))));
          loops = a.loops ∙ sym past.outside;
          going = a.going;
          locals = a.locals;
          outs = a.outs;
        };
        less = omega (arith, ap (λ cs. remaining program.code cs s.loops) past.costs_are);
      }

  begin : (k : ℕ) (s : State) → slice_get program.code s.place ≡ Some (Begin k) → Agrees program s → Leads program s (begun k program.code s)
  begin zero s at a =
      let matched = (braced program sound).begins s.place 0 at in skip s matched.0 at a matched.1
  begin (suc k) s at a =
      let within : s.place < length program.code = slice_get_within program.code s.place (Begin (suc k)) at in
      let started : height_at program.code (s.place + 1) ≡ height_at program.code s.place = height_here program.code s.place (Begin (suc k)) at ∙ omega arith in
      let rest = costs (drop (s.place + 1) program.code) in
      let cost : left_of program s ≡ remaining program.code (cost_step (Begin (suc k)) (costs (drop (s.place + 1) program.code))) s.loops =
      ap (λ cs. remaining program.code cs s.loops) (costs_here program.code s.place (Begin (suc k)) at) in
      record {
        state = record s { place = s.place + 1; loops = record { start = s.place + 1; left = suc k } ∷ s.loops };
        is = refl;
        agrees = record {
          within = omega arith;
          height = a.height ∙ sym started;
          loops = ap (λ l. (s.place + 1) ∷ l) a.loops ∙ sym (nested_here program.code (braced program sound) s.place (Begin (suc k)) at);
          going = (omega arith, a.going);
          locals = a.locals;
          outs = a.outs;
        };
        less = omega (arith, remaining_begin program.code k (costs (drop (s.place + 1) program.code)) s.loops (s.place + 1) refl);
      }

  leave : (s : State) (l : Loop) (outer : List Loop) → slice_get program.code s.place ≡ Some End → Agrees program s → s.loops ≡ l ∷ outer
      → Leads program s (Some (record s { place = s.place + 1; loops = outer }))
  leave s l outer at a is =
      let within : s.place < length program.code = slice_get_within program.code s.place End at in
      let behind : height_at program.code (s.place + 1) ≡ height_at program.code s.place = height_here program.code s.place End at ∙ omega arith in
      let loops : starts_of (l ∷ outer) ≡ enclosing program.code s.place = sym (ap starts_of is) ∙ a.loops in
      let going : AreGoing (l ∷ outer) = subst AreGoing is a.going in
      let cost : left_of program s ≡ remaining program.code (1 ∷ costs (drop (s.place + 1) program.code)) (l ∷ outer) =
      ap (λ cs. remaining program.code cs s.loops) (costs_here program.code s.place End at) ∙ ap (λ ls. remaining program.code (1 ∷ costs (drop (s.place + 1) program.code)) ls) is in
      record {
        state = record s { place = s.place + 1; loops = outer };
        is = refl;
        agrees = record {
          within = omega arith;
          height = a.height ∙ sym behind;
          loops = ap (drop 1) loops ∙ sym (nested_here program.code (braced program sound) s.place End at);
          going = going.1;
          locals = a.locals;
          outs = a.outs;
        };
        less = omega arith;
      }

  back : (s : State) (m : ℕ) (l : Loop) (outer : List Loop) → slice_get program.code s.place ≡ Some End → Agrees program s
      → s.loops ≡ l ∷ outer → l.left ≡ suc (suc m)
      → Leads program s (Some (record s { place = l.start; loops = record { start = l.start; left = suc m } ∷ outer }))
  back s m l outer at a is left =
      let within : s.place < length program.code = slice_get_within program.code s.place End at in
      let loops : starts_of (l ∷ outer) ≡ enclosing program.code s.place = sym (ap starts_of is) ∙ a.loops in
      let going : AreGoing (l ∷ outer) = subst AreGoing is a.going in
      let there = opened_before program.code s.place l.start (starts_of outer) [] (sym loops) in
      let falls = between program.code (braced program sound) l.start s.place there.early (omega arith) (sym loops ∙ sym there.inside) in
      let costs_same : costs (drop (s.place + 1) program.code) ≡ tail0 (costs (drop l.start program.code)) = ap tail0 (sym (costs_here program.code s.place End at)) ∙ falls.outer in
      let round = same_round program sound s.place l.start (starts_of outer) at (sym loops) in
      let more : remaining program.code (1 ∷ costs (drop (s.place + 1) program.code)) (l ∷ outer) ≡ 1 + (suc (suc m) - 1)
      * head0 (costs (drop l.start program.code)) + remaining program.code (tail0 (costs (drop l.start program.code))) outer =
      rw (left, costs_same) refl in
      let cost : left_of program s ≡ remaining program.code (1 ∷ costs (drop (s.place + 1) program.code)) (l ∷ outer) =
      ap (λ cs. remaining program.code cs s.loops) (costs_here program.code s.place End at) ∙ ap (λ ls. remaining program.code (1 ∷ costs (drop (s.place + 1) program.code)) ls) is in
      record {
        state = record s { place = l.start; loops = record { start = l.start; left = suc m } ∷ outer };
        is = refl;
        agrees = record {
          within = omega (arith, there.early);
          height = a.height ∙ round;
          loops = loops ∙ (sym loops ∙ sym there.inside);
          going = (omega arith, going.1);
          locals = a.locals;
          outs = a.outs;
        };
        less = omega (arith, another_round m (head0 (costs (drop l.start program.code))));
      }

  end : (s : State) → slice_get program.code s.place ≡ Some End → Agrees program s → Leads program s (ended s s.loops)
  end s at a = by s.loops refl
    where
      round : (left : ℕ) (l : Loop) (outer : List Loop) → l.left ≡ left → 1 ≤ left → s.loops ≡ l ∷ outer → Leads program s (round_ended s l left outer)
      round zero l outer left some is = absurd (omega arith)
      round (suc zero) l outer left some is = leave s l outer at a is
      round (suc (suc m)) l outer left some is = back s m l outer at a is left

      by : (loops : List Loop) → s.loops ≡ loops → Leads program s (ended s loops)
      by [] is = absurd ((braced program sound).ends s.place at (sym a.loops ∙ ap starts_of is))
      by (l ∷ outer) is = let going : AreGoing (l ∷ outer) = subst AreGoing is a.going in round l.left l outer refl going.0 is

  -- an instruction leads on
  leads : (i : Instr) (s : State) → slice_get program.code s.place ≡ Some i → Agrees program s → Leads program s (effect i program.code inputs s)
  leads (Push w) s at a =
      push program sound inputs fits (Push w) s (Some w) w
      (record { nests = λ next loops. refl; costs = λ cs. refl; heights = λ next trail. refl }) at a (λ h. omega arith) refl
  leads (Load l) s at a =
      push program sound inputs fits (Load l) s (slice_get s.locals l) _
      (record { nests = λ next loops. refl; costs = λ cs. refl; heights = λ next trail. refl }) at a (λ h. omega arith)
      (present s.locals local_count l a.locals (named program sound s.place (Load l) at))
  leads (Sense x) s at a =
      push program sound inputs fits (Sense x) s (slice_get inputs.sensed x) _
      (record { nests = λ next loops. refl; costs = λ cs. refl; heights = λ next trail. refl }) at a (λ h. omega arith)
      (present inputs.sensed program.limits.sensors x fits.sensed (named program sound s.place (Sense x) at))
  leads (Now w) s at a =
      push program sound inputs fits (Now w) s (slice_get inputs.made w) _
      (record { nests = λ next loops. refl; costs = λ cs. refl; heights = λ next trail. refl }) at a (λ h. omega arith)
      (present inputs.made program.limits.words w fits.made (named program sound s.place (Now w) at))
  leads (Last w) s at a =
      push program sound inputs fits (Last w) s (slice_get inputs.last w) _
      (record { nests = λ next loops. refl; costs = λ cs. refl; heights = λ next trail. refl }) at a (λ h. omega arith)
      (present inputs.last program.limits.words w fits.last (named program sound s.place (Last w) at))
  leads (Store l) s at a = store program sound inputs fits l s at a
  leads (Out j) s at a = put program sound inputs fits j s at a
  leads Mid s at a = middle program sound inputs fits s at a
  leads (JumpZ to) s at a = test to s at a
  leads (Jump to) s at a = goto to s at a
  leads (Begin k) s at a = begin k s at a
  leads End s at a = end s at a
  leads Add s at a = combine program sound inputs fits Add s add
      (record { nests = λ next loops. refl; costs = λ cs. refl; heights = λ next trail. refl }) at a (λ h. refl)
      (filled program sound s.place Add at)
  leads Sub s at a = combine program sound inputs fits Sub s sub
      (record { nests = λ next loops. refl; costs = λ cs. refl; heights = λ next trail. refl }) at a (λ h. refl)
      (filled program sound s.place Sub at)
  leads Mul s at a = combine program sound inputs fits Mul s mul
      (record { nests = λ next loops. refl; costs = λ cs. refl; heights = λ next trail. refl }) at a (λ h. refl)
      (filled program sound s.place Mul at)
  leads Div s at a = combine program sound inputs fits Div s div
      (record { nests = λ next loops. refl; costs = λ cs. refl; heights = λ next trail. refl }) at a (λ h. refl)
      (filled program sound s.place Div at)
  leads Rem s at a = combine program sound inputs fits Rem s rem
      (record { nests = λ next loops. refl; costs = λ cs. refl; heights = λ next trail. refl }) at a (λ h. refl)
      (filled program sound s.place Rem at)
  leads And s at a = combine program sound inputs fits And s bit_and
      (record { nests = λ next loops. refl; costs = λ cs. refl; heights = λ next trail. refl }) at a (λ h. refl)
      (filled program sound s.place And at)
  leads Or s at a = combine program sound inputs fits Or s bit_or
      (record { nests = λ next loops. refl; costs = λ cs. refl; heights = λ next trail. refl }) at a (λ h. refl)
      (filled program sound s.place Or at)
  leads Xor s at a = combine program sound inputs fits Xor s bit_xor
      (record { nests = λ next loops. refl; costs = λ cs. refl; heights = λ next trail. refl }) at a (λ h. refl)
      (filled program sound s.place Xor at)
  leads Shl s at a = combine program sound inputs fits Shl s shl
      (record { nests = λ next loops. refl; costs = λ cs. refl; heights = λ next trail. refl }) at a (λ h. refl)
      (filled program sound s.place Shl at)
  leads Shr s at a = combine program sound inputs fits Shr s shr
      (record { nests = λ next loops. refl; costs = λ cs. refl; heights = λ next trail. refl }) at a (λ h. refl)
      (filled program sound s.place Shr at)
  leads Lt s at a = combine program sound inputs fits Lt s lt
      (record { nests = λ next loops. refl; costs = λ cs. refl; heights = λ next trail. refl }) at a (λ h. refl)
      (filled program sound s.place Lt at)
  leads Eq s at a = combine program sound inputs fits Eq s eq
      (record { nests = λ next loops. refl; costs = λ cs. refl; heights = λ next trail. refl }) at a (λ h. refl)
      (filled program sound s.place Eq at)

  -- a step leads on, but at the code's end
  pub step_leads : (s : State) → s.place < length program.code → Agrees program s → Leads program s (step program.code inputs s)
  step_leads s within a =
      let at : slice_get program.code s.place ≡ Some (get_or program.code s.place End) = slice_get-get_or program.code s.place End within in
      subst (λ o. Leads program s (effect_of o program.code inputs s)) (sym at) (leads (get_or program.code s.place End) s at a)
