-- Each jump and each end of a loop on the words of a span is a step of the machine.
use Rattle.std.proofs.Common.{◌≡◌, ℕ, zero, suc, ◌+◌, ◌-◌, ◌<◌, ◌≤◌, Bool, true, false, List, [], ◌∷◌, length, drop, Some, None, refl, sym, ap, ◌∙◌, subst, arith, inl, inr}
use Rattle.std.specs.Prelude.{slice_index, slice_set, if◌then◌else◌, ◌==◌, ◌≢◌}
use Rattle.std.proofs.lemmas.Bool.Decides.{eqb_tells}
use Rattle.sift_code.specs.declared.instr.Instr.{Instr}
use Rattle.sift_code.specs.declared.instr.Instr.TheVariants.{JumpZ, Jump, Begin, End}
use Rattle.sift_code.specs.declared.machine.Machine.{Machine}
use Rattle.sift_code.specs.Machine.{Inputs, tested, skipped, ended, round_ended, effect}
use Rattle.sift_code.specs.Enclosing.{enclosing, innermost}
use Rattle.sift_code.specs.Nest.{start_at, onward}
use Rattle.sift_code.specs.Refusal.{Program, IsSound}
use Rattle.sift_code.specs.Work.{Steps, at_place, Passes, Enters, EndsRound, stack_of, locals_of, loops_of, state_of, lefts_start}
use Rattle.sift_code.specs.laws.Enclosing.{opened_before}
use Rattle.sift_code.proofs.Costs.{nested, nested_here, past_end}
use Rattle.sift_code.proofs.Sound.{braced, uncrowded, jumpz_lands, jump_lands, at_place as instr_at}
use Rattle.sift_code.proofs.Places.{stack_of-set, stack_of-top, locals_of-above, loops_of-push}
use Rattle.sift_code.proofs.Standing.{machine, state, Fetched, heights, stepped_to, plain}

nested_few : (i : Instr) (next : ℕ) (loops : List ℕ) → ((k : ℕ) → i ≡ Begin k → length loops < 32) → length loops ≤ 32 → length (nested i next loops) ≤ 32
nested_few (Begin k) next loops few le = omega (arith, few k refl)
nested_few End next [] few le = omega arith
nested_few End next (x ∷ loops) few le = omega arith
nested_few _ next loops few le = le

-- no more than 32 loops enclose a place of sound code
pub enclosing_few : (program : Program) → IsSound program → (p : ℕ) → p ≤ length program.code → length (enclosing program.code p) ≤ 32
enclosing_few program sound zero le = omega arith
enclosing_few program sound (suc p) le =
    let at = instr_at program.code p (omega arith) in
    let e : p + 1 ≡ suc p = omega arith in
    subst (λ q. length (enclosing program.code q) ≤ 32) e (subst (λ l. length l ≤ 32) (sym (nested_here program.code (braced program sound) p at.0 at.1))
    (nested_few at.0 (p + 1) (enclosing program.code p) (λ k is. uncrowded program sound p k (at.1 ∙ ap Some is)) (enclosing_few program sound p (omega arith))))

module _ {program : Program} (inputs : Inputs) {m : Machine} {ws outs : List ℕ} where
  -- a jump leaves the loops
  lands : (i : Instr) (n : Machine) (stack : List ℕ) (to height : ℕ) → Fetched program m ws outs i
      → effect i program.code inputs (state_of program.code m ws outs)
      ≡ Some (state to stack (loops_of (enclosing program.code m.place) ws) (locals_of ws) outs)
      → enclosing program.code to ≡ enclosing program.code m.place → stack ≡ stack_of height ws → n ≡ machine to height m.depth
      → Steps program inputs m ws outs n ws outs
  lands i n stack to height f does inside stacks machine_is =
      rw machine_is (stepped_to inputs f (machine to height m.depth) ws outs to stack (loops_of (enclosing program.code m.place) ws)
      (locals_of ws) outs does (f.stands.depth ∙ ap (length {A = ℕ}) (sym inside)) refl stacks
      (ap (λ e. loops_of e ws) (sym inside)) refl refl)

  -- a Jump is a step to its target, with the same height, loops and words
  pub jumps : {to : ℕ} {n : Machine} → Fetched program m ws outs (Jump to) → n ≡ machine to m.height m.depth → Steps program inputs m ws outs n ws outs
  jumps {to} {n} f machine_is = lands (Jump to) n (stack_of m.height ws) to m.height f refl (jump_lands program f.sound m.place to f.at).same_loops refl machine_is

  tests : (to : ℕ) (b : Bool) → Fetched program m ws outs (JumpZ to) → (slice_index ws (m.height - 1) == 0) ≡ b
      → tested to (state_of program.code m ws outs) (stack_of m.height ws)
      ≡ Some (state (if b then to else m.place + 1) (stack_of (m.height - 1) ws) (loops_of (enclosing program.code m.place) ws)
      (locals_of ws) outs)
  tests to b f is =
      ap (tested to (state_of program.code m ws outs)) (stack_of-top m.height ws (heights f).0)
      ∙ ap (λ (b' : Bool). Some
      (state (if b' then to else m.place + 1) (stack_of (m.height - 1) ws) (loops_of (enclosing program.code m.place) ws)
      (locals_of ws) outs)) is

  at_zero : {to : ℕ} {n : Machine} → Fetched program m ws outs (JumpZ to) → slice_index ws (m.height - 1) ≡ 0
      → n ≡ machine to (m.height - 1) m.depth → Steps program inputs m ws outs n ws outs
  at_zero {to} {n} f none machine_is =
      lands (JumpZ to) n (stack_of (m.height - 1) ws) to (m.height - 1) f (tests to true f (ap (λ x. x == 0) none)) (jumpz_lands program f.sound m.place to f.at).same_loops refl machine_is

  at_others : {to : ℕ} {n : Machine} → Fetched program m ws outs (JumpZ to) → (slice_index ws (m.height - 1) == 0) ≡ false
      → n ≡ machine (m.place + 1) (m.height - 1) m.depth → Steps program inputs m ws outs n ws outs
  at_others {to} {n} f is machine_is =
      rw machine_is (plain inputs f (machine (m.place + 1) (m.height - 1) m.depth) ws outs (stack_of (m.height - 1) ws) (locals_of ws) outs
      (record { nests = λ next loops. refl; costs = λ cs. refl; heights = λ next trail. refl })
      (tests to false f is) refl refl refl refl refl refl)

  -- a test
  pub jumps_at_zero : {to : ℕ} {n k : Machine} (w : ℕ) → Fetched program m ws outs (JumpZ to) → w ≡ slice_index ws (m.height - 1)
      → k ≡ machine (m.place + 1) (m.height - 1) m.depth → (w ≡ 0 → n ≡ at_place to k) → (w ≢ 0 → n ≡ k)
      → Steps program inputs m ws outs n ws outs
  jumps_at_zero {to} {n} w f word popped at_none other =
      elim (eqb_tells (slice_index ws (m.height - 1)) 0) [
        | inl e ↦ at_zero f e.1 (at_none (word ∙ e.1) ∙ ap (at_place to) popped)
        | inr d ↦ at_others f d.0 (other (λ none. d.1 (sym word ∙ none)) ∙ popped)
      ]

  -- a loop of no rounds
  skips : (n : Machine) (vs : List ℕ) → Fetched program m ws outs (Begin 0) → Passes program.code (machine (m.place + 1) m.height m.depth) n ws vs → Steps program inputs m ws outs n vs outs
  skips n vs f passes =
      let matched = (braced program f.sound).begins m.place 0 f.at in
      let past = past_end program.code (braced program f.sound) m.place 0 matched.0 f.at matched.1 in
      let there : Some (m.place + 1 + matched.0) ≡ Some n.place = sym (ap (onward (m.place + 1)) matched.1) ∙ passes.past in
      let place : m.place + 1 + matched.0 ≡ n.place = cc in
      let inside : enclosing program.code n.place ≡ enclosing program.code m.place = ap (enclosing program.code) (sym place) ∙ past.outside in
      rw passes.words (stepped_to inputs f n ws outs (m.place + 1 + matched.0) (stack_of m.height ws)
      (loops_of (enclosing program.code m.place) ws) (locals_of ws) outs (ap (skipped (state_of program.code m ws outs)) matched.1)
      (passes.depth ∙ (f.stands.depth ∙ ap (length {A = ℕ}) (sym inside))) place (ap (λ h. stack_of h ws) (sym passes.height)) (ap (λ e. loops_of e ws) (sym inside)) refl refl)

  -- a loop begun
  enters : (k : ℕ) (n : Machine) (vs : List ℕ) → Fetched program m ws outs (Begin (suc k))
      → Enters (suc k) (machine (m.place + 1) m.height m.depth) n ws vs → Steps program inputs m ws outs n vs outs
  enters k n vs f e =
      let inside : enclosing program.code (m.place + 1) ≡ (m.place + 1) ∷ enclosing program.code m.place = nested_here program.code (braced program f.sound) m.place (Begin (suc k)) f.at in
      let wide = f.wide in
      let few = uncrowded program f.sound m.place (suc k) f.at in
      let low = heights f in
      let words : vs ≡ slice_set ws (lefts_start + length (enclosing program.code m.place)) (suc k) = e.words ∙ ap (λ d. slice_set ws (lefts_start + d) (suc k)) f.stands.depth in
      let at_left = lefts_start + length (enclosing program.code m.place) in
      rw (e.one_more, words)
      (stepped_to inputs f (machine (m.place + 1) m.height (m.depth + 1)) (slice_set ws at_left (suc k)) outs (m.place + 1)
      (stack_of m.height ws) (record { start = m.place + 1; left = suc k } ∷ loops_of (enclosing program.code m.place) ws)
      (locals_of ws) outs refl
      (omega (arith, f.stands.depth, ap (length {A = ℕ}) inside)) refl (sym (stack_of-set m.height ws at_left (suc k) (omega (arith, low.1))))
      (sym (ap (λ l. loops_of l (slice_set ws at_left (suc k))) inside
      ∙ loops_of-push (m.place + 1) (suc k) (enclosing program.code m.place) ws (omega (arith, few))))
      (sym (locals_of-above ws at_left (suc k) (omega arith))) refl)

  -- a Begin
  pub begins : (k : ℕ) {n : Machine} {vs : List ℕ} → Fetched program m ws outs (Begin k)
      → (k ≡ 0 → Passes program.code (machine (m.place + 1) m.height m.depth) n ws vs)
      → (0 < k → Enters k (machine (m.place + 1) m.height m.depth) n ws vs) → Steps program inputs m ws outs n vs outs
  begins zero {n} {vs} f none some = skips n vs f (none refl)
  begins (suc k) {n} {vs} f none some = enters k n vs f (some (omega arith))

  -- out of a loop
  leaves : (left start : ℕ) (outer : List ℕ) (n : Machine) (vs : List ℕ) → Fetched program m ws outs End
      → enclosing program.code m.place ≡ start ∷ outer → n ≡ machine (m.place + 1) m.height (m.depth - 1) → vs ≡ ws
      → effect End program.code inputs (state_of program.code m ws outs)
      ≡ Some (state (m.place + 1) (stack_of m.height ws) (loops_of outer ws) (locals_of ws) outs) → Steps program inputs m ws outs n vs outs
  leaves left start outer n vs f is machine_is words does =
      let inside : enclosing program.code (m.place + 1) ≡ outer = nested_here program.code (braced program f.sound) m.place End f.at ∙ ap (drop 1) is in
      rw (machine_is, words) (stepped_to inputs f (machine (m.place + 1) m.height (m.depth - 1)) ws outs (m.place + 1) (stack_of m.height ws) (loops_of outer ws) (locals_of ws) outs does
      (omega (arith, f.stands.depth, ap (length {A = ℕ}) is, ap (length {A = ℕ}) inside)) refl refl (ap (λ e. loops_of e ws) (sym inside)) refl refl)

  -- back to the start of a loop
  goes_back : (k start : ℕ) (outer : List ℕ) (n : Machine) (vs : List ℕ) → Fetched program m ws outs End
      → enclosing program.code m.place ≡ start ∷ outer → n ≡ machine start m.height m.depth
      → vs ≡ slice_set ws (lefts_start + length outer) (suc k) → effect End program.code inputs (state_of program.code m ws outs)
      ≡ Some (state start (stack_of m.height ws) (record { start = start; left = suc k } ∷ loops_of outer ws) (locals_of ws) outs)
      → Steps program inputs m ws outs n vs outs
  goes_back k start outer n vs f is machine_is words does =
      let inside : enclosing program.code start ≡ start ∷ outer = (opened_before program.code m.place start outer [] is).inside in
      let wide = f.wide in
      let few = enclosing_few program f.sound m.place f.stands.agrees.within in
      let low = heights f in
      let at_left = lefts_start + length outer in
      rw (machine_is, words)
      (stepped_to inputs f (machine start m.height m.depth) (slice_set ws at_left (suc k)) outs start (stack_of m.height ws)
      (record { start = start; left = suc k } ∷ loops_of outer ws) (locals_of ws) outs does
      (f.stands.depth ∙ (ap (length {A = ℕ}) is ∙ sym (ap (length {A = ℕ}) inside))) refl (sym (stack_of-set m.height ws at_left (suc k) (omega (arith, low.1))))
      (sym (ap (λ l. loops_of l (slice_set ws at_left (suc k))) inside
      ∙ loops_of-push start (suc k) outer ws (omega (arith, few, ap (length {A = ℕ}) is))))
      (sym (locals_of-above ws at_left (suc k) (omega arith))) refl)

  round : (left start : ℕ) (outer : List ℕ) (n : Machine) (vs : List ℕ) → Fetched program m ws outs End
      → enclosing program.code m.place ≡ start ∷ outer → slice_index ws (lefts_start + length outer) ≡ left
      → EndsRound left start (machine (m.place + 1) m.height m.depth) n ws vs → Steps program inputs m ws outs n vs outs
  round zero start outer n vs f is left ends =
      leaves 0 start outer n vs f is ends.0 ends.1 (ap (λ e. ended (state_of program.code m ws outs) (loops_of e ws)) is
      ∙ ap (λ k. round_ended (state_of program.code m ws outs)
      (record { start = start; left = slice_index ws (lefts_start + length outer) }) k (loops_of outer ws)) left)
  round (suc zero) start outer n vs f is left ends =
      leaves 1 start outer n vs f is ends.0 ends.1 (ap (λ e. ended (state_of program.code m ws outs) (loops_of e ws)) is
      ∙ ap (λ k. round_ended (state_of program.code m ws outs)
      (record { start = start; left = slice_index ws (lefts_start + length outer) }) k (loops_of outer ws)) left)
  round (suc (suc k)) start outer n vs f is left ends =
      let where_left : lefts_start + m.depth - 1 ≡ lefts_start + length outer = omega (arith, f.stands.depth, ap (length {A = ℕ}) is) in
      goes_back k start outer n vs f is ends.0 (ends.1 ∙ ap (λ q. slice_set ws q (suc k)) where_left)
      (ap (λ e. ended (state_of program.code m ws outs) (loops_of e ws)) is
      ∙ ap (λ q. round_ended (state_of program.code m ws outs)
      (record { start = start; left = slice_index ws (lefts_start + length outer) }) q (loops_of outer ws)) left)

  ends_by : (start : ℕ) (loops : List ℕ) (n : Machine) (vs : List ℕ) → Fetched program m ws outs End
      → enclosing program.code m.place ≡ loops → innermost loops ≡ Some start
      → EndsRound (slice_index ws (lefts_start + m.depth - 1)) start (machine (m.place + 1) m.height m.depth) n ws vs
      → Steps program inputs m ws outs n vs outs
  ends_by start [] n vs f is first ends = cc
  ends_by start (s ∷ outer) n vs f is first ends =
      let same : s ≡ start = cc in
      let where_left : lefts_start + m.depth - 1 ≡ lefts_start + length outer = omega (arith, f.stands.depth, ap (length {A = ℕ}) is) in
      round (slice_index ws (lefts_start + m.depth - 1)) start outer n vs f (is ∙ ap (λ q. q ∷ outer) same) (ap (slice_index ws) (sym where_left)) ends

  -- each End has an open loop
  pub started : Fetched program m ws outs End → start_at program.code m.place ≡ None → ⊥
  started f none = by (enclosing program.code m.place) refl none
    where
      by : (loops : List ℕ) → enclosing program.code m.place ≡ loops → innermost loops ≡ None → ⊥
      by [] is first = (braced program f.sound).ends m.place f.at is
      by (s ∷ outer) is first = cc

  -- an End
  pub ends : {start : ℕ} {n : Machine} {vs : List ℕ} → Fetched program m ws outs End → start_at program.code m.place ≡ Some start
      → EndsRound (slice_index ws (lefts_start + m.depth - 1)) start (machine (m.place + 1) m.height m.depth) n ws vs
      → Steps program inputs m ws outs n vs outs
  ends {start} {n} {vs} f first ended_so = ends_by start (enclosing program.code m.place) n vs f refl first ended_so
