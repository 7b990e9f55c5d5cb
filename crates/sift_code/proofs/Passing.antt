-- The walk goes on over an instruction.
use Rattle.std.proofs.Common.{◌≡◌, ℕ, ◌+◌, ◌-◌, ◌<◌, ◌≤◌, Bool, true, false, List, [], ◌∷◌, ◌++◌, length, take, drop, Option, Some, None, refl, sym, ap, ◌∙◌, subst, arith, add-one, inl, inr}
use Rattle.std.specs.Prelude.{slice_get, slice_set, slice_index, slice_index_or, ◌≢◌, ◌⊎◌, ◌==◌, if◌then◌else◌, max}
use Rattle.std.proofs.lemmas.Bool.Decides.{eqb_tells}
use Rattle.std.proofs.lemmas.List.{get_or-set_same, get_or-set_other, length-set, length-drop}
use Rattle.std.proofs.lemmas.Option.{slice_get_within}
use Rattle.sift_code.specs.declared.instr.Instr.{Instr}
use Rattle.sift_code.specs.declared.instr.Instr.TheVariants.{JumpZ, Jump, Begin, End}
use Rattle.sift_code.specs.declared.nest.Brought.{Brought}
use Rattle.sift_code.specs.declared.nest.Walk.{Walk}
use Rattle.sift_code.specs.Machine.{through_end}
use Rattle.sift_code.specs.Enclosing.{opened_by, enclosing}
use Rattle.sift_code.specs.Heights.{Arrival, Trail, trail_at, height_at, height_after, pops, pushes, next_height, height_behind, behind_jump, brought_by, brought_to}
use Rattle.sift_code.specs.Refusal.{IsBadJump, IsBadJumpAt, IsBadTarget, IsUnderflow, IsUnderflowAt, IsTooDeep, IsTallAt, stack_limit}
use Rattle.sift_code.specs.Walk.{joined, summary, behind, AreBrought, IsAt}
use Rattle.sift_code.specs.laws.Enclosing.{IsNoBrace, enclosing_here, opened_plain}
use Rattle.sift_code.specs.laws.Heights.{trail_here, height_here}
use Rattle.sift_code.proofs.Tables.{all_written}
use Rattle.sift_code.proofs.Walks.{read_height, read_brought}

-- ---- heights

heights_above : (entry : ℕ → ℕ) (p last : ℕ) (table : List ℕ) (v : ℕ) → p < last → length table ≡ last + 1
    → ((q : ℕ) → q ≤ p → slice_index table q ≡ entry q) → v ≡ entry (p + 1) → (q : ℕ) → q ≤ p + 1
    → slice_index (slice_set table (p + 1) v) q ≡ entry q
heights_above entry p last table v within long tells is q to = by (eqb_tells q (p + 1))
  where
    by : ((q == (p + 1)) ≡ true) × (q ≡ p + 1) ⊎ (((q == (p + 1)) ≡ false) × (q ≢ p + 1)) → slice_index (slice_set table (p + 1) v) q ≡ entry q
    by (inl e) = rw e.1 (get_or-set_same table (p + 1) v 0 (omega arith) ∙ is)
    by (inr d) = get_or-set_other table (p + 1) q v 0 d.1 ∙ tells q (omega (arith, d.1))

behind_jump-summary : (hs : List ℕ) (to before : ℕ) → behind (Jump to) (summary hs) (height_after (Jump to) before) ≡ behind_jump hs before
behind_jump-summary [] to before = omega arith
behind_jump-summary (h ∷ hs) to before = by (summary hs)
  where
    by : (o : Option Brought) → (joined h o).height ≡ h
    by None = refl
    by (Some b) = refl

-- the height behind an instruction, by the summary of what was brought there
behind-summary : (i : Instr) (next : ℕ) (trail : Trail) → behind i (summary (brought_to next trail.brought)) (height_after i trail.height) ≡ next_height i next trail
behind-summary (Jump to) next trail = behind_jump-summary (brought_to next trail.brought) to trail.height
behind-summary _ next trail = refl

-- ---- what was brought

brought_step : (arrival : Arrival) (rest : List Arrival) (p last : ℕ) (table : List (Option Brought)) → length table ≡ last + 1
    → arrival.place ≤ last → slice_index_or table p None ≡ summary (brought_to p rest) → ((arrival.place == p) ≡ true) × (arrival.place ≡ p)
    ⊎ (((arrival.place == p) ≡ false) × (arrival.place ≢ p))
    → slice_index_or (slice_set table arrival.place (Some (joined arrival.height (slice_index_or table arrival.place None)))) p None
    ≡ summary (brought_to p (arrival ∷ rest))
brought_step arrival rest p last table long within is (inl e) =
    subst (λ (b : Bool). slice_index_or
    (slice_set table arrival.place (Some (joined arrival.height (slice_index_or table arrival.place None)))) p None
    ≡ summary (if b then arrival.height ∷ brought_to p rest else brought_to p rest)) (sym e.0)
    (rw e.1 (get_or-set_same table p (Some (joined arrival.height (slice_index_or table p None))) None (omega (arith, e.1)) ∙ ap (λ o. Some (joined arrival.height o)) is))
brought_step arrival rest p last table long within is (inr d) =
    subst (λ (b : Bool). slice_index_or
    (slice_set table arrival.place (Some (joined arrival.height (slice_index_or table arrival.place None)))) p None
    ≡ summary (if b then arrival.height ∷ brought_to p rest else brought_to p rest)) (sym d.0)
    (get_or-set_other table arrival.place p (Some (joined arrival.height (slice_index_or table arrival.place None))) None (λ e. d.1 (sym e)) ∙ is)

-- one more height is brought
pub brought_more : (arrival : Arrival) (rest : List Arrival) (last : ℕ) (table : List (Option Brought)) → arrival.place ≤ last
    → AreBrought last rest table
    → AreBrought last (arrival ∷ rest)
    (slice_set table arrival.place (Some (joined arrival.height (slice_index_or table arrival.place None))))
brought_more arrival rest last table within are = record {
  long = length-set table arrival.place _ ∙ are.long;
  entries = λ p to. brought_step arrival rest p last table are.long within (are.entries p to) (eqb_tells arrival.place p);
}

-- a jump that isn't bad goes no farther than the code's length
pub target_within : (code : List Instr) (p to : ℕ) (i : Instr) → slice_get code p ≡ Some i
    → (IsBadTarget code p to → IsBadJumpAt code p (Some i)) → (IsBadJump code p → ⊥) → to ≤ length code
target_within code p to i at bad good =
    let h : (length code < to) → ⊥ = λ past. good (subst (λ o. IsBadJumpAt code p o) (sym at) (bad (inr (inl past)))) in
    omega arith

-- ---- depth

-- behind a Begin that has its End one loop more is open than before it
pub deeper : (code : List Instr) (p k : ℕ) → slice_get code p ≡ Some (Begin k) → (IsBadJump code p → ⊥) → length (enclosing code (p + 1)) ≡ length (enclosing code p) + 1
deeper code p k at good = ap (length {A = ℕ}) (enclosing_here code p (Begin k) at) ∙ by (through_end 0 (drop (p + 1) code)) refl
  where
    by : (o : Option ℕ) → through_end 0 (drop (p + 1) code) ≡ o → length (opened_by (through_end 0 (drop (p + 1) code)) (p + 1) (enclosing code p)) ≡ length (enclosing code p) + 1
    by None none = absurd (good (subst (λ o. IsBadJumpAt code p o) (sym at) none))
    by (Some n) some = ap (λ o. length (opened_by o (p + 1) (enclosing code p))) some ∙ omega arith

-- behind an End one loop fewer is open than before it, and none where none was
pub shallower : (code : List Instr) (p : ℕ) → slice_get code p ≡ Some End → length (enclosing code (p + 1)) ≡ length (enclosing code p) - 1
shallower code p at = ap (length {A = ℕ}) (enclosing_here code p End at) ∙ length-drop 1 (enclosing code p)

-- behind an instruction that is neither a Begin nor an End as many loops are open as before it
pub as_deep : (code : List Instr) (p : ℕ) (i : Instr) → slice_get code p ≡ Some i → IsNoBrace i → length (enclosing code (p + 1)) ≡ length (enclosing code p)
as_deep code p i at no_brace = ap (length {A = ℕ}) (enclosing_here code p i at ∙ opened_plain code (p + 1) i (enclosing code p) no_brace)

-- ---- the walk

-- an instruction that is no jump adds nothing to what was brought
pub brings_nothing : (i : Instr) (trail : Trail) → ((to : ℕ) → i ≡ JumpZ to → ⊥) → ((to : ℕ) → i ≡ Jump to → ⊥) → brought_by i trail ≡ trail.brought
brings_nothing (JumpZ to) trail not_jumpz not_jump = absurd (not_jumpz to refl)
brings_nothing (Jump to) trail not_jumpz not_jump = absurd (not_jump to refl)
brings_nothing _ trail not_jumpz not_jump = refl

-- one place on, by what was read of the tables
pub passed : (code : List Instr) (p : ℕ) (i : Instr) (w t : Walk) (v h pop push : ℕ) (brought : Option Brought) → slice_get code p ≡ Some i
    → IsAt code p w → h ≡ slice_index_or w.heights.items p h → pop ≡ pops i → push ≡ pushes i
    → brought ≡ slice_index_or w.brought.items (p + 1) brought → v ≡ behind i brought (h - pop + push)
    → t.heights.items ≡ slice_set w.heights.items (p + 1) v → AreBrought (length code) (brought_by i (trail_at code p)) t.brought.items
    → t.depth ≡ length (enclosing code (p + 1)) → t.stack ≡ max w.stack (h - pop + push) → IsAt code (p + 1) t
passed code p i w t v h pop push brought at here h_is pop_is push_is brought_is v_is heights are depth stack =
    let within : p < length code = slice_get_within code p i at in
    let high = read_height w.heights.items p h (height_at code p) (omega (arith, here.long)) h_is (here.heights p (omega arith)) in
    let after_is : h - pop + push ≡ height_after i (height_at code p) = cc in
    let told = read_brought w.brought.items (p + 1) brought (summary (brought_to (p + 1) (trail_at code p).brought))
    (omega (arith, here.brought.long)) brought_is (here.brought.entries (p + 1) (omega arith)) in
    let value : v ≡ height_at code (p + 1) = v_is
    ∙ (ap (λ b. behind i b (h - pop + push)) told
    ∙ (ap (behind i (summary (brought_to (p + 1) (trail_at code p).brought))) after_is
    ∙ (behind-summary i (p + 1) (trail_at code p) ∙ sym (height_here code p i at)))) in
    let trail : (trail_at code (p + 1)).brought ≡ brought_by i (trail_at code p) = ap (λ (t : Trail). t.brought) (trail_here code p i at) in
    record {
      long = ap (length {A = ℕ}) heights ∙ (length-set w.heights.items (p + 1) v ∙ here.long);
      heights = λ q to. ap (λ (l : List ℕ). slice_index l q) heights ∙ heights_above (height_at code) p (length code) w.heights.items v within here.long here.heights value q to;
      brought = subst (λ l. AreBrought (length code) l t.brought.items) (sym trail) are;
      depth = depth;
      stack = stack ∙ (ap (max w.stack) (after_is ∙ sym (ap (λ o. height_behind o (height_at code p)) at))
          ∙ (ap (λ s. max s (height_behind (slice_get code p) (height_at code p))) here.stack ∙ rw add-one refl));
    }

-- where there is no underflow, what was read is at least what the instruction pops
pub high_enough : (code : List Instr) (p : ℕ) (i : Instr) (w : Walk) (h pop : ℕ) → slice_get code p ≡ Some i → IsAt code p w
    → h ≡ slice_index_or w.heights.items p h → pop ≡ pops i → (IsUnderflow code p → ⊥) → pop ≤ h
high_enough code p i w h pop at here h_is pop_is filled =
    let within : p < length code = slice_get_within code p i at in
    let high = read_height w.heights.items p h (height_at code p) (omega (arith, here.long)) h_is (here.heights p (omega arith)) in
    let enough : (height_at code p < pops i) → ⊥ = λ few. filled (subst (λ o. IsUnderflowAt (height_at code p) o) (sym at) few) in
    omega arith

-- where the stack isn't too deep, the height after the instruction is at most its limit
pub low_enough : (code : List Instr) (p : ℕ) (i : Instr) (w : Walk) (h pop push : ℕ) → slice_get code p ≡ Some i → IsAt code p w
    → h ≡ slice_index_or w.heights.items p h → pop ≡ pops i → push ≡ pushes i → (IsTooDeep code p → ⊥) → h - pop + push ≤ stack_limit
low_enough code p i w h pop push at here h_is pop_is push_is shallow =
    let within : p < length code = slice_get_within code p i at in
    let high = read_height w.heights.items p h (height_at code p) (omega (arith, here.long)) h_is (here.heights p (omega arith)) in
    let after_is : h - pop + push ≡ height_after i (height_at code p) = cc in
    let low : (stack_limit < height_after i (height_at code p)) → ⊥ = λ tall. shallow (inl (subst (λ o. IsTallAt (height_at code p) o) (sym at) tall)) in
    omega arith

-- a jump brought its height, in a table that was written in place
pub brought_by_jump : (code : List Instr) (p to : ℕ) (i : Instr) (w : Walk) (h pop push : ℕ) (table written : List (Option Brought))
    → slice_get code p ≡ Some i → IsAt code p w
    → (brought_by i (trail_at code p) ≡ record { place = to; height = height_after i (height_at code p) } ∷ (trail_at code p).brought)
    → (IsBadTarget code p to → IsBadJumpAt code p (Some i)) → (IsBadJump code p → ⊥) → h ≡ slice_index_or w.heights.items p h → pop ≡ pops i
    → push ≡ pushes i → table ≡ w.brought.items
    → written ≡ slice_set table to (Some (joined (h - pop + push) (slice_index_or table to None)))
    → AreBrought (length code) (brought_by i (trail_at code p)) (take w.brought.len (written ++ drop (length written) w.brought.items))
brought_by_jump code p to i w h pop push table written at here brings bad good h_is pop_is push_is same is =
    let within : p < length code = slice_get_within code p i at in
    let high = read_height w.heights.items p h (height_at code p) (omega (arith, here.long)) h_is (here.heights p (omega arith)) in
    let after_is : h - pop + push ≡ height_after i (height_at code p) = cc in
    let wrote : written ≡ slice_set w.brought.items to (Some (joined (height_after i (height_at code p)) (slice_index_or w.brought.items to None))) =
    is ∙ (ap (λ l. slice_set l to (Some (joined (h - pop + push) (slice_index_or l to None)))) same
    ∙ ap (λ n. slice_set w.brought.items to (Some (joined n (slice_index_or w.brought.items to None)))) after_is) in
    let all = all_written w.brought.items written w.brought.len (sym w.brought.ok.0) (ap (length {A = Option Brought}) wrote ∙ length-set w.brought.items to _) in
    let more = brought_more (record { place = to; height = height_after i (height_at code p) }) (trail_at code p).brought
    (length code) w.brought.items (target_within code p to i at bad good) here.brought in
    subst (λ l. AreBrought (length code) l (take w.brought.len (written ++ drop (length written) w.brought.items))) (sym brings)
    (subst (λ (l : List (Option Brought)). AreBrought (length code) (record { place = to; height = height_after i (height_at code p) } ∷ (trail_at code p).brought) l) (sym (all ∙ wrote)) more)

-- the instruction is one of the two jumps to a place
abbrev pub IsJump : Instr → ℕ → Type 0
IsJump i to = (i ≡ JumpZ to) ⊎ (i ≡ Jump to)

-- a jump adds to what was brought the height behind it, at its target
pub jump_brings : (code : List Instr) (p to : ℕ) (i : Instr) → IsJump i to
    → brought_by i (trail_at code p) ≡ record { place = to; height = height_after i (height_at code p) } ∷ (trail_at code p).brought
jump_brings code p to i (inl e) = rw e refl
jump_brings code p to i (inr e) = let same : height_at code p - 0 + 0 ≡ height_at code p = omega arith in rw (e, same) refl

-- a jump whose target is bad is a bad jump
pub jump_may_be_bad : (code : List Instr) (p to : ℕ) (i : Instr) → IsJump i to → IsBadTarget code p to → IsBadJumpAt code p (Some i)
jump_may_be_bad code p to i (inl e) bad = rw e bad
jump_may_be_bad code p to i (inr e) bad = rw e bad

-- at the place behind a jump as many loops are open as at the jump
pub jump_depth : (code : List Instr) (p to : ℕ) (i : Instr) → slice_get code p ≡ Some i → IsJump i to → length (enclosing code (p + 1)) ≡ length (enclosing code p)
jump_depth code p to i at (inl e) = as_deep code p i at (λ k f. cc, λ f. cc)
jump_depth code p to i at (inr e) = as_deep code p i at (λ k f. cc, λ f. cc)
