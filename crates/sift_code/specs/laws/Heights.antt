-- Heights: what a jump brings is there when its target comes.
use Rattle.std.proofs.Common.{◌≡◌, ℕ, zero, suc, ◌+◌, ◌-◌, ◌<◌, Bool, true, false, List, ◌∷◌, Option, Some, None, refl, sym, ap, subst, arith, add-one, eq-eqb, inl, inr}
use Rattle.std.specs.Prelude.{slice_get, ◌≢◌, ◌==◌, if◌then◌else◌}
use Rattle.std.specs.List.{All}
use Rattle.std.proofs.lemmas.Bool.Decides.{eqb_tells}
use Rattle.std.proofs.lemmas.List.Elements.{All-head, All-tail}
use Rattle.sift_code.specs.declared.instr.Instr.{Instr}
use Rattle.sift_code.specs.declared.instr.Instr.TheVariants.{JumpZ, Jump}
use Rattle.sift_code.specs.Heights.{Arrival, Trail, trail_at, height_at, brought_to, brought_by, followed, next_height, height_after}

-- one place on
pub trail_here : (code : List Instr) (p : ℕ) (i : Instr) → slice_get code p ≡ Some i → trail_at code (p + 1) ≡ followed (Some i) (p + 1) (trail_at code p)
trail_here code p i at = rw add-one (ap (λ o. followed o (suc p) (trail_at code p)) at)

-- the height at the next place is the one to which the instruction at this place leads, from what is known on arrival there
pub height_here : (code : List Instr) (p : ℕ) (i : Instr) → slice_get code p ≡ Some i → height_at code (p + 1) ≡ next_height i (p + 1) (trail_at code p)
height_here code p i at = ap (λ t. t.height) (trail_here code p i at)

-- two numbers that can't differ are the same
pub same_number : (m n : ℕ) → (m ≢ n → ⊥) → m ≡ n
same_number m n h = elim (eqb_tells m n) [ inl e ↦ e.1 | inr d ↦ absurd (h d.1) ]

-- the height is among those that were brought to the place
abbrev pub Carries : List Arrival → ℕ → ℕ → Type 0
Carries brought to height = (x : ℕ) → All (λ h. h ≡ x) (brought_to to brought) → height ≡ x

carried_by : (arrival : Arrival) (rest : List Arrival) (to height : ℕ) → (b : Bool) → (arrival.place == to) ≡ b → Carries rest to height
    → (x : ℕ) → All (λ h. h ≡ x) (if b then arrival.height ∷ brought_to to rest else brought_to to rest) → height ≡ x
carried_by arrival rest to height true is carries x all = carries x (All-tail (λ h. h ≡ x) arrival.height (brought_to to rest) all)
carried_by arrival rest to height false is carries x all = carries x all

-- one more arrival
carries_more : (arrival : Arrival) (rest : List Arrival) (to height : ℕ) → Carries rest to height → Carries (arrival ∷ rest) to height
carries_more arrival rest to height carries x all = carried_by arrival rest to height (arrival.place == to) refl carries x all

-- what has just arrived
carries_new : (rest : List Arrival) (to height : ℕ) → Carries (record { place = to; height = height } ∷ rest) to height
carries_new rest to height x all =
    All-head (λ h. h ≡ x) height (brought_to to rest) (subst (λ (b : Bool). All (λ h. h ≡ x) (if b then height ∷ brought_to to rest else brought_to to rest)) (eq-eqb to to refl) all)

carries_behind : (i : Instr) (trail : Trail) (to height : ℕ) → Carries trail.brought to height → Carries (brought_by i trail) to height
carries_behind (JumpZ t) trail to height carries = carries_more (record { place = t; height = height_after (JumpZ t) trail.height }) trail.brought to height carries
carries_behind (Jump t) trail to height carries = carries_more (record { place = t; height = trail.height }) trail.brought to height carries
carries_behind _ trail to height carries = carries

carries_followed : (o : Option Instr) (next : ℕ) (trail : Trail) (to height : ℕ) → Carries trail.brought to height → Carries (followed o next trail).brought to height
carries_followed None next trail to height carries = carries
carries_followed (Some i) next trail to height carries = carries_behind i trail to height carries

-- what was brought stays
carries_on : (code : List Instr) (n p to height : ℕ) → Carries (trail_at code p).brought to height → Carries (trail_at code (n + p)).brought to height
carries_on code zero p to height carries = let e : 0 + p ≡ p = omega arith in subst (λ q. Carries (trail_at code q).brought to height) (sym e) carries
carries_on code (suc n) p to height carries =
    let e : suc n + p ≡ suc (n + p) = omega arith in
    let before = carries_on code n p to height carries in
    subst (λ q. Carries (trail_at code q).brought to height) (sym e)
    (carries_followed (slice_get code (n + p)) (suc (n + p)) (trail_at code (n + p)) to height before)

-- the height that a jump brings to a place ahead is among those that were brought there
carries_there : (code : List Instr) (p to height : ℕ) (i : Instr) → slice_get code p ≡ Some i
    → ((trail : Trail) → trail ≡ trail_at code p → Carries (brought_by i trail) to height) → p < to
    → Carries (trail_at code to).brought to height
carries_there code p to height i at brings ahead =
    let e : to - (p + 1) + (p + 1) ≡ to = omega arith in
    subst (λ q. Carries (trail_at code q).brought to height) e
    (carries_on code (to - (p + 1)) (p + 1) to height (subst (λ (t : Trail). Carries t.brought to height) (sym (trail_here code p i at)) (brings (trail_at code p) refl)))

-- a JumpZ brings the height behind it to its target ahead: where all heights that were brought there are one, they are this one
pub jumpz_carries : (code : List Instr) (p to : ℕ) → slice_get code p ≡ Some (JumpZ to) → p < to → Carries (trail_at code to).brought to (height_after (JumpZ to) (height_at code p))
jumpz_carries code p to at ahead =
    carries_there code p to (height_after (JumpZ to) (height_at code p)) (JumpZ to) at
    (λ trail e. subst (λ (h : ℕ). Carries (brought_by (JumpZ to) trail) to (height_after (JumpZ to) h)) (ap (λ (t : Trail). t.height) e)
    (carries_new trail.brought to (height_after (JumpZ to) trail.height))) ahead

-- a Jump brings the height before it to its target ahead: where all heights that were brought there are one, they are this one
pub jump_carries : (code : List Instr) (p to : ℕ) → slice_get code p ≡ Some (Jump to) → p < to → Carries (trail_at code to).brought to (height_at code p)
jump_carries code p to at ahead =
    carries_there code p to (height_at code p) (Jump to) at
    (λ trail e. subst (λ (h : ℕ). Carries (brought_by (Jump to) trail) to h) (ap (λ (t : Trail). t.height) e) (carries_new trail.brought to trail.height)) ahead
