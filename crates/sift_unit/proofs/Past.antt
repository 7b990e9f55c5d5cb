-- Places of frames that are past, and functions with another value at one place.
use Rattle.std.proofs.Common.{◌≡◌, inl, inr, ℕ, ◌+◌, ◌<◌, ◌≤◌, ◌&&◌, ◌||◌, nat_lt, nat_eq, Bool, true, false, Option, Some, refl, arith, lt-ltb, le-ltb, ltb-true, ltb-false, eq-eqb, ne_eqb}
use Rattle.std.proofs.lemmas.Bool.{cases_Bool}
use mathlib.Core.Logic.{dite}
use native.Mathlib.Decide.{ℕ_discrete}
use Rattle.sift_buffer.specs.Conduct.{put_at}
use Rattle.sift_mission.specs.Stops.{spot}
use Rattle.sift_unit.specs.Desk.{is_past}

-- a place is below both of two marks or neither, where it is below the first if it is below the second
lt_moves : (s from to : ℕ) → from ≤ to → (s < to → s < from) → nat_lt s from ≡ nat_lt s to
lt_moves s from to up free = elim (cases_Bool (nat_lt s to)) [
  | inl t ↦ rw (t, lt-ltb s from (free (ltb-true s to t))) refl
  | inr t ↦ let low = ltb-false s to t in rw (t, le-ltb s from (omega arith)) refl
]

-- a place stays past, or not, on the way from one place of a frame to another
pub past_same : (frame at at' f s : ℕ) → at ≤ at' → (f ≡ frame → s < at' → s < at) → is_past frame at f s ≡ is_past frame at' f s
past_same frame at at' f s up quiet = dite (ℕ_discrete f frame)
    (λ e. rw (lt_moves s at at' up (quiet e)) refl)
    (λ e. rw (ne_eqb f frame e) refl)

-- and on the way from a frame's end to the next frame
pub past_next : (frame at f s : ℕ) → (f ≡ frame → s < at) → is_past frame at f s ≡ is_past (frame + 1) 0 f s
past_next frame at f s all = dite (ℕ_discrete f frame)
    (λ e. rw (eq-eqb f frame e, lt-ltb s at (all e), lt-ltb f (frame + 1) (omega arith)) (either (nat_lt f frame)))
    (λ e. elim (cases_Bool (nat_lt f frame)) [
      | inl t ↦ let low = ltb-true f frame t in rw (t, lt-ltb f (frame + 1) (omega arith)) refl
      | inr t ↦ let low = ltb-false f frame t in
          rw (t, ne_eqb f frame e, le-ltb f (frame + 1) (omega arith), le-ltb s 0 (omega arith)) (none (nat_eq f (frame + 1)))
    ])
  where
    either : (b : Bool) → (b || true) ≡ true
    either true = refl
    either false = refl

    none : (b : Bool) → false ≡ (b && false)
    none true = refl
    none false = refl

-- a place of this frame before the cursor is past
pub past_here : (frame at s : ℕ) → s < at → is_past frame at frame s ≡ true
past_here frame at s low = rw (eq-eqb frame frame refl, lt-ltb s at low, le-ltb frame frame (omega arith)) refl

-- one from the cursor on isn't
pub not_past_here : (frame at s : ℕ) → at ≤ s → is_past frame at frame s ≡ false
not_past_here frame at s low = rw (eq-eqb frame frame refl, le-ltb s at low, le-ltb frame frame (omega arith)) refl

-- each place of an earlier frame is past
pub past_before : (frame at f s : ℕ) → f < frame → is_past frame at f s ≡ true
past_before frame at f s low = rw (lt-ltb f frame low) refl

-- none of a later frame is
pub not_past_after : (frame at f s : ℕ) → frame < f → is_past frame at f s ≡ false
not_past_after frame at f s low = rw (le-ltb f frame (omega arith), ne_eqb f frame (λ e. omega arith)) refl

-- nor, where the cursor stands at the frame's first place, one of this frame or a later one
pub not_past_yet : (frame at f s : ℕ) → frame ≤ f → at ≡ 0 → is_past frame at f s ≡ false
not_past_yet frame at f s low e = rw (le-ltb f frame (omega arith), le-ltb s at (omega arith)) (none (nat_eq f frame))
  where
    none : (b : Bool) → (b && false) ≡ false
    none true = refl
    none false = refl

-- ---- other values

module _ {A : Type 0} where
  -- the value at the place
  pub put_here : (g : ℕ → ℕ → ℕ → Option A) (f k q : ℕ) (x : A) → put_at g f k q (Some x) f k q ≡ Some x
  put_here g f k q x = rw (eq-eqb f f refl, eq-eqb k k refl, eq-eqb q q refl) refl

  -- what holds of the value at the place and of those elsewhere holds of all
  pub put_cases : (P : Option A → Type 0) (g : ℕ → ℕ → ℕ → Option A) (f k q : ℕ) (x : A) (f' k' q' : ℕ) →
      ((f' ≡ f) × (k' ≡ k) × (q' ≡ q) → P (Some x)) → (¬ ((f' ≡ f) × (k' ≡ k) × (q' ≡ q)) → P (g f' k' q')) → P (put_at g f k q (Some x) f' k' q')
  put_cases P g f k q x f' k' q' here away = dite (ℕ_discrete f' f)
      (λ ef. dite (ℕ_discrete k' k)
      (λ ek. dite (ℕ_discrete q' q)
      (λ eq. rw (eq-eqb f' f ef, eq-eqb k' k ek, eq-eqb q' q eq) (here (ef, ek, eq)))
      (λ nq. rw (eq-eqb f' f ef, eq-eqb k' k ek, ne_eqb q' q nq) (away (λ t. nq t.2))))
      (λ nk. rw (eq-eqb f' f ef, ne_eqb k' k nk) (away (λ t. nk t.1))))
      (λ nf. rw (ne_eqb f' f nf) (away (λ t. nf t.0)))

-- ---- equal places

-- what equal places have in common
pub record SameSpot (i t k o i' t' k' o' : ℕ) : Type 0 where
  pub subframe : i ≡ i'
  pub part : t ≡ t'
  pub slot : k ≡ k'
  pub other : o ≡ o'

-- two places with one number are one place
pub spot_same : (i t k o i' t' k' o' : ℕ) → t ≤ 2 → t' ≤ 2 → k ≤ 90 → k' ≤ 90 → o < 16 → o' < 16 →
    spot i t k o ≡ spot i' t' k' o' → SameSpot i t k o i' t' k' o'
spot_same i t k o i' t' k' o' t1 t2 k1 k2 o1 o2 e = record { subframe = omega arith; part = omega arith; slot = omega arith; other = omega arith }
