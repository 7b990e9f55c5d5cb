-- Functions with another value at one place.
use Rattle.std.proofs.Common.{◌≡◌, ◌≢◌, ℕ, Option, Some, None, sym, refl, ap, ◌∙◌, subst, eq-eqb, ne_eqb}
use mathlib.Core.Logic.{dite}
use native.Mathlib.Decide.{ℕ_discrete}
use Rattle.sift_buffer.specs.Conduct.{put, put_at}

-- three numbers are three others
abbrev pub IsAt : ℕ → ℕ → ℕ → ℕ → ℕ → ℕ → Type 0
IsAt f k q f' k' q' = (f' ≡ f) × (k' ≡ k) × (q' ≡ q)

module _ {A : Type 0} where
  -- the value, if there is one
  abbrev got : A → Option A → A
  got d (Some x) = x
  got d None = d

  -- two values are one where their options are
  pub some_same : {x y : A} → Some x ≡ Some y → x ≡ y
  some_same {x} {y} e = ap (got x) e

  -- no option is both
  pub none_some : {x : A} {B : Type 0} → None ≡ Some x → B
  none_some e = absurd (cc)

  -- the new value stands there
  pub put_here : (g : ℕ → A) (i : ℕ) (x : A) → put g i x i ≡ x
  put_here g i x = rw (eq-eqb i i refl) refl

  -- elsewhere nothing changes
  pub put_else : (g : ℕ → A) (i : ℕ) (x : A) (j : ℕ) → j ≢ i → put g i x j ≡ g j
  put_else g i x j other = rw (ne_eqb j i other) refl

  -- what holds of the new value there, and of the old ones elsewhere
  pub put_cases : (P : A → Type 0) (g : ℕ → A) (i : ℕ) (x : A) (j : ℕ) → (j ≡ i → P x) → (j ≢ i → P (g j)) → P (put g i x j)
  put_cases P g i x j here away = dite (ℕ_discrete j i)
      (λ e. subst P (sym (rw (eq-eqb j i e) refl)) (here e))
      (λ ne. subst P (sym (put_else g i x j ne)) (away ne))

  -- and so at three numbers
  pub put_at_here : (g : ℕ → ℕ → ℕ → A) (f k q : ℕ) (x : A) → put_at g f k q x f k q ≡ x
  put_at_here g f k q x = rw (eq-eqb f f refl, eq-eqb k k refl, eq-eqb q q refl) refl

  -- what holds of the new value there, and of the old ones elsewhere
  pub put_at_cases : (P : A → Type 0) (g : ℕ → ℕ → ℕ → A) (f k q : ℕ) (x : A) (f' k' q' : ℕ) →
      (IsAt f k q f' k' q' → P x) → (¬ IsAt f k q f' k' q' → P (g f' k' q')) → P (put_at g f k q x f' k' q')
  put_at_cases P g f k q x f' k' q' here away =
      dite (ℕ_discrete f' f)
      (λ ef. dite (ℕ_discrete k' k)
      (λ ek. dite (ℕ_discrete q' q)
      (λ eq. rw (eq-eqb f' f ef, eq-eqb k' k ek, eq-eqb q' q eq) (here (ef, ek, eq)))
      (λ nq. rw (eq-eqb f' f ef, eq-eqb k' k ek, ne_eqb q' q nq) (away (λ t. nq t.2))))
      (λ nk. rw (eq-eqb f' f ef, ne_eqb k' k nk) (away (λ t. nk t.1))))
      (λ nf. rw (ne_eqb f' f nf) (away (λ t. nf t.0)))

  -- the function has one value at two equal places
  pub moved : (g : ℕ → ℕ → ℕ → A) (f k q f' k' q' : ℕ) → IsAt f k q f' k' q' → g f k q ≡ g f' k' q'
  moved g f k q f' k' q' t = ap (λ (z : ℕ). g z k q) (sym t.0) ∙ (ap (λ (z : ℕ). g f' z q) (sym t.1) ∙ ap (λ (z : ℕ). g f' k' z) (sym t.2))

-- where nothing stood, a value put there leaves all that stood elsewhere
pub put_at_keeps : {A : Type 0} (g : ℕ → ℕ → ℕ → Option A) (f k q : ℕ) (x : A) (f' k' q' : ℕ) (y : A) →
    g f k q ≡ None → g f' k' q' ≡ Some y → put_at g f k q (Some x) f' k' q' ≡ Some y
put_at_keeps {A} g f k q x f' k' q' y none at = put_at_cases (λ (o : Option A). o ≡ Some y) g f k q (Some x) f' k' q'
    (λ t. none_some (sym none ∙ (moved g f k q f' k' q' t ∙ at)))
    (λ _. at)
