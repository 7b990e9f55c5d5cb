-- The units outside of a path.
use Rattle.std.proofs.Common.{◌≡◌, ◌≢◌, ℕ, suc, ◌+◌, ◌<◌, ◌≤◌, inl, inr, List, [], ◌∷◌, ◌++◌, length, Bool, true, false, not, nat_eq, refl, sym, ap, ◌∙◌, arith}
use Rattle.std.specs.List.{range_with_len}
use Rattle.std.proofs.lemmas.Bool.{cases_Bool, eq-eqb, eqb-true, ne_eqb, eqb-false}
use Rattle.std.proofs.lemmas.List.Elements.{filter-append}
use Rattle.sift_base.specs.Units.{faulty_count, has, others, IsAscending}
use Rattle.sift_base.specs.laws.Others.{count-others-<, count-others-≤, has-others, length-others, others-has, times_in, times_in-ascending}
use Rattle.sift_base.specs.laws.Ranges.{range-more}
use Rattle.sift_byz.specs.Relaying.{outside}

-- ---- a path that is longer by a unit

-- all units are outside of the empty path
pub outside-nil : (us : List ℕ) → outside us [] ≡ us
outside-nil [] = refl
outside-nil (u ∷ us) = ap (λ vs. u ∷ vs) (outside-nil us)

-- outside of a path with a unit more are the others of those outside of it
pub outside-cons : (us path : List ℕ) (r : ℕ) → outside us (r ∷ path) ≡ others r (outside us path)
outside-cons [] path r = refl
outside-cons (u ∷ us) path r =
    let rest = outside-cons us path r in
    elim (cases_Bool (has path u)) [
      | inl t ↦ elim (cases_Bool (nat_eq r u)) [ inl same ↦ rw (same, t) rest | inr other ↦ rw (other, t) rest ]
      | inr f ↦ elim (cases_Bool (nat_eq r u)) [
        | inl same ↦ rw (same, f, eq-eqb u r (sym (eqb-true r u same))) rest
        | inr other ↦ rw (other, f, ne_eqb u r (λ e. eqb-false r u other (sym e))) (ap (λ vs. u ∷ vs) rest)
      ]
    ]

-- each unit stands there once
pub outside_once : (us path : List ℕ) (u : ℕ) → IsAscending us → times_in u (outside us path) ≤ 1
outside_once us [] u ascending = rw (outside-nil us) (times_in-ascending u us ascending)
outside_once us (r ∷ path) u ascending =
    rw (outside-cons us path r) (omega (arith, count-others-≤ (λ v. nat_eq v u) r (outside us path), outside_once us path u ascending))

module _ (us path : List ℕ) (t : ℕ) where
  -- one fewer, where the unit was one of them
  pub one_fewer : IsAscending us → has (outside us path) t ≡ true → suc (length (outside us (t ∷ path))) ≡ length (outside us path)
  one_fewer ascending t_in =
      rw (outside-cons us path t)
      (omega (
        arith,
        length-others t (outside us path),
        outside_once us path t ascending,
        count-others-< (λ v. nat_eq v t) t (outside us path) t_in (eq-eqb t t refl),
      ))

  -- no more traitors
  pub no_more : (loyal : ℕ → Bool) → faulty_count loyal (outside us (t ∷ path)) ≤ faulty_count loyal (outside us path)
  no_more loyal = rw (outside-cons us path t) (count-others-≤ (λ u. not (loyal u)) t (outside us path))

  -- and fewer, where the unit was a traitor
  pub traitor_gone :
      (loyal : ℕ → Bool) → has (outside us path) t ≡ true → loyal t ≡ false
      → faulty_count loyal (outside us (t ∷ path)) < faulty_count loyal (outside us path)
  traitor_gone loyal t_in lies = rw (outside-cons us path t) (count-others-< (λ u. not (loyal u)) t (outside us path) t_in (ap not lies))

  -- another unit is still outside
  pub still_outside : (q : ℕ) → has (outside us path) q ≡ true → t ≢ q → has (outside us (t ∷ path)) q ≡ true
  still_outside q q_in differ = rw (outside-cons us path t) (others-has t (outside us path) q q_in (λ e. differ (sym e)))

-- a unit outside is a unit
pub outside_has : (us path : List ℕ) (u : ℕ) → has (outside us path) u ≡ true → has us u ≡ true
outside_has us [] u u_in = rw (outside-nil us) at u_in
outside_has us (r ∷ path) u u_in = outside_has us path u (has-others r (outside us path) u (rw (outside-cons us path r) at u_in)).0

-- ---- units as numbers

-- the first units that are outside, with one unit more
pub outside_more : (path : List ℕ) (u : ℕ) → outside (range_with_len 0 (suc u)) path ≡ outside (range_with_len 0 u) path ++ outside (u ∷ []) path
outside_more path u =
    ap (λ us. outside us path) (range-more 0 u) ∙ filter-append (λ v. not (has path v)) (range_with_len 0 u) ((0 + u) ∷ [])
    ∙ ap (λ x. outside (range_with_len 0 u) path ++ outside (x ∷ []) path) (omega arith)
