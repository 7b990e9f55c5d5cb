-- The next configuration.
use Rattle.std.proofs.Common.{◌≡◌, ℕ, List, length, Bool, true, not, ◌&&◌, nat_lt, ap, inl, inr}
use Rattle.std.specs.Prelude.{nat_le, if◌then◌else◌}
use Rattle.std.proofs.lemmas.Bool.{cases_Bool}
use Rattle.sift_base.specs.Units.{has, others}
use Rattle.sift_base.specs.Layout.{least_units}
use Rattle.sift_base.specs.laws.Counts.{count-same, of_filtered, filter_same}
use Rattle.sift_base.specs.laws.Others.{has-others}
use Rattle.sift_exec.specs.Conviction.{is_convicted, kept_by, next_by}

-- it has units of this one alone
pub next_inside : (names : ℕ → ℕ → Bool) (us : List ℕ) (v : ℕ) → has (next_by names us) v ≡ true → has us v ≡ true
next_inside names us v h =
    elim (cases_Bool (nat_le least_units (length (kept_by names us)))) [
      | inl t ↦ (of_filtered (λ u. not (is_convicted names us u)) us v (rw t at h)).1
      | inr t ↦ rw t at h
    ]

-- it is the same on reports that name the same units
pub next-same : (n n' : ℕ → ℕ → Bool) (us : List ℕ) → ((r v : ℕ) → has us r ≡ true → n r v ≡ n' r v) → next_by n us ≡ next_by n' us
next-same n n' us same =
    let convicts : (v : ℕ) → is_convicted n us v ≡ is_convicted n' us v
    = λ v. ap (λ k. has us v && nat_lt 1 k) (count-same (λ r. n r v) (λ r. n' r v) (others v us) (λ r h. same r v (has-others v us r h).0)) in
    let kept : kept_by n us ≡ kept_by n' us
    = filter_same (λ v. not (is_convicted n us v)) (λ v. not (is_convicted n' us v)) us (λ v h. ap not (convicts v)) in
    ap (λ vs. if nat_le 4 (length vs) then vs else us) kept
