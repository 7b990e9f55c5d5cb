-- The units that two tell that they caught, found one by one.
use Rattle.std.proofs.Common.{◌≡◌, ℕ, zero, suc, ◌+◌, List, [], ◌∷◌, length, take, Bool, true, false, ◌&&◌, ◌||◌, nat_eq, Some, inl}
use Rattle.std.proofs.Common.{inr, refl, sym, ap, ◌∙◌, add-one, arith}
use Rattle.std.specs.Prelude.{count_by, nat_lt, slice_get}
use Rattle.std.specs.List.{filter}
use Rattle.std.specs.FinSet as set
use Rattle.std.proofs.lemmas.List.Sums.{length-filter}
use Rattle.std.proofs.lemmas.Bool.{cases_Bool}
use Rattle.std.proofs.lemmas.Bool.Decides.{nat_tests}
use Rattle.sift_base.specs.Units.{Units, has, holds}
use Rattle.sift_base.specs.laws.Sets.{holds-insert}
use Rattle.sift_mission.specs.Data.{MissionData}
use Rattle.sift_line.specs.declared.line.ReportLine.{ReportLine}
use Rattle.sift_report.specs.Told.{told_at, works_in}
use Rattle.sift_judge.proofs.UnitSets.{filter_both}

-- at least two working units of a configuration tell that they caught v
abbrev pub two_tell : MissionData → List ReportLine → ℕ → List ℕ → ℕ → Bool
two_tell d lines f us v = nat_lt 1 (count_by (λ u. works_in d u f && holds (told_at d lines f u).caught v) us)

-- those of the working units that pass are as many as are counted of all
pub count_both : (works passes : ℕ → Bool) (us : List ℕ) → length (filter passes (filter works us)) ≡ count_by (λ u. works u && passes u) us
count_both works passes us = ap length (sym (filter_both works passes us)) ∙ length-filter (λ u. works u && passes u) us

-- one unit more
has_next : (us : List ℕ) (i u v : ℕ) → slice_get us i ≡ Some u → has (take (suc i) us) v ≡ (has (take i us) v || nat_eq u v)
has_next [] zero u v e = absurd cc
has_next [] (suc i) u v e = absurd cc
has_next (w ∷ us) zero u v e = let same : w ≡ u = (cc) in rw same (elim (cases_Bool (nat_eq u v)) [ inl t ↦ rw t refl | inr f ↦ rw f refl ])
has_next (w ∷ us) (suc i) u v e = elim (cases_Bool (nat_eq w v)) [ inl t ↦ rw t refl | inr f ↦ rw f (has_next us i u v e) ]

module _ (two : ℕ → Bool) (us : List ℕ) (i u : ℕ) (there : slice_get us i ≡ Some u) (caught : Units)
    (so_far : (v : ℕ) → holds caught v ≡ (has (take i us) v && two v)) where
  next : (v : ℕ) → has (take (i + 1) us) v ≡ (has (take i us) v || nat_eq u v)
  next v = rw (add-one i) (has_next us i u v there)

  -- which two tell
  pub with_one : two u ≡ true → (v : ℕ) → holds (set.insert caught u) v ≡ (has (take (i + 1) us) v && two v)
  with_one told v = holds-insert caught u v ∙ rw (next v, so_far v) (elim (cases_Bool (nat_eq u v)) [
    | inl t ↦
        let e : u ≡ v = grind (arith, nat_tests, t) in
        let back : nat_eq v u ≡ true = grind (arith, nat_tests, e) in
        let here : two v ≡ true = rw e at told in
        rw (t, back, here) (elim (cases_Bool (has (take i us) v)) [ inl a ↦ rw a refl | inr b ↦ rw b refl ])
    | inr f ↦
        let back : nat_eq v u ≡ false = grind (arith, nat_tests, f) in
        rw (f, back) (elim (cases_Bool (has (take i us) v)) [ inl a ↦ rw a refl | inr b ↦ rw b refl ])
  ])

  -- and which not
  pub without_one : two u ≡ false → (v : ℕ) → holds caught v ≡ (has (take (i + 1) us) v && two v)
  without_one told v = so_far v ∙ rw (next v) (elim (cases_Bool (nat_eq u v)) [
    | inl t ↦
        let e : u ≡ v = grind (arith, nat_tests, t) in
        let here : two v ≡ false = rw e at told in
        rw (t, here) (elim (cases_Bool (has (take i us) v)) [ inl a ↦ rw a refl | inr b ↦ rw b refl ])
    | inr f ↦ rw f (elim (cases_Bool (has (take i us) v)) [ inl a ↦ rw a refl | inr b ↦ rw b refl ])
  ])
