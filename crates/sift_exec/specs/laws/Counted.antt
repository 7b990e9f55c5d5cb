-- How many units a configuration has, and how many of them work.
use Rattle.std.proofs.Common.{◌≡◌, ℕ, ◌+◌, ◌-◌, ◌<◌, ◌≤◌, List, [], ◌∷◌, ◌++◌, length, take, Bool, true, false, ◌&&◌, cond}
use Rattle.std.proofs.Common.{Some, refl, sym, ap, ◌∙◌, arith}
use Rattle.std.specs.Prelude.{count_by, nat_le, slice_get}
use Rattle.std.specs.List.{filter}
use Rattle.std.proofs.lemmas.Bool.{le-leb, lt-leb}
use Rattle.std.proofs.lemmas.List.{append-nil, length-take-le}
use Rattle.std.proofs.lemmas.List.Elements.{filter_more}
use Rattle.std.proofs.lemmas.List.Sums.{length-filter}
use Rattle.std.proofs.lemmas.Option.{slice_get_within, get_or_from_slice_get}
use Rattle.sift_base.specs.Units.{faulty_count, has, IsAscending, unit_limit}
use Rattle.sift_base.specs.laws.Counts.{both_counts, has-head, has-tail}
use Rattle.sift_base.specs.laws.Sets.{below_has}
use Rattle.sift_config.specs.Config.{IsConfig}

-- ascending numbers from one on and below the limit are no more than there are
few_from : (least : ℕ) (us : List ℕ) → least ≤ unit_limit → IsAscending us
    → ((u : ℕ) → has us u ≡ true → (least ≤ u) × (u < unit_limit)) → length us + least ≤ unit_limit
few_from least [] room up inside = omega arith
few_from least (u ∷ us) room up inside =
    let here = inside u (has-head u us) in
    let rest = few_from (u + 1) us (omega (arith, here.1)) up.1 (λ v there. (omega (arith, below_has u us v up.0 there), (inside v (has-tail u us v there)).1)) in
    omega (arith, rest, here.0)

-- a configuration has at most eight units
config_few : (us : List ℕ) → IsConfig us → length us ≤ unit_limit
config_few us config = let few = few_from 0 us (omega arith) config.ascending (λ u there. (omega arith, config.inside u there)) in omega arith

-- what is left of a configuration without its working units is faulty
pub faulty-rest : (works : ℕ → Bool) (us : List ℕ) → length us ≡ faulty_count works us + length (filter works us)
faulty-rest works us = rw (length-filter works us) (sym (both_counts works us))

-- no more units work than there are
pub filter-≤ : (passes : ℕ → Bool) (us : List ℕ) → length (filter passes us) ≤ length us
filter-≤ passes us = omega (arith, faulty-rest passes us)

-- ---- place by place

module _ (passes : ℕ → Bool) (us : List ℕ) (i u : ℕ) (there : slice_get us i ≡ Some u) where
  -- the units that pass among one place more
  one_more : filter passes (take (i + 1) us) ≡ filter passes (take i us) ++ cond (passes u) (u ∷ []) []
  one_more =
      filter_more passes us i u (slice_get_within us i u there)
      ∙ ap (λ v. filter passes (take i us) ++ cond (passes v) (v ∷ []) []) (get_or_from_slice_get us i u u there)

  -- where the unit of the place passes, it comes behind the units that pass before it
  pub filter-yes : passes u ≡ true → filter passes (take (i + 1) us) ≡ filter passes (take i us) ++ u ∷ []
  filter-yes t = one_more ∙ ap (λ b. filter passes (take i us) ++ cond b (u ∷ []) []) t

  -- where the unit of the place doesn't pass, the units that pass up to it are those before it
  pub filter-no : passes u ≡ false → filter passes (take (i + 1) us) ≡ filter passes (take i us)
  filter-no f = one_more ∙ ap (λ b. filter passes (take i us) ++ cond b (u ∷ []) []) f ∙ append-nil (filter passes (take i us))

  -- are fewer than a configuration may have
  pub filter-room : IsConfig us → length (filter passes (take i us)) < unit_limit
  filter-room config =
      let low = slice_get_within us i u there in
      omega (arith, filter-≤ passes (take i us), length-take-le i us (omega arith), config_few us config)

-- ---- the tests of a sound configuration

module _ (works : ℕ → Bool) (us : List ℕ) (all working : ℕ) (all_are : all ≡ length us) (working_are : working ≡ length (filter works us)) where
  working-are : working ≡ count_by works us
  working-are = working_are ∙ length-filter works us

  faulty-are : all - working ≡ faulty_count works us
  faulty-are = omega (arith, faulty-rest works us)

  -- where at most one unit is faulty, a configuration is sound just where four of its units work
  pub enough_decides : all - working ≤ 1 → nat_le 4 working ≡ (nat_le (faulty_count works us) 1 && nat_le 4 (count_by works us))
  enough_decides few =
      let test : nat_le (faulty_count works us) 1 ≡ true = le-leb (faulty_count works us) 1 (omega (arith, faulty-are)) in
      rw (test, working-are) refl

  -- where more than one unit is faulty, the test of the faulty ones fails, as that of a sound configuration does
  pub few_decides : 1 < all - working → nat_le (all - working) 1 ≡ (nat_le (faulty_count works us) 1 && nat_le 4 (count_by works us))
  few_decides many =
      let test : nat_le (faulty_count works us) 1 ≡ false = lt-leb (faulty_count works us) 1 (omega (arith, faulty-are)) in
      rw (test, lt-leb (all - working) 1 many) refl
