-- Which clocks of a laboratory work, and how many don't.
use Rattle.std.proofs.Common.{ℕ, zero, suc, ◌+◌, ◌≤◌, inl, inr, not, nat_lt, ap, arith}
use Rattle.std.specs.List.{range_with_len}
use Rattle.std.proofs.lemmas.Bool.{cases_Bool, ltb-false}
use Rattle.std.proofs.lemmas.List.FromFn.{length-range_with_len}
use Rattle.sift_base.specs.Units.{faulty_count}
use Rattle.sift_base.specs.laws.Counts.{both_counts, count-no}
use Rattle.sift_clocklab.specs.Laboratory.{Laboratory, clocks_of, working_of, works}
use Rattle.sift_clocklab.specs.Conditions.{IsAdmitted}

-- of numbers in a row those from w on are as many as are left below the end
from_on : (w a n : ℕ) → w ≤ a + n → faulty_count (λ p. nat_lt p w) (range_with_len a n) + w ≤ a + n
from_on w a zero most = omega arith
from_on w a (suc n) most =
    elim (cases_Bool (nat_lt a w)) [
      | inl t ↦ omega (arith, from_on w (a + 1) n (omega arith), count-no (λ p. not (nat_lt p w)) a (range_with_len (a + 1) n) (ap not t))
      | inr f ↦ omega (
        arith,
        ltb-false a w f,
        both_counts (λ p. nat_lt p w) (range_with_len a (suc n)),
        length-range_with_len a (suc n),
      )
    ]

-- in an admitted laboratory no more than m clocks are faulty
pub few_faulty : (lab : Laboratory) → IsAdmitted lab.n lab.m lab.skew lab.error lab.rate
    → faulty_count (works lab) (clocks_of lab) ≤ lab.m
few_faulty lab admitted = omega (arith, from_on (working_of lab) 0 lab.n (omega arith), admitted.enough)
