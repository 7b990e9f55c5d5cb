use Rattle.std.proofs.Common.{arith, inl, inr}
use Rattle.std.proofs.lemmas.Bool.{cases_lt}
use Rattle.sift_io.proofs.flow.rose_is_one_more_at_least.Goals as goal

pub returns : goal.returns
returns c before now fits = (
  λ rose. grind arith,
  λ more. elim (cases_lt before now) [ inl higher ↦ inl higher | inr no_higher ↦ inr (omega arith) ],
)
