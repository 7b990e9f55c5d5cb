use Rattle.std.proofs.Common.{◌∙◌, below_more, inl, inr, sym, arith}
use Rattle.std.proofs.lemmas.Bool.{cases_lt, false≢true}
use Rattle.sift_planner.proofs.draft.Draft.first_open.Goals as goal

-- one subframe more isn't open
pub loop-subframe-preserved : goal.loop-subframe-preserved
loop-subframe-preserved c =
    below_more _ _ c.loop-subframe.invariant (λ opened. false≢true (sym c.if-is_open.false ∙ c.is_open.ensures.1 opened))

-- those behind are too late
pub returns-clause-shut : goal.returns-clause-shut
returns-clause-shut c = λ e opened. elim (cases_lt e c.loop-subframe.subframe) [
  | inl before ↦ c.loop-subframe.invariant e before opened
  | inr behind ↦ absurd (omega (arith, behind, opened.in_time.by_reports, c.requires.kept.long))
]
