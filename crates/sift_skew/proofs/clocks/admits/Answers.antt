use Rattle.std.proofs.Common.{sym, ◌∙◌}
use Rattle.sift_skew.proofs.Limits.{kept-true, kept-holds, told-true, told-holds, last_decides}
use Rattle.sift_skew.proofs.clocks.admits.Goals as goal
use Rattle.sift_skew.proofs.clocks.admits.Goals.{then-error-rate, else-error-rate}

-- the first two limits are met, and the last test decides
pub returns-then-skew-le-SKEW_LIMIT : goal.returns-then-skew-le-SKEW_LIMIT
returns-then-skew-le-SKEW_LIMIT c =
    let a = c.args in
    elim c.if-error-rate.branch [
      | then-error-rate w ↦
          last_decides a.skew a.error a.rate a.length c.requires
          (kept-true a.skew a.error a.rate a.length c.requires w.if-error-rate.true)
          (told-true a.skew c.requires.0 (sym w.value-is ∙ c.if-skew-le-SKEW_LIMIT.true))
      | else-error-rate w ↦ absurd cc
    ]

-- one of the first two limits isn't met
pub returns-else-skew-le-SKEW_LIMIT : goal.returns-else-skew-le-SKEW_LIMIT
returns-else-skew-le-SKEW_LIMIT c =
    let a = c.args in
    elim c.if-error-rate.branch [
      | then-error-rate w ↦
          (λ t. absurd cc, λ admitted. w.value-is ∙ told-holds a.skew c.requires.0 admitted.told)
      | else-error-rate w ↦ (
        λ t. absurd cc,
        λ admitted. w.value-is
            ∙ kept-holds a.skew a.error a.rate a.length c.requires admitted.kept,
      )
    ]
