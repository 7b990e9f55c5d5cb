use Rattle.sift_sections.proofs.clock.are_together.Goals as goal

-- an offset isn't near to all
pub returns-then-not-is_near : goal.returns-then-not-is_near
returns-then-not-is_near c = (
  λ found. cc,
  λ each. rw c.if-not-is_near.true at c.is_near.ensures.1 (each c.loop-offset.offset-index _ c.loop-offset-test.true),
)
