use Rattle.std.proofs.Common.{append_assoc, sym, ◌∙◌}
use Rattle.sift_byz.proofs.Lists.{written}
use Rattle.sift_byz.proofs.vectors.push_told.Goals as goal

-- a traitor
pub returns-then-is_traitor : goal.returns-then-is_traitor
returns-then-is_traitor c = rw (sym c.is_traitor.ensures ∙ c.if-is_traitor.true) (written c.push_str.result _ _ _ c.push_str.ensures.bytes)

-- another unit, with its vector
pub returns-in_ok-push_str : goal.returns-in_ok-push_str
returns-in_ok-push_str c =
    rw (sym c.is_traitor.ensures ∙ c.if-is_traitor.false) (rw (c.in_ok-push_str.ensures.bytes, append_assoc) at c.push_words.ensures)
