use Rattle.sift_compile.proofs.Keeping.{kept_rounds}
use Rattle.sift_compile.proofs.emit.repeat_takes.Goals as goal

-- so many rounds, and one step more
pub returns-in-Steps : goal.returns-in-Steps
returns-in-Steps c all is =
    rw (c.in-Steps.is, c.saturating_add-in-Steps.ensures, c.saturating_mul.ensures, c.saturating_add-round.ensures, c.from.ensures)
    (kept_rounds c.args.body all c.args.rounds is)
