use Rattle.sift_gen.proofs.Placing.{placed-insert}
use Rattle.sift_gen.proofs.scenario.with.Goals as goal

-- the map has one more entry, under the key's text
pub returns-in-Ok : goal.returns-in-Ok
returns-in-Ok c =
    rw (c.in-Ok.ensures.entries, ← c.in_ok-key.ensures.ok) (placed-insert c.args.entries.entries c.in_ok-key.key c.args.value)
