use Rattle.std.proofs.Common.{◌≡◌, ◌∙◌, ap, arith, length}
use Rattle.std.specs.Prelude.{None, slice_index_or}
use Rattle.sift_code.specs.Nest.{start_at}
use Rattle.sift_code.proofs.Tables.{starts_before, read_told}
use Rattle.sift_code.proofs.nest.Nest.start.Goals as goal

-- the innermost loop was opened before
pub returns-clause-before : goal.returns-clause-before
returns-clause-before c =
    let same = ap length c.self.view_is in
    let told : slice_index_or c.self.inside.starts.items c.args.at None ≡ start_at c.args.self.now c.args.at =
    c.self.invariant.starts_tell.entries c.args.at (omega arith) ∙ ap (λ l. start_at l c.args.at) c.self.view_is in
    starts_before c.args.self.now c.args.at c.index.result.now
    (read_told c.self.inside.starts.items c.args.at c.index.result.now (start_at c.args.self.now c.args.at) (omega (arith, c.self.invariant.starts_tell.long)) c.index.ensures told)
