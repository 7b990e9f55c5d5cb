use Rattle.std.proofs.Common.{◌≡◌, ◌+◌, ◌<◌, ℕ, List, IfOk, sym, subst, refl, rules, arith}
use Rattle.std.specs.Prelude.{slice_index}
use Rattle.std.proofs.lemmas.Iterator.{YieldsList-from_range, items_from_collect}
use Rattle.sift_planner.specs.Drafts.{drafted, rows_in}
use Rattle.sift_planner.proofs.Used.{free_first}
use Rattle.sift_planner.proofs.draft.Draft.next_positions.Goals as goal

-- they follow the used ones
pub returns : goal.returns
returns c =
    let draft = c.args.self.now in
    let low : c.args.subframe < 64 = omega (arith, c.requires.by_reports, c.requires.kept.short) in
    let from : c.from.result ≡ c.args.subframe = search rules in
    let used = slice_index draft.used c.from.result in
    let first = free_first (drafted draft) (rows_in draft) draft.used c.requires.kept.used c.args.subframe low draft.executors c.requires.room in
    subst (λ (ps : List ℕ). IfOk c.collect.result (λ positions. positions.items ≡ ps)) (rw from (sym first))
    (items_from_collect c.collect.result c.collect.ensures.ran (YieldsList-from_range used (used + draft.executors) draft.executors refl (omega arith)))
