use Rattle.std.proofs.Common.{◌≡◌, ◌<◌, rules, arith}
use Rattle.std.proofs.lemmas.Bool.{le-leb, leb-true}
use Rattle.sift_planner.specs.Drafts.{drafted, rows_in}
use Rattle.sift_planner.proofs.Used.{free_count}
use Rattle.sift_planner.proofs.draft.Draft.has_room.Goals as goal

pub returns : goal.returns
returns c =
    let draft = c.args.self.now in
    let kept = c.requires.kept in
    let low : c.args.subframe < 64 = omega (arith, c.requires.by_reports, kept.short) in
    let free = free_count (drafted draft) (rows_in draft) draft.used kept.used c.args.subframe low in
    let within = kept.used.within c.args.subframe low in
    let from : c.from.result ≡ c.args.subframe = search rules in
    rw from (λ fits. omega (arith, leb-true _ _ fits, free, within), λ room. le-leb _ _ (omega (arith, room, free, within)))
