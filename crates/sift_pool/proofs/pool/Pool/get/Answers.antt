use Rattle.std.proofs.Common.{◌+◌, arith, ◌∙◌}
use Rattle.std.proofs.lemmas.List.{get_or_read}
use Rattle.sift_pool.proofs.Laid.{held, live_within, live_word}
use Rattle.sift_pool.proofs.pool.Pool.get.Goals as goal

pub overflow_add-span-inside : goal.overflow_add-span-inside
overflow_add-span-inside c =
    let holds = held _ _ _ _ _ c.self.view_is c.self.invariant in
    let within = live_within _ _ _ _ _ holds _ _ c.span.view_is c.requires.live in
    omega (arith, within.0, c.self.inside.words.ok, c.self.inside.words.small)

pub index-requires : goal.index-requires
index-requires c =
    let holds = held _ _ _ _ _ c.self.view_is c.self.invariant in
    let within = live_within _ _ _ _ _ holds _ _ c.span.view_is c.requires.live in
    omega (arith, within.0, c.self.inside.words.ok)

pub returns : goal.returns
returns c =
    let holds = held _ _ _ _ _ c.self.view_is c.self.invariant in
    let within = live_within _ _ _ _ _ holds _ _ c.span.view_is c.requires.live in
    let read = get_or_read c.self.inside.words.items (c.span.inside.start + c.args.at) c.index.result.now (omega (arith, within.0, c.requires.inside)) c.index.ensures 0 in
    read ∙ live_word _ _ _ _ _ holds _ _ c.args.at c.span.view_is c.requires.live c.requires.inside
