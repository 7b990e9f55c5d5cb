use Rattle.std.proofs.Common.{arith, refl, subst, sym}
use Rattle.std.proofs.lemmas.List.{length-set}
use Rattle.sift_pool.specs.Region.{Region, KeepsLive, words_at}
use Rattle.sift_pool.proofs.Live.{KeepsLive-with_words}
use Rattle.sift_pool.proofs.Laid.{held, laid_region-spans, live_within, live_set}
use Rattle.sift_pool.proofs.pool.Pool.put.Goals as goal

pub overflow_add-span-inside : goal.overflow_add-span-inside
overflow_add-span-inside c =
    let holds = held _ _ _ _ _ c.self.view_is c.self.invariant in
    let within = live_within _ _ _ _ _ holds _ _ c.span.view_is c.requires.live in
    omega (arith, within.0, c.self.inside.words.ok, c.self.inside.words.small)

pub index_mut-requires : goal.index_mut-requires
index_mut-requires c =
    let holds = held _ _ _ _ _ c.self.view_is c.self.invariant in
    let within = live_within _ _ _ _ _ holds _ _ c.span.view_is c.requires.live in
    omega (arith, within.0, c.self.inside.words.ok)

pub returns-clause-written : goal.returns-clause-written
returns-clause-written c =
    let holds = held _ _ _ _ _ c.self.view_is c.self.invariant in
    laid_region-spans _ _ _ _ _ holds _ _ _ _ _ refl refl
    (live_set _ _ _ _ _ holds _ _ c.args.at c.args.word c.span.view_is c.requires.live c.requires.inside)

-- a span has as many words as before
pub returns-clause-live : goal.returns-clause-live
returns-clause-live c =
    let words = words_at c.args.self.now c.args.span.now.number in
    let Kept : Region → Type 0 = λ new. KeepsLive c.args.self.now new in
    subst Kept (sym (returns-clause-written c))
    (KeepsLive-with_words c.args.self.now c.args.span.now.number _ (length-set words c.args.at c.args.word))
