use Rattle.std.proofs.Common.{length, arith, refl, ap, subst, sym, replicate, ◌∙◌}
use Rattle.std.proofs.lemmas.List.{length-replicate, with_items_is}
use Rattle.std.proofs.lemmas.Grind.{common_steps}
use Rattle.sift_pool.specs.Layout.{lengths, pieces}
use Rattle.sift_pool.specs.Region.{Region, KeepsLive}
use Rattle.sift_pool.proofs.Pieces.{put_mid-filled, length-put_mid}
use Rattle.sift_pool.proofs.Live.{KeepsLive-with_words}
use Rattle.sift_pool.proofs.Laid.{held, laid_region-spans, live_within, live_put_mid}
use Rattle.sift_pool.proofs.pool.Pool.fill.Goals as goal

pub overflow_add-span-inside : goal.overflow_add-span-inside
overflow_add-span-inside c =
    let holds = held _ _ _ _ _ c.self.view_is c.self.invariant in
    let within = live_within _ _ _ _ _ holds _ _ c.span.view_is c.requires in
    omega (arith, within.0, within.1, c.self.inside.words.ok, c.self.inside.words.small)

pub offset_bounds-deref_mut-span-inside : goal.offset_bounds-deref_mut-span-inside
offset_bounds-deref_mut-span-inside c =
    let holds = held _ _ _ _ _ c.self.view_is c.self.invariant in
    let within = live_within _ _ _ _ _ holds _ _ c.span.view_is c.requires in
    omega (arith, within.0, c.self.inside.words.ok, c.self.inside.words.small)

pub slice_bounds-fill-end : goal.slice_bounds-fill-end
slice_bounds-fill-end c =
    let holds = held _ _ _ _ _ c.self.view_is c.self.invariant in
    let within = live_within _ _ _ _ _ holds _ _ c.span.view_is c.requires in
    omega (arith, within.0, within.1, c.self.inside.words.ok, c.deref_mut.ensures.len)

-- the loan leaves the words as they were, but for those of the span
pub returns-clause-written : goal.returns-clause-written
returns-clause-written c =
    let span = c.args.span.now in
    let words = c.self.inside.words in
    let holds = held _ _ _ _ _ c.self.view_is c.self.invariant in
    let start = ap (λ p. p.start) c.span.view_is in
    let within = live_within _ _ _ _ _ holds span span refl c.requires in
    let long = length-replicate span.len c.args.word in
    let filled = put_mid-filled words.items c.deref_mut.result.now c.fill.new.self c.span.inside.start c.span.inside.len span.start span.len
    c.args.word c.deref_mut.ensures.value (c.fill.ensures.after (λ y same. same)) start (ap (λ p. p.len) c.span.view_is) within.0 in
    let as_many = length-put_mid span.start span.len words.items (replicate span.len c.args.word) long within.0 in
    let items = with_items_is words _ (ap length filled ∙ as_many ∙ sym words.ok.0) in
    laid_region-spans _ _ _ _ _ holds _ _ _ _ _ refl refl
    (ap (pieces (lengths c.self.inside.spans.items)) (items ∙ filled) ∙ live_put_mid _ _ _ _ _ holds span (replicate span.len c.args.word) c.requires long)

-- a span has as many words as before
pub returns-clause-live : goal.returns-clause-live
returns-clause-live c =
    let long = length-replicate c.args.span.now.len c.args.word ∙ c.requires.long in
    let Kept : Region → Type 0 = λ new. KeepsLive c.args.self.now new in
    subst Kept (sym (returns-clause-written c))
    (KeepsLive-with_words c.args.self.now c.args.span.now.number _ long)

pub invariant_of-self : goal.invariant_of-self
invariant_of-self c = grind (arith, common_steps)
