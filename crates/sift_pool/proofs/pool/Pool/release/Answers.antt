use Rattle.std.proofs.Common.{◌≤◌, length, take, arith, ap, subst, sym, refl, ◌∙◌}
use Rattle.std.specs.Prelude.{slice_get}
use Rattle.std.proofs.lemmas.List.{take_all}
use Rattle.std.proofs.lemmas.Option.{slice_get_read}
use Rattle.sift_pool.specs.Region.{Region, KeepsLiveBelow}
use Rattle.sift_pool.proofs.Live.{KeepsLiveBelow-first_spans}
use Rattle.sift_pool.proofs.Laid.{held, laid_region-spans, spans_are, count_is}
use Rattle.sift_pool.proofs.Changes.{released}
use Rattle.sift_pool.proofs.pool.Pool.release.Goals as goal

-- the first span to be released starts where the kept words end
pub invariant_of-self : goal.invariant_of-self
invariant_of-self c =
    let read = slice_get_read c.deref.result.now _ c.mark.inside.count c.in-Some.released.now refl c.in-Some.ensures.lookup.3.0 c.in-Some.ensures.lookup.1 in
    let found = ap (λ ps. slice_get ps c.mark.inside.count) (sym c.deref.ensures.value) ∙ read in
    (released _ _ _ _ _ _ _ c.self.invariant found c.released.view_is c.truncate-in-Some.ensures.items c.truncate.ensures.items).0

pub returns-in-Some-clause-first : goal.returns-in-Some-clause-first
returns-in-Some-clause-first c =
    let holds = held _ _ _ _ _ c.self.view_is c.self.invariant in
    let read = slice_get_read c.deref.result.now _ c.mark.inside.count c.in-Some.released.now refl c.in-Some.ensures.lookup.3.0 c.in-Some.ensures.lookup.1 in
    let found = ap (λ ps. slice_get ps c.mark.inside.count) (sym c.deref.ensures.value) ∙ read in
    let cut = (released _ _ _ _ _ _ _ c.self.invariant found c.released.view_is c.truncate-in-Some.ensures.items c.truncate.ensures.items).1 in
    laid_region-spans _ _ _ _ _ holds _ _ _ _ _ c.truncate.ensures.capacity c.truncate-in-Some.ensures.capacity
    (cut ∙ ap (take c.mark.inside.count) (sym (spans_are _ _ _ _ _ holds)) ∙ ap (λ k. take k c.args.self.now.spans) c.mark.view_is)

pub returns-in-Some-clause-live : goal.returns-in-Some-clause-live
returns-in-Some-clause-live c =
    let Kept : Region → Type 0 = λ new. KeepsLiveBelow c.args.mark c.args.self.now new in
    subst Kept (sym (returns-in-Some-clause-first c)) (KeepsLiveBelow-first_spans c.args.self.now c.args.mark c.requires)

-- there is no span to be released
pub returns-in_default-clause-first : goal.returns-in_default-clause-first
returns-in_default-clause-first c =
    let region = c.args.self.now in
    let holds = held _ _ _ _ _ c.self.view_is c.self.invariant in
    let few : length region.spans ≤ c.args.mark =
    omega (arith, count_is _ _ _ _ _ holds, ap length c.deref.ensures.value, c.in_default.ensures.lookup.3, c.mark.view_is) in
    ap (λ spans. let first : Region = record region { spans = spans } in first) (sym (take_all c.args.mark region.spans few))

pub returns-in_default-clause-live : goal.returns-in_default-clause-live
returns-in_default-clause-live c =
    let Kept : Region → Type 0 = λ new. KeepsLiveBelow c.args.mark c.args.self.now new in
    subst Kept (sym (returns-in_default-clause-first c)) (KeepsLiveBelow-first_spans c.args.self.now c.args.mark c.requires)
