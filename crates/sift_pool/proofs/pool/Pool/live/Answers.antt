use Rattle.std.proofs.Common.{ap, sym, ◌∙◌}
use Rattle.std.specs.Prelude.{slice_get}
use Rattle.sift_pool.proofs.Laid.{held, live_found}
use Rattle.sift_pool.proofs.Lookup.{option_map-get, Decides-option_eq}
use Rattle.sift_pool.proofs.pool.Pool.live.Goals as goal

-- what is found at the span's number is compared with the span
pub returns : goal.returns
returns c =
    let holds = held _ _ _ _ _ c.self.view_is c.self.invariant in
    let is_live = live_found _ _ _ _ _ holds c.args.span.now in
    let found =
    option_map-get (λ x. x.now) c.deref.result.now c.span.inside.number c.get.result c.get.ensures.lookup.0 c.get.ensures.lookup.1
    ∙ ap (λ ps. slice_get ps c.span.inside.number) c.deref.ensures.value
    ∙ ap (λ p. slice_get c.self.inside.spans.items p.number) c.span.view_is in
    let test = Decides-option_eq (λ x. x.now) c.get.result c.args.span in (
      λ yes. is_live.1 (sym found ∙ test.0 (sym c.eq.ensures ∙ yes)),
      λ live. c.eq.ensures ∙ test.1 (found ∙ is_live.0 live),
    )
