use Rattle.std.proofs.Common.{◌≡◌, ℕ, suc, ◌+◌, ◌*◌, ◌<◌, List, [], ◌∷◌, ◌++◌, length, map, get_or, true, false, not, None, ap, ◌∙◌, sym, arith}
use Rattle.std.specs.List.{range_with_len}
use Rattle.std.proofs.lemmas.List.{append-nil, get_or_default, map-append}
use Rattle.sift_base.specs.Units.{has}
use Rattle.sift_byz.specs.Charts.{relay_at}
use Rattle.sift_byz.specs.Plan.{byz_plan_of}
use Rattle.sift_byz.specs.Relaying.{outside}
use Rattle.sift_byz.proofs.Outside.{outside_more}
use Rattle.sift_byz.proofs.exchanging.relays.Goals.{then-is_outside, else-is_outside}
use Rattle.sift_byz.proofs.exchanging.relays.Goals as goal

-- one unit more that is outside has its relay
pub loop-r-preserved : goal.loop-r-preserved
loop-r-preserved c =
    let path : List ℕ = c.args.to ∷ c.args.path.now in
    let relay = relay_at (byz_plan_of c.args.plan.now) c.args.longer.now c.args.row c.args.to in
    let r : ℕ = c.loop-r.r in
    let step : suc r ≡ r + 1 = omega arith in
    let more : map relay (outside (range_with_len 0 r) path) ++ map relay (outside (r ∷ []) path) ≡ map relay (outside (range_with_len 0 (r + 1)) path) =
    sym (map-append relay (outside (range_with_len 0 r) path) (outside (r ∷ []) path))
    ∙ ap (map relay) (sym (outside_more path r)) ∙ ap (λ n. map relay (outside (range_with_len 0 n) path)) step in
    elim c.if-is_outside.branch [
      | then-is_outside w ↦
          let out : not (has path r) ≡ true = sym c.is_outside.ensures ∙ w.if-is_outside.true in
          let low : r < c.args.plan.now.units = omega (arith, c.loop-r-test.true, c.loop-r.auto) in
          let at : ℕ = (c.args.row * c.args.plan.now.units + r) * c.args.plan.now.units + c.args.to in
          let is : w.index-longer-row.result ≡ get_or c.args.longer.now at w.index-longer-row.result =
          rw (c.from-units.ensures, w.from.ensures, w.from-then-is_outside.ensures) at w.index-longer-row.is in
          let place : w.index-longer-row.result ≡ relay r =
          is ∙ get_or_default c.args.longer.now at w.index-longer-row.result None (c.requires.relayed.each r low) in
          let one : map relay (outside (r ∷ []) path) ≡ relay r ∷ [] = rw out in record {
            filled = ap (λ v. v.items) w.relays-is ∙ w.push.ensures.items ∙ ap (λ x. c.loop-r.relays.items ++ x ∷ []) place
                ∙ ap (λ xs. xs ++ relay r ∷ []) c.loop-r.invariant.filled
                ∙ ap (λ xs. map relay (outside (range_with_len 0 r) path) ++ xs) (sym one) ∙ more;
            short = omega (arith, ap (λ v. length v.items) w.relays-is, w.push.ensures.len, c.loop-r.invariant.short);
          }
      | else-is_outside w ↦
          let inside : not (has path r) ≡ false = sym c.is_outside.ensures ∙ w.if-is_outside.false in
          let none : map relay (outside (r ∷ []) path) ≡ [] = rw inside in record {
            filled = ap (λ v. v.items) w.relays-is ∙ c.loop-r.invariant.filled
                ∙ sym (append-nil (map relay (outside (range_with_len 0 r) path)))
                ∙ ap (λ xs. map relay (outside (range_with_len 0 r) path) ++ xs) (sym none) ∙ more;
            short = omega (arith, ap (λ v. length v.items) w.relays-is, c.loop-r.invariant.short);
          }
    ]

-- the place of the relay is there
pub bounds-longer-row : goal.bounds-longer-row
bounds-longer-row c =
    rw (c.from-units.ensures, c.from.ensures, c.from-then-is_outside.ensures) (c.requires.relayed.each c.loop-r.r c.loop-r-test.true)
