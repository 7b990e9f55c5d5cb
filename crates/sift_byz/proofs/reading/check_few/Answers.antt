use Rattle.std.proofs.Common.{◌≡◌, ◌≤◌, ◌+◌, ◌-◌, ◌∷◌, ◌++◌, [], ℕ, List, length, length-append, get_or, map, take, below_more, refl, sym, ap, subst, ◌∙◌, arith}
use Rattle.std.proofs.lemmas.List.{length-map}
use Rattle.sift_base.specs.Units.{has}
use Rattle.sift_byz.specs.Lawful.{BreaksFew}
use Rattle.sift_byz.specs.Plan.{LieData, lie_of}
use Rattle.sift_byz.proofs.Tellers.{AreTellers, no_tellers, told_again, told_first}
use Rattle.sift_byz.proofs.reading.check_few.Goals.{then-not-contains+else-len-from, else-not-contains}
use Rattle.sift_byz.proofs.Testing.{place_fits}
use Rattle.sift_byz.proofs.reading.check_few.Goals as goal

-- no units yet
pub loop-place-init : goal.loop-place-init
loop-place-init c =
    record {
      tellers = rw c.new-tellers.ensures (no_tellers c.args.units);
      few = rw c.new-tellers.ensures (omega arith);
      kept = λ at low. absurd (omega (arith, low));
    }

-- where at most m tell, the rule isn't broken
few_tell :
    (units m place : ℕ) (lies : List LieData) (tellers : List ℕ) → AreTellers units (take (place + 1) lies) tellers → length tellers ≤ m
    → ¬ BreaksFew units m lies place
few_tell units m place lies tellers are few broken = omega (arith, are.count, few, broken.many)

-- the last unit of one lie more told before, or is one more
pub loop-place-preserved : goal.loop-place-preserved
loop-place-preserved c =
    let t : ℕ = get_or c.deref.result.now (c.len.result - 1) 0 in
    let lie = c.index-lies-place.result in
    let t_is : t ≡ get_or lie.path.items (length lie.path.items - 1) 0 = rw (c.len.ensures.value, c.deref.ensures.0) in
    let old : List ℕ = c.loop-place.tellers.items in
    let found : has old t ≡ c.contains.result = sym (rw c.deref-in-loop-place.ensures.0 at c.contains.ensures.value) in
    let lies : List LieData = map lie_of c.args.lies.now in
    let so_far : List LieData = take (c.loop-place.place + 1) lies in
    let now : List ℕ = c.if-not-contains.tellers.items in
    let next : AreTellers c.args.units so_far now × (length now ≤ c.args.m) =
    elim c.if-not-contains.branch [
      | then-not-contains+else-len-from w ↦
          let items : now ≡ old ++ t ∷ [] = ap (λ v. v.items) w.tellers-is ∙ w.push.ensures.items in (
            subst (λ (ts : List ℕ). AreTellers c.args.units so_far ts) (sym items)
                (told_first c.args.units c.args.m c.args.lies.now c.requires.paths c.loop-place.place lie c.loop-place-test.true c.index-lies-place.is t t_is old
                c.loop-place.invariant.tellers (found ∙ w.if-not-contains.true)),
            omega (
              arith,
              ap length items,
              length-append old (t ∷ []),
              c.loop-place.invariant.few,
              w.if-len-from.false,
              w.len-then-not-contains.ensures.value,
              w.from.ensures,
            ),
          )
      | else-not-contains w ↦
          let items : now ≡ old = ap (λ v. v.items) w.tellers-is in (
            subst (λ (ts : List ℕ). AreTellers c.args.units so_far ts) (sym items)
                (told_again c.args.units c.args.m c.args.lies.now c.requires.paths c.loop-place.place lie c.loop-place-test.true c.index-lies-place.is t t_is old
                c.loop-place.invariant.tellers (found ∙ w.if-not-contains.false)),
            omega (arith, ap length items, c.loop-place.invariant.few),
          )
    ] in record {
      tellers = next.0;
      few = next.1;
      kept = below_more _ _ c.loop-place.invariant.kept (few_tell c.args.units c.args.m c.loop-place.place lies now next.0 next.1);
    }

-- one unit more is one too many
pub returns-then-len-from : goal.returns-then-len-from
returns-then-len-from c =
    let t : ℕ = get_or c.deref.result.now (c.len.result - 1) 0 in
    let lie = c.index-lies-place.result in
    let t_is : t ≡ get_or lie.path.items (length lie.path.items - 1) 0 = rw (c.len.ensures.value, c.deref.ensures.0) in
    let old : List ℕ = c.loop-place.tellers.items in
    let found : has old t ≡ c.contains.result = sym (rw c.deref-in-loop-place.ensures.0 at c.contains.ensures.value) in
    let next = told_first c.args.units c.args.m c.args.lies.now c.requires.paths c.loop-place.place lie c.loop-place-test.true c.index-lies-place.is t t_is old
    c.loop-place.invariant.tellers (found ∙ c.if-not-contains.true) in
    rw c.broken.ensures (
      refl,
      record {
        broken = record {
          there = rw length-map c.loop-place-test.true;
          many = omega (arith, next.count, length-append old (t ∷ []), c.if-len-from.true, c.len-then-not-contains.ensures.value, c.from.ensures);
        };
        first = c.loop-place.invariant.kept;
      },
    )

-- no lie is
pub returns : goal.returns
returns c at broken = c.loop-place.invariant.kept at (omega (arith, broken.there, length-map c.args.lies.now lie_of, c.loop-place-test.false)) broken

pub broken-requires : goal.broken-requires
broken-requires c = place_fits c.loop-place-test.true c.requires.few
