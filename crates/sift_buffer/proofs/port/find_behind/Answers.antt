use Rattle.std.proofs.Common.{◌≡◌, ◌≢◌, ◌≤◌, ◌<◌, ◌+◌, ℕ, [], sym, refl, subst, ◌∙◌, arith}
use Rattle.sift_buffer.specs.Counts.{others_below}
use Rattle.sift_buffer.specs.Views.{View, LooksRound, view_with_look}
use Rattle.sift_buffer.proofs.Counts.{one_more, no_more, none_below}
use Rattle.sift_buffer.proofs.Rounds.{round_skip, round_look, round_none, round_behind, is_other, still_other, apart_by, same_by}
use Rattle.sift_buffer.proofs.port.find_behind.Goals.{in-Some+then-ne+else-seen-progress, in-Some+else-ne, in_default}
use Rattle.sift_buffer.proofs.port.find_behind.Goals as goal

pub look-seen-requires : goal.look-seen-requires
look-seen-requires g c =
    let v : View = g.L.Look.view c.args.port.now in
    let low : c.in-Some.other < c.units-units.result = let here = c.in-Some.ensures.found.0 in let t = c.loop-number-test.true in omega arith in
    let other = is_other v c.units-units.result c.unit-own.result c.in-Some.other c.units-units.ensures.count c.unit-own.ensures low c.if-ne.ensures in
    still_other v _ _ c.in-Some.other c.loop-number.invariant.looks_round other

pub loop-number-preserved : goal.loop-number-preserved
loop-number-preserved g c =
    let v : View = g.L.Look.view c.args.port.now in
    let n : ℕ = c.loop-number.number in
    let inv = c.loop-number.invariant in
    let within : n + 1 ≤ c.units-units.result = let t = c.loop-number-test.true in omega arith in
    elim c.match-of.branch [
      | in-Some+then-ne+else-seen-progress w ↦
          let other : n ≢ v.unit = λ e. apart_by w.in-Some.other c.unit-own.result w.if-ne.ensures (w.in-Some.ensures.found.0 ∙ (e ∙ sym c.unit-own.ensures)) in
          let up : v.conduct.progress ≤ w.look-seen.result = subst (λ (x : ℕ). x ≤ w.look-seen.result) c.progress-progress.ensures w.if-seen-progress.false in
          let looks_round : LooksRound v (n + 1) (g.L.Look.view w.look-seen.new.self) =
          subst (λ (x : View). LooksRound v (n + 1) x) (sym (w.look-seen.ensures.looked
          ∙ (λ i. view_with_look (g.L.Look.view c.loop-number.port) (w.in-Some.ensures.found.0 i) w.look-seen.result)))
          (round_look v _ n w.look-seen.result inv.looks_round other up) in
          let steps : g.L.Look.makes c.args.port.now (others_below v.unit (n + 1)) w.look-seen.new.self =
          subst (λ (k : ℕ). g.L.Look.makes c.args.port.now k w.look-seen.new.self) (one_more v.unit n other)
          (g.met.L.Look.makes_more _ _ _ _ 1 inv.steps w.look-seen.ensures.steps) in
          rw w.port-is (record {
            follows = g.met.L.Look.follows_on _ _ _ [] [] inv.follows w.look-seen.ensures.follows;
            steps = steps;
            within = within;
            looks_round = looks_round;
          })
      | in-Some+else-ne w ↦
          let own : n ≡ v.unit = sym w.in-Some.ensures.found.0 ∙ (same_by w.in-Some.other c.unit-own.result w.if-ne.ensures ∙ c.unit-own.ensures) in
          let steps : g.L.Look.makes c.args.port.now (others_below v.unit (n + 1)) c.loop-number.port =
          subst (λ (k : ℕ). g.L.Look.makes c.args.port.now k c.loop-number.port) (no_more v.unit n own) inv.steps in
          rw w.port-is (record { follows = inv.follows; steps = steps; within = within; looks_round = round_skip v _ n inv.looks_round own })
      | in_default w ↦ let high = w.in_default.ensures.none in let few = c.units-units.ensures.few in absurd (omega arith)
    ]

pub returns-clause-decided : goal.returns-clause-decided
returns-clause-decided g c =
    let v : View = g.L.Look.view c.args.port.now in
    let inv = c.loop-number.invariant in
    let all : c.loop-number.number ≡ c.units-units.result = let t = c.loop-number-test.false in let w = inv.within in omega arith in
    round_none v _ (subst (λ (n : ℕ). LooksRound v n (g.L.Look.view c.loop-number.port)) (all ∙ c.units-units.ensures.count) inv.looks_round)

pub returns-then-seen-progress-clause-decided : goal.returns-then-seen-progress-clause-decided
returns-then-seen-progress-clause-decided g c =
    let v : View = g.L.Look.view c.args.port.now in
    let p : ℕ = c.in-Some.other in
    let here : p ≡ c.loop-number.number = c.in-Some.ensures.found.0 in
    let low : p < c.units-units.result = let t = c.loop-number-test.true in omega arith in
    let other = is_other v c.units-units.result c.unit-own.result p c.units-units.ensures.count c.unit-own.ensures low c.if-ne.ensures in
    let looks_round = subst (λ (n : ℕ). LooksRound v n (g.L.Look.view c.loop-number.port)) (sym here) c.loop-number.invariant.looks_round in
    rw c.look-seen.ensures.looked (round_behind v _ p c.look-seen.result looks_round other (rw (← c.progress-progress.ensures) c.if-seen-progress.true))

pub returns-then-seen-progress-clause-follows : goal.returns-then-seen-progress-clause-follows
returns-then-seen-progress-clause-follows g c = g.met.L.Look.follows_on _ _ _ [] [] c.loop-number.invariant.follows c.look-seen.ensures.follows

pub loop-number-init : goal.loop-number-init
loop-number-init g c = record {
  follows = g.met.L.Look.follows_itself c.args.port.now;
  steps = subst (λ (k : ℕ). g.L.Look.makes c.args.port.now k c.args.port.now) (sym (none_below (g.L.Look.view c.args.port.now).unit))
      (g.met.L.Look.makes_none c.args.port.now);
  within = omega arith;
  looks_round = record { found = []; all = refl; reached = tt; after = refl };
}

pub returns-clause-steps : goal.returns-clause-steps
returns-clause-steps g c =
    let v : View = g.L.Look.view c.args.port.now in
    let inv = c.loop-number.invariant in
    let all : c.loop-number.number ≡ c.units-units.result = let t = c.loop-number-test.false in let w = inv.within in omega arith in
    subst (λ (n : ℕ). g.L.Look.makes c.args.port.now (others_below v.unit n) c.loop-number.port) (all ∙ c.units-units.ensures.count) inv.steps

pub returns-then-seen-progress-clause-steps : goal.returns-then-seen-progress-clause-steps
returns-then-seen-progress-clause-steps g c =
    let v : View = g.L.Look.view c.args.port.now in
    let p : ℕ = c.in-Some.other in
    let here : p ≡ c.loop-number.number = c.in-Some.ensures.found.0 in
    let other : p ≢ v.unit = λ e. apart_by p c.unit-own.result c.if-ne.ensures (e ∙ sym c.unit-own.ensures) in
    subst (λ (k : ℕ). g.L.Look.makes c.args.port.now k c.look-seen.new.self) (one_more v.unit p other)
    (g.met.L.Look.makes_more _ _ _ _ 1
    (subst (λ (k : ℕ). g.L.Look.makes c.args.port.now (others_below v.unit k) c.loop-number.port) (sym here) c.loop-number.invariant.steps)
    c.look-seen.ensures.steps)
