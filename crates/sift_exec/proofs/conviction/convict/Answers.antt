use Rattle.std.proofs.Common.{◌≡◌, ℕ, ◌&&◌, nat_lt, true, false, take, arith, ap, ◌∙◌, sym, nat_cmp}
use Rattle.std.specs.FinSet as set
use Rattle.std.proofs.lemmas.Bool.{lt-ltb, le-ltb}
use Rattle.sift_base.specs.Units.{holds, has}
use Rattle.sift_config.specs.laws.Lists.{has_front, get-drop}
use Rattle.sift_config.specs.laws.Joining.{passing_joins, failing_stays}
use Rattle.sift_exec.specs.Conviction.{names_by}
use Rattle.sift_exec.proofs.conviction.convict.Goals as goal
use Rattle.sift_exec.proofs.conviction.convict.Goals.{then-accusers_of-ge-ENOUGH_ACCUSERS, else-accusers_of-ge-ENOUGH_ACCUSERS}
use Rattle.sift_exec.proofs.Accusing.{accusers}

pub loop-position-init : goal.loop-position-init
loop-position-init c = λ u. ap (λ units. holds units u) c.empty-convicted.ensures ∙ set.contains-empty nat_cmp u

pub loop-position-preserved : goal.loop-position-preserved
loop-position-preserved c = λ u.
    let us = c.args.config.now in
    let i = c.loop-position.position in
    let t = c.unit_at-unit.result in
    let seen = λ (v : ℕ). has (take i us) v in
    let guilty = λ (v : ℕ). nat_lt 1 (accusers (names_by us c.args.masks.now) us v) in
    let front = ap (λ b. b && guilty u) (has_front us u i t (get-drop us i ∙ c.unit_at-unit.ensures)) in
    elim c.if-accusers_of-ge-ENOUGH_ACCUSERS.branch [
      | then-accusers_of-ge-ENOUGH_ACCUSERS w ↦
          let joins : guilty t ≡ true = lt-ltb 1 (accusers (names_by us c.args.masks.now) us t) (omega (arith, c.accusers_of.ensures, w.if-accusers_of-ge-ENOUGH_ACCUSERS.true)) in
          ap (λ units. holds units u) (w.convicted-is ∙ w.with-convicted.ensures) ∙ passing_joins c.loop-position.convicted seen guilty t c.loop-position.invariant joins u ∙ sym front
      | else-accusers_of-ge-ENOUGH_ACCUSERS w ↦
          let stays : guilty t ≡ false = le-ltb 1 (accusers (names_by us c.args.masks.now) us t) (omega (arith, c.accusers_of.ensures, w.if-accusers_of-ge-ENOUGH_ACCUSERS.false)) in
          ap (λ units. holds units u) w.convicted-is ∙ failing_stays c.loop-position.convicted seen guilty t c.loop-position.invariant stays u ∙ sym front
    ]
