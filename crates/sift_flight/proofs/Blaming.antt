-- A unit catches units of its configuration alone.
use Rattle.std.proofs.Common.{◌≡◌, ℕ, Bool, true, false, ◌||◌, refl, sym, ap, ◌∙◌}
use Rattle.std.specs.FinSet as set
use Rattle.std.specs.Ordering.{nat_cmp}
use Rattle.std.proofs.lemmas.Bool.{and_parts}
use Rattle.sift_base.specs.Units.{has, holds}
use Rattle.sift_exec.specs.Conviction.{everyone_in, nobody}
use Rattle.sift_exec.specs.declared.catches.Catches.{Catches}
use Rattle.sift_exec.specs.laws.Everyone.{holds-everyone}
use Rattle.sift_conduct.specs.Conduct.{UnitFrame, caught, Conduct}

-- where one of three tests is passed, what follows from each follows
one_of : (a b c : Bool) (P : Type 0) → ((a || b) || c) ≡ true → (a ≡ true → P) → (b ≡ true → P) → (c ≡ true → P) → P
one_of true b c P t in_a in_b in_c = in_a refl
one_of false true c P t in_a in_b in_c = in_b refl
one_of false false true P t in_a in_b in_c = in_c refl
one_of false false false P t in_a in_b in_c = absurd cc

-- a unit of its configuration caught only units of it
pub caught_inside : (x : UnitFrame) → Conduct x → (v : ℕ) → caught x.account v ≡ true → has x.account.cfg v ≡ true
caught_inside x c v t =
    let bad : Catches = x.account.bad in
    one_of (holds bad.poll v) (holds bad.relay v) (holds bad.clock v) (has x.account.cfg v ≡ true) (sym (holds-everyone bad v) ∙ t)
    (λ polled. (and_parts (has x.account.cfg v) _ (sym (c.polls v) ∙ polled)).0)
    (λ relayed. (and_parts (has x.account.cfg v) _ (sym (c.relays v) ∙ relayed)).0)
    (λ timed. (and_parts (has x.account.cfg v) _ (sym (c.clocks v) ∙ timed)).0)

-- who caught nobody caught no unit
pub nobody_caught : (c : Catches) (v : ℕ) → c ≡ nobody → holds (everyone_in c) v ≡ false
nobody_caught c v e = ap (λ b. holds (everyone_in b) v) e ∙ (holds-everyone nobody v ∙ rw (set.contains-empty nat_cmp v) refl)
