use Rattle.std.proofs.Common.{◌≤◌, arith, ap, subst, sym, refl, ◌∙◌, replicate}
use Rattle.sift_pool.specs.Region.{Region, KeepsLive, left_in}
use Rattle.sift_pool.proofs.Live.{KeepsLive-with_span}
use Rattle.sift_pool.proofs.Laid.{held, count_is, left_is}
use Rattle.sift_pool.proofs.Changes.{IsLaid-push, carved}
use Rattle.sift_pool.proofs.pool.Pool.carve.Goals as goal

pub returns-then-left-len-clause-left : goal.returns-then-left-len-clause-left
returns-then-left-len-clause-left c =
    let holds = held _ _ _ _ _ c.self.view_is c.self.invariant in
    omega (arith, left_is _ _ _ _ _ holds, c.self.inside.words.ok, c.capacity.ensures, c.len-start.ensures)

pub returns-then-left-len-clause-full : goal.returns-then-left-len-clause-full
returns-then-left-len-clause-full c =
    let left = returns-then-left-len-clause-left c in
    (λ _. omega (arith, left, c.if-left-len.true), λ _. refl)

pub push_reserved-requires : goal.push_reserved-requires
push_reserved-requires c =
    let holds = held _ _ _ _ _ c.self.view_is c.self.invariant in
    let room = ap (λ r. r.room) c.self.view_is in
    omega (arith, count_is _ _ _ _ _ holds, room, c.requires, c.self.inside.spans.ok)

-- the new span has the next number, and starts after the words that are there
pub invariant_of-self : goal.invariant_of-self
invariant_of-self c =
    let next = c.len-number.ensures ∙ c.self.inside.spans.ok.0 in
    let after = c.len-start.ensures ∙ c.self.inside.words.ok.0 in
    rw (c.push_reserved.ensures.items, c.push_zeros.ensures.zeros) (IsLaid-push _ _ _ _ _ c.self.invariant next after)

pub returns-clause-carved : goal.returns-clause-carved
returns-clause-carved c =
    let holds = held _ _ _ _ _ c.self.view_is c.self.invariant in
    let next = c.len-number.ensures ∙ c.self.inside.spans.ok.0 in
    let after = c.len-start.ensures ∙ c.self.inside.words.ok.0 in
    carved _ _ _ _ _ holds _ _ _ _ _ _ _ c.push_zeros.ensures.capacity c.push_reserved.ensures.capacity next after c.push_reserved.ensures.items c.push_zeros.ensures.zeros

pub returns-clause-full : goal.returns-clause-full
returns-clause-full c =
    let holds = held _ _ _ _ _ c.self.view_is c.self.invariant in
    let enough : c.args.len ≤ left_in c.args.self.now =
    omega (arith, left_is _ _ _ _ _ holds, c.self.inside.words.ok, c.capacity.ensures, c.len-start.ensures, c.if-left-len.false) in
    (λ no. cc, λ short. absurd (omega (arith, short, enough)))

pub returns-clause-live : goal.returns-clause-live
returns-clause-live c =
    let Kept : Region → Type 0 = λ new. KeepsLive c.args.self.now new in
    subst Kept (sym (returns-clause-carved c).zeros) (KeepsLive-with_span c.args.self.now (replicate c.args.len 0))
