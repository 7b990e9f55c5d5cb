use Rattle.std.proofs.Common.{◌≡◌, ◌+◌, ℕ, List, [], ◌∷◌, ◌++◌, vec_len, sym, ap, ◌∙◌, subst, arith}
use Rattle.std.proofs.lemmas.List.{append-nil}
use mathlib.Core.List.{append_assoc}
use Rattle.sift_workers.specs.Hands.{thread_for, IsDealt}
use Rattle.sift_workers.proofs.Dealt.{dealt_more}
use Rattle.sift_workers.proofs.dealing.deal.Goals as goal

pub loop-pilot-init : goal.loop-pilot-init
loop-pilot-init g c = let hands = c.in_ok-hands.ensures in (
  [],
  sym (append-nil c.args.pilots.items),
  record {
    count = (let count = hands.count in let size = c.in_ok-hands.hands.ok.0 in omega arith);
    each = λ thread d low. hands.empty thread d (let count = hands.count in let size = c.in_ok-hands.hands.ok.0 in omega arith);
  },
)

-- the pilot goes before those that are dealt
pub loop-pilot-preserved : goal.loop-pilot-preserved
loop-pilot-preserved g c =
    let inv = c.loop-pilot.invariant in let m = c.args.workers in let n = c.args.threads in let pilot = c.in-Some.pilot in
    let rest = c.pop.new.self in
    let len : vec_len c.loop-pilot.pilots ≡ vec_len rest + 1 = (let len = c.in-Some.ensures.len in omega arith) in (
      pilot ∷ inv.0,
      inv.1 ∙ (ap (λ (z : List g.row.P.Denot). z ++ inv.0) c.in-Some.ensures.items ∙ append_assoc rest.items (pilot ∷ []) inv.0),
      dealt_more m n (vec_len rest) c.requires.1 c.loop-pilot.hands.items c.index_mut.result.now c.push.new.self c.thread_for-thread.result
          (c.thread_for-thread.ensures.thread ∙ ap (λ (place : ℕ). thread_for m n place) c.len.ensures) c.index_mut.ensures.value pilot inv.0
          (subst (λ (place : ℕ). IsDealt m n place inv.0 c.loop-pilot.hands.items) len inv.2) c.in_ok-push.ensures.items,
    )
