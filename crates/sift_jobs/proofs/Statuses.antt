-- The status of a command that has done what was asked is its own.
use Rattle.std.proofs.Common.{◌≡◌, ℕ, List, [], ◌∷◌, Contains, lit<, refl, sym, subst, arith}
use Rattle.sift_reply.specs.Reply.{Reply, done, done_status, shared_statuses}

-- it is 0, and isn't shared
pub done_is_own :
    (reply : Reply) (text : List ℕ) → reply ≡ done text
    → Contains (done_status ∷ []) reply.status × ¬ Contains shared_statuses reply.status
done_is_own reply text is = subst
    (λ (r : Reply). Contains (done_status ∷ []) r.status × ¬ Contains shared_statuses r.status) (sym is) ((0, lit< tt, refl), grind arith)
