-- A reply that a command gives doesn't say that memory was wanting.
use Rattle.std.proofs.Common.{◌≢◌, Result, Ok, Err, IfOk, Contains, lit<, sym}
use Rattle.sift_reply.specs.Reply.{Reply, no_memory_status, shared_statuses}

-- where one came
pub no_want : (E : Type 0) (Gives : Reply → Type 0) (came : Result Reply E) → IfOk came Gives
    → ((reply : Reply) → Gives reply → ¬ Contains shared_statuses reply.status)
    → IfOk came (λ reply. reply.status ≢ no_memory_status)
no_want E Gives (Ok reply) gives own = λ is. own reply gives (3, lit< tt, sym is)
no_want E Gives (Err stop) gives own = tt
