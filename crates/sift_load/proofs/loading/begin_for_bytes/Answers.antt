use Rattle.std.proofs.Common.{inr}
use Rattle.sift_load.proofs.Loaded.{replied_so}
use Rattle.sift_load.proofs.loading.begin_for_bytes.Goals as goal

-- the reply to bytes that state no mission
pub returns-in_ok-reply-in-Err : goal.returns-in_ok-reply-in-Err
returns-in_ok-reply-in-Err g c reply is =
    inr (replied_so _ _ _ reply c.in-Err.ensures.refused c.in_ok-reply-in-Err.ensures.told
    (λ wanting. let none = c.in_ok-reply-in-Err.ensures.wanting wanting in cc) is)
