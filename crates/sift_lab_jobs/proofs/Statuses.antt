-- The statuses of the replies about laboratories are their own.
use Rattle.std.proofs.Common.{◌≡◌, inl, inr, ℕ, List, Contains, lit<, refl, sym, subst, arith}
use Rattle.sift_reply.specs.Reply.{Reply, shared_statuses}
use Rattle.sift_lab_jobs.specs.Byz.{ByzGives, byz_statuses}
use Rattle.sift_lab_jobs.specs.Clocks.{ClocksGives, LabNumbers, clocks_statuses}

-- a reply has one of these statuses, and no shared one
abbrev IsOwn : (statuses : List ℕ) → Reply → Type 0
IsOwn statuses came = Contains statuses came.status × ¬ Contains shared_statuses came.status

-- so it is where a reply that is equal to it does
same : (statuses : List ℕ) (one other : Reply) → one ≡ other → IsOwn statuses other → IsOwn statuses one
same statuses one other is own = subst (IsOwn statuses) (sym is) own

-- each reply of `byz` has one of the command's statuses, and none that is shared
pub of_byz : (bytes : List ℕ) (came : Reply) → ByzGives bytes came → IsOwn byz_statuses came
of_byz bytes came (inl (document, read, inl (plan, states, is))) = same byz_statuses came _ is ((0, lit< tt, refl), grind arith)
of_byz bytes came (inl (document, read, inr (broken, breaks, is))) = same byz_statuses came _ is ((2, lit< tt, refl), grind arith)
of_byz bytes came (inr (none, is)) = same byz_statuses came _ is ((1, lit< tt, refl), grind arith)

-- and each reply of `clocks`
pub of_clocks : (lab : LabNumbers) (came : Reply) → ClocksGives lab came → IsOwn clocks_statuses came
of_clocks lab came (inl (text, admitted, tells, is)) = same clocks_statuses came _ is ((0, lit< tt, refl), grind arith)
of_clocks lab came (inr (refused, is)) = same clocks_statuses came _ is ((1, lit< tt, refl), grind arith)
