-- Each command about a laboratory gives one reply.
use Rattle.std.proofs.Common.{◌≡◌, inl, inr, ℕ, List, ℤ, sym, ap, ◌∙◌, subst, arith}
use Rattle.std.proofs.lemmas.Int.{ints}
use Rattle.toml.specs.Data.{Members}
use Rattle.sift_byz.specs.Lawful.{OneByzPlan, OneRefusal, ByzPlansAreAccepted}
use Rattle.sift_byz.specs.Plan.{ByzPlanData}
use Rattle.sift_byz.specs.Text.{text_of}
use Rattle.sift_clocklab.specs.Conditions.{IsAdmitted, IsRefused}
use Rattle.sift_clocklab.specs.Text.{OneTextOfARun}
use Rattle.sift_load.specs.Loads.{IsDocument}
use Rattle.sift_reply.specs.Reply.{Reply, done}
use Rattle.sift_row.specs.Row.{AreOne}
use Rattle.sift_lab_jobs.specs.Byz.{ByzGives, ByzGivesFor, broken_rule}
use Rattle.sift_lab_jobs.specs.Clocks.{ClocksGives, LabNumbers, lab_of, run_of}

-- ---- `byz`

-- a document has one tree
one_tree : (bytes : List ℕ) (one other : Members) → IsDocument bytes one → IsDocument bytes other → one ≡ other
one_tree bytes one other reads reads' = cc (reads.1, reads'.1)

module _ (one_byz_plan : OneByzPlan) (accepted : ByzPlansAreAccepted) (one_refusal : OneRefusal) where
  -- a document gets one reply
  for_document : (document : Members) (one other : Reply) → ByzGivesFor document one → ByzGivesFor document other → one ≡ other
  for_document document one other (inl (plan, states, is)) (inl (plan', states', is')) =
      is ∙ (ap (λ (p : ByzPlanData). done (text_of p)) (one_byz_plan document plan plan' states states') ∙ sym is')
  for_document document one other (inl (plan, states, is)) (inr (broken, breaks, is')) = absurd (accepted document plan broken states breaks)
  for_document document one other (inr (broken, breaks, is)) (inl (plan, states, is')) = absurd (accepted document plan broken states breaks)
  for_document document one other (inr (broken, breaks, is)) (inr (broken', breaks', is')) =
      is ∙ (ap broken_rule (one_refusal document broken broken' breaks breaks') ∙ sym is')

  -- and so do bytes
  pub one_byz : (bytes : List ℕ) → AreOne (ByzGives bytes) (ByzGives bytes)
  one_byz bytes one other (inl (document, read, gives)) (inl (document', read', gives')) =
      for_document document' one other
      (subst (λ (tree : Members). ByzGivesFor tree one) (one_tree bytes document document' read read') gives) gives'
  one_byz bytes one other (inl (document, read, gives)) (inr (none, is)) = absurd (none document read)
  one_byz bytes one other (inr (none, is)) (inl (document, read, gives)) = absurd (none document read)
  one_byz bytes one other (inr (none, is)) (inr (none', is')) = is ∙ sym is'

-- ---- `clocks`

-- what is admitted isn't refused
unrefused : (n m : ℕ) (skew error rate : ℤ) → IsAdmitted n m skew error rate → ¬ IsRefused n m skew error rate
unrefused n m skew error rate admitted (inl few) = omega (arith, few, admitted.enough)
unrefused n m skew error rate admitted (inr tight) = omega (arith, ints, tight, admitted.room)

-- `clocks` gives at most one reply to an input
pub one_clocks : OneTextOfARun → (lab : LabNumbers) → AreOne (ClocksGives lab) (ClocksGives lab)
one_clocks one_text lab one other (inl (text, admitted, tells, is)) (inl (text', admitted', tells', is')) =
    is ∙ (ap done (one_text (lab_of lab) (run_of lab).offsets text text' tells tells') ∙ sym is')
one_clocks one_text lab one other (inl (text, admitted, tells, is)) (inr (refused, is')) =
    absurd (unrefused _ _ _ _ _ admitted refused)
one_clocks one_text lab one other (inr (refused, is)) (inl (text, admitted, tells, is')) =
    absurd (unrefused _ _ _ _ _ admitted refused)
one_clocks one_text lab one other (inr (refused, is)) (inr (refused', is')) = is ∙ sym is'
