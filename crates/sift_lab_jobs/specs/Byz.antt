-- The command `byz`: the vectors of the plan that its input states.
use Rattle.std.specs.Prelude.{codes, ℕ, ◌≡◌, ◌⊎◌, List, [], ◌∷◌, Some}
use Rattle.std.specs.Fmt.{decimal}
use Rattle.std.specs.List.{concat}
use Rattle.toml.specs.Data.{Members}
use Rattle.sift_document.specs.declared.entries.BrokenRule.{BrokenRule}
use Rattle.sift_byz.specs.Lawful.{IsByzPlanOf, IsRefusedWith}
use Rattle.sift_byz.specs.Plan.{ByzPlanData}
use Rattle.sift_byz.specs.Text.{text_of}
use Rattle.sift_load.specs.Loads.{document_limit, IsDocument, StatesNone, reply_to}
use Rattle.sift_load.specs.declared.loading.NoMission.TheVariants.{NotADocument}
use Rattle.sift_reply.specs.Reply.{Reply, done, done_status}
use Rattle.sift_row.specs.Row.{Bytes, Row}
use Rattle.sift_lab_jobs.specs.declared.labs.ByzJob.{ByzJob}

-- the reply to a document that breaks this rule first
abbrev pub broken_rule : BrokenRule → Reply
broken_rule broken =
    record { status = 16; text = concat (codes "byz rule " ∷ decimal broken.number ∷ codes " at " ∷ decimal broken.place ∷ codes "\n" ∷ []) }

-- the text of the vectors of the plan that a document states, or which rule it breaks
abbrev pub ByzGivesFor : Members → Reply → Type 0
ByzGivesFor document came =
    ((plan : ByzPlanData) × IsByzPlanOf document plan × (came ≡ done (text_of plan)))
    ⊎ ((broken : BrokenRule) × IsRefusedWith document broken × (came ≡ broken_rule broken))

-- the reply for the document that the input is, or to an input that is none
abbrev pub ByzGives : List ℕ → Reply → Type 0
ByzGives bytes came =
    ((document : Members) × IsDocument bytes document × ByzGivesFor document came)
    ⊎ (StatesNone bytes NotADocument × (came ≡ reply_to NotADocument))

-- the statuses of its replies
abbrev pub byz_statuses : List ℕ
byz_statuses = done_status ∷ 3 ∷ 16 ∷ []

-- its row
abbrev pub byz_row : Row ByzJob
byz_row = record {
  word = codes "byz";
  flags = [];
  job_of = λ options. Some (record {});
  does = λ job. Bytes document_limit ByzGives;
  statuses = byz_statuses;
  by_one = λ job. job;
}
