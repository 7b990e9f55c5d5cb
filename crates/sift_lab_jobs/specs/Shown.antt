-- What the texts show.
use Rattle.std.specs.Prelude.{ℕ, ◌≡◌, ◌<◌, List, true, pos, ◌≤ℤ◌}
use Rattle.toml.specs.Data.{Members}
use Rattle.sift_byz.specs.Lawful.{IsByzPlanOf}
use Rattle.sift_byz.specs.Plan.{ByzPlanData, entry, is_loyal, value_of, vector}
use Rattle.sift_clocklab.specs.Conditions.{AreInRange, IsAdmitted}
use Rattle.sift_clocklab.specs.Text.{IsTextOf}
use Rattle.sift_lab_jobs.specs.Clocks.{LabNumbers, lab_of, run_of}

-- `byz`: of a plan that a document states, any two loyal units have one vector, and in it the entry of a loyal unit is its value
abbrev pub StatedByzPlansAgree : Type 0
StatedByzPlansAgree = (document : Members) (plan : ByzPlanData) (p q : ℕ) → IsByzPlanOf document plan → p < plan.units → q < plan.units
    → is_loyal plan p ≡ true → is_loyal plan q ≡ true
    → (vector plan p ≡ vector plan q) × (entry plan q p ≡ value_of plan p)

-- `clocks`: the largest skew that the text of a laboratory tells is at most the one that its clocks are to keep
abbrev pub NoSkewIsOverTheBound : Type 0
NoSkewIsOverTheBound = (lab : LabNumbers) (text : List ℕ)
    → AreInRange lab.n lab.m (pos lab.skew) (pos lab.error) (pos lab.rate) lab.rounds
    → IsAdmitted lab.n lab.m (pos lab.skew) (pos lab.error) (pos lab.rate)
    → (told : IsTextOf (lab_of lab) (run_of lab).offsets text)
    → told.most ≤ℤ pos lab.skew
