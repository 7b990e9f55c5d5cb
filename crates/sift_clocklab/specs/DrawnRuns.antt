-- A number's laboratory has one run with the faulty clocks that are drawn for it.
use Rattle.std.specs.Prelude.{◌≡◌, ℕ, ℤ}
use Rattle.sift_clocklab.specs.declared.lab.Drawn.{Drawn}
use Rattle.sift_clocklab.specs.Conditions.{AreInRange, IsAdmitted}
use Rattle.sift_clocklab.specs.Laboratory.{Run}
use Rattle.sift_clocklab.specs.Showing.{Runs}
use Rattle.sift_clocklab.specs.Skew.{IsKept}
use Rattle.sift_clocklab.specs.Draws.{AllowsDrawn, drawn_face, drawn_lab, drawn_run}

-- it is the run of the draws: what is shown, and so the offsets
abbrev pub DrawnRunsAreOfTheDraws : Type 0
DrawnRunsAreOfTheDraws =
    (n m : ℕ) (skew error rate : ℤ) (rounds number : ℕ) (run : Run) (face : Drawn) →
    Runs AllowsDrawn (drawn_lab n m skew error rate rounds number) (drawn_face n m skew error number) run face →
    run ≡ drawn_run n m skew error rate rounds number

-- where its laboratory is admitted, the working clocks stay together in it
abbrev pub DrawnRunsAreKept : Type 0
DrawnRunsAreKept =
    (n m : ℕ) (skew error rate : ℤ) (rounds number : ℕ) → AreInRange n m skew error rate rounds → IsAdmitted n m skew error rate →
    IsKept (drawn_lab n m skew error rate rounds number) (drawn_run n m skew error rate rounds number).offsets
