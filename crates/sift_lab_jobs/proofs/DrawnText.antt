-- The text of a drawn laboratory is the one that `clocks` gives.
use Rattle.std.proofs.Common.{◌≡◌, ◌≤◌, ℕ, List, ℤ, pos, w32, to_z, of_z, inl, subst, ◌∙◌, arith}
use Rattle.std.proofs.lemmas.Int.{ints}
use Rattle.sift_clocklab.specs.Conditions.{IsReady}
use Rattle.sift_clocklab.specs.DrawnRuns.{DrawnRunsAreOfTheDraws}
use Rattle.sift_clocklab.specs.Draws.{AllowsDrawn, drawn_face, drawn_lab}
use Rattle.sift_clocklab.specs.Laboratory.{Laboratory, Run}
use Rattle.sift_clocklab.specs.Showing.{Runs}
use Rattle.sift_clocklab.specs.Text.{IsTextOf}
use Rattle.sift_clocklab.specs.declared.lab.Drawn.{Drawn}
use Rattle.sift_reply.specs.Reply.{Reply, done}
use Rattle.sift_lab_jobs.specs.Clocks.{ClocksGives, LabNumbers, lab_of, run_of}

-- a number, as a variable of 32 bits holds it
abbrev pub held_as : ℤ → ℤ
held_as z = to_z w32 (of_z w32 z)

-- one of some ticks is held as it is
pub kept_as : (z : ℤ) (n : ℕ) → z ≡ pos n → n ≤ 8000 → held_as z ≡ pos n
kept_as z n is few = rw is (omega (arith, ints, few))

-- a laboratory that is drawn from these numbers and ran gives its text
pub drawn_text :
    DrawnRunsAreOfTheDraws → (numbers : LabNumbers) (skew error rate : ℤ) (lab : Laboratory) (first last : Drawn) (run : Run)
    (text : List ℕ) (came : Reply) → skew ≡ pos numbers.skew → error ≡ pos numbers.error → rate ≡ pos numbers.rate
    → lab ≡ drawn_lab numbers.n numbers.m skew error rate numbers.rounds numbers.number
    → first ≡ drawn_face numbers.n numbers.m skew error numbers.number
    → IsReady lab → Runs AllowsDrawn lab first run last → IsTextOf lab run.offsets text → came ≡ done text
    → ClocksGives numbers came
drawn_text law numbers skew error rate lab first last run text came s e r lab_is first_is ready ran tells is =
    let a = numbers in
    let drawn : lab ≡ lab_of a = lab_is ∙ (λ i. drawn_lab a.n a.m (s i) (e i) (r i) a.rounds a.number) in
    let face : first ≡ drawn_face a.n a.m (pos a.skew) (pos a.error) a.number = first_is ∙ (λ i. drawn_face a.n a.m (s i) (e i) a.number) in
    let ran_so = subst (λ (x : Drawn). Runs AllowsDrawn (lab_of a) x run last) face
    (subst (λ (l : Laboratory). Runs AllowsDrawn l first run last) drawn ran) in
    let run_is : run ≡ run_of a = law a.n a.m (pos a.skew) (pos a.error) (pos a.rate) a.rounds a.number run last ran_so in
    let told = subst (λ (it : Run). IsTextOf (lab_of a) it.offsets text) run_is
    (subst (λ (l : Laboratory). IsTextOf l run.offsets text) drawn tells) in
    inl (text, (subst IsReady drawn ready).admitted, told, is)
