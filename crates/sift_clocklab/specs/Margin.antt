-- The laws of the computer's own clocks are cases of the law for m faulty clocks among n, m being how many are faulty in
-- fact. (With one clock counted as faulty where none is they aren't: among four clocks that all work five times the errors
-- and drifts are room enough, and the law for one faulty clock among four asks for eight times as much.)
use Rattle.std.specs.Prelude.{◌≡◌, ℕ, ◌*◌, List, length, Bool, ℤ, pos, ◌+ℤ◌, ◌-ℤ◌, ◌*ℤ◌, ◌≤ℤ◌}
use Rattle.sift_base.specs.Units.{faulty_count, HasMargin}

-- the skew has room for the errors and drifts of n clocks, m of them faulty
abbrev pub HasRoom : (n m : ℕ) (skew error rate : ℤ) → Type 0
HasRoom n m skew error rate = (pos (2 * n) *ℤ (error +ℤ rate)) ≤ℤ (skew *ℤ (pos n -ℤ pos (3 * m)))

-- a configuration with margin has room where five times the errors and drifts have
abbrev pub MarginLeavesRoom : Type 0
MarginLeavesRoom =
    (skew error rate : ℤ) (us : List ℕ) (works : ℕ → Bool) → pos 0 ≤ℤ (error +ℤ rate) → HasMargin works us →
    (pos 5 *ℤ (error +ℤ rate)) ≤ℤ skew → HasRoom (length us) (faulty_count works us) skew error rate

-- one without faulty clocks has room where twice the errors and drifts have
abbrev pub NoFaultLeavesRoom : Type 0
NoFaultLeavesRoom =
    (skew error rate : ℤ) (us : List ℕ) (works : ℕ → Bool) → pos 0 ≤ℤ (error +ℤ rate) → faulty_count works us ≡ 0 →
    (pos 2 *ℤ (error +ℤ rate)) ≤ℤ skew → HasRoom (length us) (faulty_count works us) skew error rate
