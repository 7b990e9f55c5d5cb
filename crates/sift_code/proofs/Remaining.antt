-- What is left to do in a state, over all its open loops.
use Rattle.std.proofs.Common.{◌≡◌, ℕ, suc, ◌+◌, ◌-◌, ◌*◌, ◌≤◌, List, [], ◌∷◌, drop, refl, ap, arith}
use Rattle.sift_code.specs.declared.instr.Instr.{Instr}
use Rattle.sift_code.specs.declared.instr.Instr.TheVariants.{Begin, End}
use Rattle.sift_code.specs.Machine.{Loop}
use Rattle.sift_code.proofs.Costs.{head0, tail0, cost_step, costs, Falls}

first_round : (k c o : ℕ) → 1 + (c + (suc k - 1) * c + o) ≡ 1 + suc k * c + o
first_round k c o = let e : suc k - 1 ≡ k = omega arith in rw e (grind arith)

-- where two rounds or more are left, those behind this one cost as much as the next one and those behind that
pub another_round : (m c : ℕ) → c + (suc m - 1) * c ≡ (suc (suc m) - 1) * c
another_round m c = let e : suc m - 1 ≡ m = omega arith in let d : suc (suc m) - 1 ≡ suc m = omega arith in rw (e, d) (grind arith)

-- what is left to do: to the end of this round of each loop, and in the rounds that are left
abbrev pub remaining : List Instr → List ℕ → List Loop → ℕ
remaining code cs [] = head0 cs
remaining code cs (l ∷ ls) = head0 cs + (l.left - 1) * head0 (costs (drop l.start code)) + remaining code (tail0 cs) ls

-- where the first cost is more by 1, one step more is left to do
pub remaining_more : (code : List Instr) (cs : List ℕ) (ls : List Loop) → remaining code ((1 + head0 cs) ∷ tail0 cs) ls ≡ 1 + remaining code cs ls
remaining_more code cs [] = refl
remaining_more code cs (l ∷ ls) = omega arith

-- where costs have fallen, no more is left to do than before, with the same open loops
pub remaining_falls : (code : List Instr) (cs ds : List ℕ) (ls : List Loop) → Falls cs ds → remaining code ds ls ≤ remaining code cs ls
remaining_falls code cs ds [] f = f.less
remaining_falls code cs ds (l ∷ ls) f = omega (arith, f.less, ap (λ x. remaining code x ls) f.outer)

-- at a Begin of no rounds one step more is left to do than behind the End of its loop
pub remaining_none : (code : List Instr) (cs : List ℕ) (ls : List Loop) → remaining code ((1 + 0 * head0 cs + head0 (tail0 cs)) ∷ tail0 (tail0 cs)) ls ≡ 1 + remaining code (tail0 cs) ls
remaining_none code cs [] = omega arith
remaining_none code cs (l ∷ ls) = omega arith

-- at a Begin of some rounds one step more is left to do than at the start of its loop, where all these rounds are left
pub remaining_begin : (code : List Instr) (k : ℕ) (cs : List ℕ) (ls : List Loop) (start : ℕ) → costs (drop start code) ≡ cs
    → 1 + remaining code cs (record { start = start; left = suc k } ∷ ls)
    ≡ remaining code ((1 + suc k * head0 cs + head0 (tail0 cs)) ∷ tail0 (tail0 cs)) ls
remaining_begin code k cs [] start e = rw e (first_round k (head0 cs) (head0 (tail0 cs)))
remaining_begin code k cs (l ∷ ls) start e = rw e (omega (arith, first_round k (head0 cs) (head0 (tail0 cs))))

-- at each instruction at least one step is left to do
pub some_left : (code : List Instr) (i : Instr) (cs : List ℕ) (ls : List Loop) → 1 ≤ remaining code (cost_step i cs) ls
some_left code End cs [] = omega arith
some_left code End cs (l ∷ ls) = omega arith
some_left code (Begin k) cs [] = omega arith
some_left code (Begin k) cs (l ∷ ls) = omega arith
some_left code _ cs [] = omega arith
some_left code _ cs (l ∷ ls) = omega arith
