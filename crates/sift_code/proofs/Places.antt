-- What a write to the words of a span makes of the stack, the locals and the rounds left.
use Rattle.std.proofs.Common.{◌≡◌, ℕ, zero, suc, ◌+◌, ◌-◌, ◌<◌, ◌≤◌, List, [], ◌∷◌, length, take, drop, set, Some, refl, ap, ◌∙◌, arith}
use Rattle.std.specs.Prelude.{slice_get, slice_index, slice_set}
use Rattle.std.specs.List.{refill}
use Rattle.std.proofs.lemmas.Option.{slice_get-get_or}
use Rattle.std.proofs.Math.Seq.{drop-length}
use Rattle.std.proofs.lemmas.List.{get_or-set_same, get_or-set_other, drop-set-lt, drop-set-add, take-set-le, get_or-take, get_or-drop, length-take-le, length-drop, length-set, take_all, append-nil}
use Rattle.std.proofs.Math.Seq.{take-set-lt}
use Rattle.sift_code.specs.Work.{stack_of, locals_of, loops_of, lefts_start, starts_of}

-- ---- the stack

-- a stack of some height has as many words
pub length-stack_of : (h : ℕ) (ws : List ℕ) → length (stack_of h ws) ≡ h
length-stack_of zero ws = refl
length-stack_of (suc h) ws = omega (arith, length-stack_of h ws)

-- a write from the height on leaves the stack
pub stack_of-set : (h : ℕ) (ws : List ℕ) (k w : ℕ) → h ≤ k → stack_of h (slice_set ws k w) ≡ stack_of h ws
stack_of-set zero ws k w le = refl
stack_of-set (suc h) ws k w le =
    let here : slice_index (slice_set ws k w) h ≡ slice_index ws h = get_or-set_other ws k h w 0 (λ e. omega arith) in
    let rest : stack_of h (slice_set ws k w) ≡ stack_of h ws = stack_of-set h ws k w (omega arith) in
    rw (here, rest) refl

-- the upper word
pub stack_of-top : (h : ℕ) (ws : List ℕ) → 1 ≤ h → stack_of h ws ≡ slice_index ws (h - 1) ∷ stack_of (h - 1) ws
stack_of-top zero ws some = absurd (omega arith)
stack_of-top (suc h) ws some = let e : suc h - 1 ≡ h = omega arith in rw e refl

-- the two upper words
pub stack_of-two : (h : ℕ) (ws : List ℕ) → 2 ≤ h → stack_of h ws ≡ slice_index ws (h - 1) ∷ slice_index ws (h - 2) ∷ stack_of (h - 2) ws
stack_of-two h ws some =
    let e : h - 1 - 1 ≡ h - 2 = omega arith in
    let more : stack_of (h - 1) ws ≡ slice_index ws (h - 1 - 1) ∷ stack_of (h - 1 - 1) ws = stack_of-top (h - 1) ws (omega arith) in
    stack_of-top h ws (omega arith) ∙ ap (λ l. slice_index ws (h - 1) ∷ l) (more ∙ ap (λ q. slice_index ws q ∷ stack_of q ws) e)

-- the three upper words
pub stack_of-three : (h : ℕ) (ws : List ℕ) → 3 ≤ h → stack_of h ws ≡ slice_index ws (h - 1) ∷ slice_index ws (h - 2) ∷ slice_index ws (h - 3) ∷ stack_of (h - 3) ws
stack_of-three h ws some =
    let e : h - 2 - 1 ≡ h - 3 = omega arith in
    let more : stack_of (h - 2) ws ≡ slice_index ws (h - 2 - 1) ∷ stack_of (h - 2 - 1) ws = stack_of-top (h - 2) ws (omega arith) in
    stack_of-two h ws (omega arith) ∙ ap (λ l. slice_index ws (h - 1) ∷ slice_index ws (h - 2) ∷ l) (more ∙ ap (λ q. slice_index ws q ∷ stack_of q ws) e)

-- one more word
pub stack_of-push : (h : ℕ) (ws : List ℕ) (w : ℕ) → h < length ws → stack_of (h + 1) (slice_set ws h w) ≡ w ∷ stack_of h ws
stack_of-push h ws w within =
    let e : h + 1 ≡ suc h = omega arith in
    let here : slice_index (slice_set ws h w) h ≡ w = get_or-set_same ws h w 0 within in
    let rest : stack_of h (slice_set ws h w) ≡ stack_of h ws = stack_of-set h ws h w (omega arith) in
    rw (e, here, rest) refl

-- a word in the place of upper words
pub stack_of-put : (h k : ℕ) (ws : List ℕ) (w : ℕ) → h ≡ k + 1 → k < length ws → stack_of h (slice_set ws k w) ≡ w ∷ stack_of k ws
stack_of-put h k ws w next within = ap (λ q. stack_of q (slice_set ws k w)) next ∙ stack_of-push k ws w within

-- ---- the locals

-- a write before the locals leaves them
pub locals_of-below : (ws : List ℕ) (k w : ℕ) → k < 256 → locals_of (slice_set ws k w) ≡ locals_of ws
locals_of-below ws k w below = ap (take 32) (drop-set-lt 256 ws k w below)

-- a write behind the locals leaves them
pub locals_of-above : (ws : List ℕ) (k w : ℕ) → 288 ≤ k → locals_of (slice_set ws k w) ≡ locals_of ws
locals_of-above ws k w above =
    let e : k ≡ 256 + (k - 256) = omega arith in
    ap (λ q. take 32 (drop 256 (set ws q w))) e ∙ (ap (take 32) (drop-set-add 256 ws (k - 256) w) ∙ take-set-le 32 (drop 256 ws) (k - 256) w (omega arith))

-- a local is written
pub locals_of-set : (ws : List ℕ) (l w : ℕ) → l < 32 → locals_of (slice_set ws (256 + l) w) ≡ slice_set (locals_of ws) l w
locals_of-set ws l w there = ap (take 32) (drop-set-add 256 ws l w) ∙ take-set-lt 32 (drop 256 ws) l w there

-- there are 32 locals in words that reach as far as the rounds left
pub length-locals_of : (ws : List ℕ) → 288 ≤ length ws → length (locals_of ws) ≡ 32
length-locals_of ws room = length-take-le 32 (drop 256 ws) (omega (arith, length-drop 256 ws))

-- a local is read
pub locals_of-get : (ws : List ℕ) (l : ℕ) → l < 32 → 288 ≤ length ws → slice_get (locals_of ws) l ≡ Some (slice_index ws (256 + l))
locals_of-get ws l there room =
    slice_get-get_or (locals_of ws) l 0 (omega (arith, length-locals_of ws room)) ∙ ap Some (get_or-take 32 (drop 256 ws) l 0 there ∙ get_or-drop 256 ws l 0)

-- ---- the rounds left

-- a write to none of their words leaves the loops
pub loops_of-set : (starts ws : List ℕ) (k w : ℕ) → ((j : ℕ) → j < length starts → lefts_start + j ≡ k → ⊥) → loops_of starts (slice_set ws k w) ≡ loops_of starts ws
loops_of-set [] ws k w other = refl
loops_of-set (start ∷ outer) ws k w other =
    let here : slice_index (slice_set ws k w) (lefts_start + length outer) ≡ slice_index ws (lefts_start + length outer) =
    get_or-set_other ws k (lefts_start + length outer) w 0 (other (length outer) (omega arith)) in
    let rest : loops_of outer (slice_set ws k w) ≡ loops_of outer ws = loops_of-set outer ws k w (λ j within. other j (omega arith)) in
    rw (here, rest) refl

-- one more loop
pub loops_of-push : (start rounds : ℕ) (outer ws : List ℕ) → lefts_start + length outer < length ws
    → loops_of (start ∷ outer) (slice_set ws (lefts_start + length outer) rounds)
    ≡ record { start = start; left = rounds } ∷ loops_of outer ws
loops_of-push start rounds outer ws within =
    let here : slice_index (slice_set ws (lefts_start + length outer) rounds) (lefts_start + length outer) ≡ rounds = get_or-set_same ws (lefts_start + length outer) rounds 0 within in
    let rest : loops_of outer (slice_set ws (lefts_start + length outer) rounds) ≡ loops_of outer ws = loops_of-set outer ws (lefts_start + length outer) rounds (λ j less e. omega arith) in
    rw (here, rest) refl

pub starts_of-loops_of : (starts ws : List ℕ) → starts_of (loops_of starts ws) ≡ starts
starts_of-loops_of [] ws = refl
starts_of-loops_of (start ∷ outer) ws = ap (λ l. start ∷ l) (starts_of-loops_of outer ws)

-- a write through the slice of a vector's elements
pub refill-set : (words : List ℕ) (i word : ℕ) → refill (length words) words (set words i word) ≡ set words i word
refill-set words i word =
    rw (length-set words i word, drop-length words, append-nil (set words i word)) (take_all (length words) (set words i word) (omega (arith, length-set words i word)))
